use Rattle.x_steps.proofs.ResumeLemmas.{same_at_X5, turned}
use Rattle.x_steps.proofs.MovingLemmas.{on_valid, parts_of, up_to_last, on_past}
use Rattle.x_steps.proofs.machine.Machine.rise.Goals as goal

pub turn-requires : goal.turn-requires
turn-requires g c =
    let parts = parts_of _ _ c.requires.some (on_valid _ _ _ c.requires.on) in
    let at_X5 = up_to_last _ _ parts _ _ c.uncover_item.ensures c.unenter.ensures in
    record { fits = rw at_X5 parts.past; same = same_at_X5 _ _ _ _ _ at_X5 }

pub returns : goal.returns
returns g c =
    let parts = parts_of _ _ c.requires.some (on_valid _ _ _ c.requires.on) in
    let at_X5 = up_to_last _ _ parts _ _ c.uncover_item.ensures c.unenter.ensures in
    rw parts.is_front (on_past c.args.self.now.problem parts.front c.turn.new.self (turned _ _ _ _ _ _ at_X5 c.turn.ensures) parts.past)
