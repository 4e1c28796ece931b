use Rattle.x_steps.proofs.ResumeLemmas.{passed, label_at, turned}
use Rattle.x_steps.proofs.MovingLemmas.{known, closed, same_uncovered}
use Rattle.x_steps.proofs.machine.Machine.close_item.Goals as goal

pub close-requires : goal.close-requires
close-requires g c =
    let at_X7 = passed _ _ _ _ _ (known _ _ _ c.requires.label c.requires.cursor) c.give_up.ensures in
    label_at _ _ _ at_X7

pub turn-requires : goal.turn-requires
turn-requires g c =
    let at_X7 = passed _ _ _ _ _ (known _ _ _ c.requires.label c.requires.cursor) c.give_up.ensures in
    let at_X8 = closed _ _ _ _ _ at_X7 c.close.ensures in
    record { fits = rw at_X8 c.requires.valid; same = same_uncovered _ _ _ _ at_X8 }

pub returns : goal.returns
returns g c =
    let at_X7 = passed _ _ _ _ _ (known _ _ _ c.requires.label c.requires.cursor) c.give_up.ensures in
    let at_X8 = closed _ _ _ _ _ at_X7 c.close.ensures in
    turned _ _ _ _ _ _ at_X8 c.turn.ensures
