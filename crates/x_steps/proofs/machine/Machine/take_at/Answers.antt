use Rattle.x_steps.proofs.ResumeLemmas.{took, fits_taken, same_at_X8, left_from, turned}
use Rattle.x_steps.proofs.machine.Machine.take_at.Goals as goal

pub turn-requires : goal.turn-requires
turn-requires g c =
    let at_X2 = took _ _ _ _ _ _ c.open_at.ensures c.take.ensures in
    record { fits = fits_taken _ _ _ _ at_X2 c.requires.fits; same = same_at_X8 _ _ _ _ _ at_X2 }

pub returns : goal.returns
returns g c =
    let at_X2 = took _ _ _ _ _ _ c.open_at.ensures c.take.ensures in
    left_from _ _ _ _ _ _ (turned _ _ _ _ _ _ at_X2 c.turn.ensures) c.leave.ensures
