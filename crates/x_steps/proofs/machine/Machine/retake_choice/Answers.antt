use Rattle.cover_problem.proofs.PathLemmas.{valid_push}
use Rattle.x_steps.proofs.ResumeLemmas.{turned}
use Rattle.x_steps.proofs.MovingLemmas.{known, retaken, same_uncovered}
use Rattle.x_steps.proofs.machine.Machine.retake_choice.Goals as goal

pub turn-requires : goal.turn-requires
turn-requires g c =
    let at_X8 = retaken _ _ _ _ _ (known _ _ _ c.requires.label c.requires.cursor) c.retake.ensures in
    record { fits = rw at_X8 (valid_push _ _ _ c.requires.fits.0 c.requires.fits.1); same = same_uncovered _ _ _ _ at_X8 }

pub returns : goal.returns
returns g c =
    let at_X8 = retaken _ _ _ _ _ (known _ _ _ c.requires.label c.requires.cursor) c.retake.ensures in
    turned _ _ _ _ _ _ at_X8 c.turn.ensures
