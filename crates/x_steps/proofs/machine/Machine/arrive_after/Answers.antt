use Rattle.x_steps.proofs.ResumeLemmas.{fits_taken, same_at_X8, left_from, turned}
use Rattle.x_steps.proofs.machine.Machine.arrive_after.Goals as goal

pub turn-requires : goal.turn-requires
turn-requires g c = record { fits = fits_taken _ _ _ _ c.go_down.ensures c.requires.fits; same = same_at_X8 _ _ _ _ _ c.go_down.ensures }

pub returns : goal.returns
returns g c = left_from _ _ _ _ _ _ (turned _ _ _ _ _ _ c.go_down.ensures c.turn.ensures) c.leave.ensures
