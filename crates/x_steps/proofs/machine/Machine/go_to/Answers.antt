use Rattle.x_steps.proofs.ResumeLemmas.{same_at}
use Rattle.x_steps.proofs.machine.Machine.go_to.Goals as goal

pub turn-requires : goal.turn-requires
turn-requires g c = record { fits = c.requires.fits; same = same_at _ _ _ c.requires.label c.in_default.not-X5-0 c.in_default.not-X6-0 c.in_default.not-X7-0 }
