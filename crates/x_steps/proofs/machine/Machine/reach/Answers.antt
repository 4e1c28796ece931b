use Rattle.std.proofs.Common.{refl}
use Rattle.x_steps.proofs.OrderLemmas.{fits_valid}
use Rattle.x_steps.proofs.machine.Machine.reach.Goals as goal

pub returns-then-not-follow-clause-unfit : goal.returns-then-not-follow-clause-unfit
returns-then-not-follow-clause-unfit g c = λ _ fits. c.if-not-follow.ensures.unfit refl (rw c.deref.ensures.value (fits_valid _ _ _ _ fits))
