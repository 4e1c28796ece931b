use Rattle.debug_laws.proofs.PooledLemmas.{pooled_alike, pooled_seated}
use Rattle.debug_laws.proofs.laws.pooled_sessions_are_alike.Goals as goal

pub returns-clause-sound : goal.returns-clause-sound
returns-clause-sound c = λ a b new p n s t. pooled_alike a b new p n s t

pub returns-clause-seated : goal.returns-clause-seated
returns-clause-seated c = λ a b new p n s t. pooled_seated a b new p n s t
