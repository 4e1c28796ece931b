use Rattle.std.proofs.Common.{arith}
use Rattle.x_branches.proofs.PostingLemmas.{not_at_mark}
use Rattle.x_branches.proofs.runner.Runner.is_end_of.Goals as goal

pub returns-then-self-gt0 : goal.returns-then-self-gt0
returns-then-self-gt0 g c = rw (← c.self.view_is) (not_at_mark _ _ _ _ c.self.invariant _ (λ e. omega arith))
