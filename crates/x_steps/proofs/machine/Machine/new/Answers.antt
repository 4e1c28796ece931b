use Rattle.std.proofs.Common.{arith}
use Rattle.x_steps.proofs.MachineLemmas.{starts}
use Rattle.x_steps.proofs.machine.Machine.new.Goals as goal

pub invariant_of-result : goal.invariant_of-result
invariant_of-result g c =
    starts _ _ _ _ _ c.items.ensures.problem c.requires.same_problem c.requires.covered c.in-Ok.ensures.items (omega (arith, c.in-Ok.ensures.exact, c.items.ensures.count))
