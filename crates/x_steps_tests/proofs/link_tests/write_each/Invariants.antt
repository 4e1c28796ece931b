use Rattle.std.proofs.Common.{◌≡◌, length}
use Rattle.x_steps_tests.proofs.link_tests.write_each.Given as goal

abbrev pub invariant-loop-index : goal.invariant-loop-index
invariant-loop-index g l = length l.block ≡ length l.fn.block
