use Rattle.std.proofs.Common.{take, length, ◌-◌}
use Rattle.x_steps.specs.Resume.{IsOnPath}
use Rattle.x_steps.proofs.machine.Machine.rise_to.Given as goal

abbrev pub invariant-loop : goal.invariant-loop
invariant-loop g l = IsOnPath l.fn.self.problem (take (length l.fn.self.state.path - l.counter) l.fn.self.state.path) l.self
