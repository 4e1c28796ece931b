use Rattle.std.proofs.Common.{take, ◌++◌}
use Rattle.x_steps.specs.Resume.{IsOnPath}
use Rattle.x_steps.proofs.machine.Machine.go_down_all.Given as goal

abbrev pub invariant-loop-option : goal.invariant-loop-option
invariant-loop-option g l = IsOnPath l.fn.self.problem (l.fn.self.state.path ++ take l.option-index l.path) l.self
