use Rattle.std.proofs.Common.{take}
use Rattle.x_steps.specs.Resume.{IsDown}
use Rattle.x_steps.proofs.machine.Machine.follow.Given as goal

abbrev pub invariant-loop-option : goal.invariant-loop-option
invariant-loop-option g l = IsDown l.fn.self.problem (take l.option-index l.path) l.self l.flags
