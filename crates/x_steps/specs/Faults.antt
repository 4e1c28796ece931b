-- The numbers of the refusals.
use Rattle.std.specs.Prelude.{ℕ, Option, Some, None}
use Rattle.x_steps.specs.declared.fault.StepFault.{StepFault}
use Rattle.x_steps.specs.declared.fault.StepFault.TheVariants.{AtFirst, Done}
use Rattle.x_steps.specs.declared.fault.AtFault.{AtFault}
use Rattle.x_steps.specs.declared.fault.AtFault.TheVariants.{NotAState, OutOfMemory}

-- the number of a refused step
abbrev pub number_of : StepFault → ℕ
number_of AtFirst = 1
number_of Done = 2

-- the number of a state that was refused; out of memory has none
abbrev pub number_at : AtFault → Option ℕ
number_at NotAState = Some 3
number_at OutOfMemory = None
