-- The numbers and names of the debugger's own refusals.
use Rattle.std.specs.Prelude.{ℕ, List, codes}
use Rattle.debug_language.specs.declared.fault.DebugFault.{DebugFault}
use Rattle.debug_language.specs.declared.fault.DebugFault.TheVariants.{BadCommand, AtEnd, AtStart, AlreadyOpen, NoBranch}

-- the number of a refusal
abbrev pub number_of : DebugFault → ℕ
number_of BadCommand = 1
number_of AtEnd = 2
number_of AtStart = 3
number_of AlreadyOpen = 4
number_of NoBranch = 5

-- its name
abbrev pub name_of : DebugFault → List ℕ
name_of BadCommand = codes "BadCommand"
name_of AtEnd = codes "AtEnd"
name_of AtStart = codes "AtStart"
name_of AlreadyOpen = codes "AlreadyOpen"
name_of NoBranch = codes "NoBranch"
