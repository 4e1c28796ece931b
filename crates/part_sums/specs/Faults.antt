-- The number (`number_of`) and the name (`name_of`) of each refusal of parts.
--
-- Example: `Gap` has the number 4 and its own name. proofs/SumExamples.antt computes it.
use Rattle.std.specs.Prelude.{ℕ, List, codes}
use Rattle.part_sums.specs.declared.fault.JoinFault.{JoinFault}
use Rattle.part_sums.specs.declared.fault.JoinFault.TheVariants.{NoWhole, BadPart, NotOnRun, Gap, Overlap, Twice, BadAnswer, TooLong}
use Rattle.part_sums.specs.declared.fault.JoinFault.TheVariants.{Truncated, LeftOut, BadNumbers}

-- the number of a refusal
abbrev pub number_of : JoinFault → ℕ
number_of NoWhole = 1
number_of BadPart = 2
number_of NotOnRun = 3
number_of Gap = 4
number_of Overlap = 5
number_of Twice = 6
number_of BadAnswer = 7
number_of TooLong = 8
number_of Truncated = 9
number_of LeftOut = 10
number_of BadNumbers = 11

-- its name
abbrev pub name_of : JoinFault → List ℕ
name_of NoWhole = codes "NoWhole"
name_of BadPart = codes "BadPart"
name_of NotOnRun = codes "NotOnRun"
name_of Gap = codes "Gap"
name_of Overlap = codes "Overlap"
name_of Twice = codes "Twice"
name_of BadAnswer = codes "BadAnswer"
name_of TooLong = codes "TooLong"
name_of Truncated = codes "Truncated"
name_of LeftOut = codes "LeftOut"
name_of BadNumbers = codes "BadNumbers"
