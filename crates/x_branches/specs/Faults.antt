-- The numbers and names of the refusals: `number_of` and `name_of` those of a runner, `number_of_cut` those of a cut.
--
-- Example: `StretchFull` has the number 7; `OutOfMemory` has none. A cut's `NotUntried` has the number 4. proofs/RunnerExamples.antt
-- computes it.
use Rattle.std.specs.Prelude.{ℕ, Option, Some, None, List, codes}
use Rattle.x_branches.specs.declared.fault.RunnerFault.{RunnerFault}
use Rattle.x_branches.specs.declared.fault.RunnerFault.TheVariants.{AtBranchEnd, AtMark, NothingUntried, NotUntried, OutsideBranch}
use Rattle.x_branches.specs.declared.fault.RunnerFault.TheVariants.{NotAtMark, StretchFull, OutOfMemory}
use Rattle.x_branches.specs.declared.fault.CutFault.{CutFault}
use Rattle.x_branches.specs.declared.fault.CutFault.TheVariants as cuts

-- the number of a refusal; out of memory has none
abbrev pub number_of : RunnerFault → Option ℕ
number_of AtBranchEnd = Some 1
number_of AtMark = Some 2
number_of NothingUntried = Some 3
number_of NotUntried = Some 4
number_of OutsideBranch = Some 5
number_of NotAtMark = Some 6
number_of StretchFull = Some 7
number_of OutOfMemory = None

-- its name
abbrev pub name_of : RunnerFault → List ℕ
name_of AtBranchEnd = codes "AtBranchEnd"
name_of AtMark = codes "AtMark"
name_of NothingUntried = codes "NothingUntried"
name_of NotUntried = codes "NotUntried"
name_of OutsideBranch = codes "OutsideBranch"
name_of NotAtMark = codes "NotAtMark"
name_of StretchFull = codes "StretchFull"
name_of OutOfMemory = codes "OutOfMemory"

-- the number of a cut's refusal, the same as a runner's
abbrev pub number_of_cut : CutFault → Option ℕ
number_of_cut cuts.NotUntried = Some 4
number_of_cut cuts.OutOfMemory = None
