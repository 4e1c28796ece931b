-- The numbers and names of the refusals: `number_of` and `name_of`.
--
-- Example: `StaleLease` has the number 3, whatever the mark is that it tells; `OutOfMemory` has none. proofs/HistoryExamples.antt computes it.
use Rattle.std.specs.Prelude.{ℕ, Option, Some, None, List, codes}
use Rattle.lab_history.specs.declared.fault.BookFault.{BookFault}
use Rattle.lab_history.specs.declared.fault.BookFault.TheVariants.{UnknownBranch, NotWaiting, StaleLease, ForeignProblem, NotAfterMark}
use Rattle.lab_history.specs.declared.fault.BookFault.TheVariants.{BeyondEnd, NotAMark, NotAtEnd}
use Rattle.lab_history.specs.declared.fault.BookFault.TheVariants.{NothingToRetract, SeatMismatch, OutOfMemory}

-- the number of a refusal; out of memory has none
abbrev pub number_of : BookFault → Option ℕ
number_of UnknownBranch = Some 1
number_of NotWaiting = Some 2
number_of (StaleLease mark) = Some 3
number_of ForeignProblem = Some 4
number_of NotAfterMark = Some 5
number_of BeyondEnd = Some 6
number_of NotAMark = Some 7
number_of NotAtEnd = Some 8
number_of NothingToRetract = Some 9
number_of SeatMismatch = Some 10
number_of OutOfMemory = None

-- its name
abbrev pub name_of : BookFault → List ℕ
name_of UnknownBranch = codes "UnknownBranch"
name_of NotWaiting = codes "NotWaiting"
name_of (StaleLease mark) = codes "StaleLease"
name_of ForeignProblem = codes "ForeignProblem"
name_of NotAfterMark = codes "NotAfterMark"
name_of BeyondEnd = codes "BeyondEnd"
name_of NotAMark = codes "NotAMark"
name_of NotAtEnd = codes "NotAtEnd"
name_of NothingToRetract = codes "NothingToRetract"
name_of SeatMismatch = codes "SeatMismatch"
name_of OutOfMemory = codes "OutOfMemory"
