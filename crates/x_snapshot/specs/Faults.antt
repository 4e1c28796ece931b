-- The number (`number_of`) and the name (`name_of`) of each refusal of a snapshot.
--
-- Example: `BadBreak` has the number 10 and its own name; out of memory has no number. proofs/SnapshotExamples.antt computes it.
use Rattle.std.specs.Prelude.{ℕ, Option, Some, None, List, codes}
use Rattle.x_snapshot.specs.declared.fault.SnapshotFault.{SnapshotFault}
use Rattle.x_snapshot.specs.declared.fault.SnapshotFault.TheVariants.{BadHeader, BadVersion, BadProblem, BadState, NotOnRun}
use Rattle.x_snapshot.specs.declared.fault.SnapshotFault.TheVariants.{OutsideBranch, Truncated, TrailingBytes, Spelling, BadBreak}
use Rattle.x_snapshot.specs.declared.fault.SnapshotFault.TheVariants.{OutOfMemory}

-- the number of a refusal; out of memory has none
abbrev pub number_of : SnapshotFault → Option ℕ
number_of BadHeader = Some 1
number_of BadVersion = Some 2
number_of BadProblem = Some 3
number_of BadState = Some 4
number_of NotOnRun = Some 5
number_of OutsideBranch = Some 6
number_of Truncated = Some 7
number_of TrailingBytes = Some 8
number_of Spelling = Some 9
number_of BadBreak = Some 10
number_of OutOfMemory = None

-- its name
abbrev pub name_of : SnapshotFault → List ℕ
name_of BadHeader = codes "BadHeader"
name_of BadVersion = codes "BadVersion"
name_of BadProblem = codes "BadProblem"
name_of BadState = codes "BadState"
name_of NotOnRun = codes "NotOnRun"
name_of OutsideBranch = codes "OutsideBranch"
name_of Truncated = codes "Truncated"
name_of TrailingBytes = codes "TrailingBytes"
name_of Spelling = codes "Spelling"
name_of BadBreak = codes "BadBreak"
name_of OutOfMemory = codes "OutOfMemory"
