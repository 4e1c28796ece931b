-- Why a text is read as no snapshot: a refusal as a fault (`fault_from`), the first fault of a text (`IsFaultOfText`), and the same unless
-- memory ran out (`IsReadRefused`).
--
-- Example: `hello` is refused as Truncated: its first line has no end. proofs/SnapshotExamples.antt shows it.
use Rattle.std.specs.Prelude.{ℕ, ◌≡◌, ◌⊎◌, List, Ok, Err}
use Rattle.text_lines.specs.declared.refusal.Refusal.{Refusal}
use Rattle.text_lines.specs.declared.refusal.Refusal.TheVariants as refusals
use Rattle.x_snapshot.specs.declared.fault.SnapshotFault.{SnapshotFault}
use Rattle.x_snapshot.specs.declared.fault.SnapshotFault.TheVariants.{OutOfMemory}
use Rattle.x_snapshot.specs.Snapshot.{SnapshotValue}
use Rattle.x_snapshot.specs.Refusals.{IsPositionRefused}
use Rattle.x_snapshot.specs.Reader.{parts_of}

-- a refusal as a fault
abbrev pub fault_from : Refusal SnapshotFault → SnapshotFault
fault_from (refusals.Fault fault) = fault
fault_from refusals.OutOfMemory = OutOfMemory

-- the first fault of a text's lines; or of the cuts and the state that they say
abbrev pub IsFaultOfText : List ℕ → SnapshotFault → Type 0
IsFaultOfText text fault = (parts_of text ≡ Err fault)
    ⊎ ((v : SnapshotValue) × (parts_of text ≡ Ok v) × IsPositionRefused v.problem v.lo v.hi v.state fault)

-- the first fault of a text, unless memory ran out
abbrev pub IsReadRefused : List ℕ → SnapshotFault → Type 0
IsReadRefused text OutOfMemory = Unit {0}
IsReadRefused text fault = IsFaultOfText text fault
