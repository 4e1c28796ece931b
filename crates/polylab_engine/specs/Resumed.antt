-- What `resume` writes of a snapshot: what is reported of the stretch from its state on, and then `end`, or the snapshot where the
-- stretch stops, which is the next input.
--
-- Example: of the small problem, from X1 on and with 30 steps asked for, it writes `visits 1`, `steps 30`, `levels 1 2 2 1`, and the
-- snapshot at X8 after the choices 4 5 1 (proofs/OutputExamples.antt computes the lines and the state).
use Rattle.std.specs.Prelude.{ℕ, Bool, Option, List, [], ◌∷◌, ◌++◌, if◌then◌else◌, codes}
use Rattle.text_lines.specs.Writing.{line_text}
use Rattle.x_steps.specs.StateValue.{StateValue}
use Rattle.x_steps.specs.Run.{after, steps_between}
use Rattle.x_branches.specs.Branch.{end_of}
use Rattle.x_branches.specs.RunOrder.{comes_before}
use Rattle.x_snapshot.specs.Snapshot.{SnapshotValue, branch_between, at_state}
use Rattle.x_snapshot.specs.Writer.{snapshot_text}
use Rattle.polylab_engine.specs.Output.{report_text}
use Rattle.polylab_engine.specs.Stretch.{steps_taken, stretch_report}
use Rattle.polylab_engine.specs.Account.{ReportValue}
use Rattle.x_snapshot.specs.Judged.{snapshot_of}
use Rattle.x_steps.specs.Machine.{MachineValue}
use Rattle.std.specs.Prelude.{◌≡◌, Ok}

-- the state that ends a snapshot's branch
abbrev pub branch_end : SnapshotValue → StateValue
branch_end v = end_of (branch_between v.problem v.lo v.hi).hi

-- where a stretch from a snapshot's state on stops: at its branch's end, or as many steps on as are asked for, where that comes first
abbrev pub stop_of : Option ℕ → SnapshotValue → StateValue
stop_of most v = after v.problem (steps_taken most (steps_between v.problem v.state (branch_end v))) v.state

-- the position of a machine that stands at a snapshot's state
abbrev pub snapshot_position : SnapshotValue → MachineValue
snapshot_position v = record { problem = v.problem; state = v.state }

-- the report of the stretch from a snapshot's state up to t
abbrev pub report_up_to : Bool → SnapshotValue → StateValue → ReportValue
report_up_to keeps v t = stretch_report keeps v.problem v.state t

-- the line that tells that the branch ended
abbrev pub end_text : List ℕ
end_text = line_text (codes "end" ∷ [])

-- what stands last where a stretch stops at t: the snapshot there, or that the branch ended
abbrev pub rest_text : SnapshotValue → StateValue → List ℕ
rest_text v t = if comes_before v.problem t (branch_end v) then snapshot_text (at_state v t) else end_text

-- what `resume` writes of a snapshot, with so many steps asked for, and with the visits or without them
unfoldable pub resume_output : Option ℕ → Bool → SnapshotValue → List ℕ
resume_output most lists v =
    report_text (report_up_to lists v (stop_of most v)) ++ rest_text v (stop_of most v)

-- what is written of a snapshot is read as that snapshot
abbrev pub IsReadBack : SnapshotValue → Type 0
IsReadBack v = snapshot_of (snapshot_text v) ≡ Ok v
