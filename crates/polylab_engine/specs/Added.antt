-- What the answers of parts add up to, if they are what `resume` writes.
--
-- Example: the small problem's run up to the cut 4 and from there on: the answers `visits 0`, `steps 20`, `levels 1 1 1` and `visits 1`,
-- `steps 23`, `levels 0 1 1 1` add up to what `cover --count` writes.
use Rattle.std.specs.Prelude.{ℕ, ◌≡◌, false, List, [], ◌∷◌, Option}
use Rattle.std.specs.Prelude as prelude
use Rattle.text_lines.specs.Writing.{text_of}
use Rattle.x_steps.specs.StateValue.{start}
use Rattle.x_snapshot.specs.Snapshot.{SnapshotValue}
use Rattle.part_sums.specs.Answers.{CountsValue, counts_with, answer_lines}
use Rattle.part_sums.specs.Parts.{CountedPart}
use Rattle.polylab_engine.specs.Account.{ReportValue}
use Rattle.polylab_engine.specs.Resumed.{resume_output}

-- the numbers of a report
abbrev pub report_counts : ReportValue → CountsValue
report_counts r = counts_with r.visited r.steps r.levels

-- the answer of each part is what `resume` writes of it
abbrev pub AreResumed : List CountedPart → Type 0
AreResumed [] = Unit {0}
AreResumed (q ∷ qs) = (text_of (answer_lines q.counts) ≡ resume_output prelude.None false q.snapshot) × AreResumed qs

-- a snapshot at the start of a run, in a branch that ends with the run
abbrev pub IsWholeRun : SnapshotValue → Type 0
IsWholeRun v = (v.state ≡ start) × (v.hi ≡ prelude.None)
