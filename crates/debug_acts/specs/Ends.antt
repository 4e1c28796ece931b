-- What is answered where a branch is given up: the text of `save`, a snapshot after the number of its lines (`save_text`), and the line of
-- `close` (`close_line`).
--
-- Example: where no worker is at an end, the line is `refused book 8 NotAtEnd`. proofs/ActExamples.antt computes it.
use Rattle.std.specs.Prelude.{ℕ, List, Option, if◌then◌else◌}
use Rattle.cover_problem.specs.Problem.{ProblemValue}
use Rattle.x_branches.specs.Cut.{CutPath}
use Rattle.x_branches.specs.Runner.{IsOf}
use Rattle.x_texts.specs.declared.breakpoint.Break.{Break}
use Rattle.x_snapshot.specs.Snapshot.{SnapshotValue, IsCutIfAny, snapshot_with}
use Rattle.x_snapshot.specs.Writer.{snapshot_text}
use Rattle.lab_history.specs.declared.fault.BookFault.TheVariants.{NotAtEnd}
use Rattle.lab_book.specs.Book.{cut_path}
use Rattle.lab_world.specs.Worker.{WorkerValue}
use Rattle.debug_language.specs.declared.words.Plain.TheVariants.{Closed}
use Rattle.debug_language.specs.Replies.{saved_text}
use Rattle.debug_acts.specs.Lines.{plain, book_refusal}
use Rattle.debug_acts.specs.Acts.{is_ended}

-- where the search stands, as a snapshot
abbrev pub snapshot_of_worker : WorkerValue → List Break → SnapshotValue
snapshot_of_worker w breaks = snapshot_with w.runner.problem (cut_path w.runner.branch.lo) (cut_path w.runner.branch.hi) w.runner.position breaks

-- where a cut is a problem's, these choices are a cut of its search, if there are any
abbrev pub AreChoicesOf : Option CutPath → Option (List ℕ) → Type 0
AreChoicesOf cut choices = (p : ProblemValue) → IsOf p cut → IsCutIfAny p choices

-- the text of that, after the number of its lines
abbrev pub save_text : WorkerValue → List Break → List ℕ
save_text w breaks = saved_text (snapshot_text (snapshot_of_worker w breaks))

-- the line of `close`: at the branch's end it is closed, and before it the book refuses
abbrev pub close_line : Option WorkerValue → List (List ℕ)
close_line x = if is_ended x then plain Closed else book_refusal NotAtEnd
