-- Questions of a job: whether it stops at the first ones (`is_first`), and whether commands follow its text (`takes_commands`).
--
-- Example: `cover --first 2` stops at the second cover; `debug` takes commands, and `options` does neither. proofs/JobExamples.antt shows it.
use Rattle.std.specs.Prelude.{Bool, true, false, Option, Some, None, is_some}
use Rattle.polylab_engine.specs.declared.job.Job.{Job}
use Rattle.polylab_engine.specs.declared.job.Job.TheVariants as jobs
use Rattle.polylab_engine.specs.declared.job.CoverJob.TheVariants as cover_jobs
use Rattle.polylab_engine.specs.declared.job.PuzzleJob.TheVariants as puzzle_jobs
use Rattle.polylab_engine.specs.declared.job.TextKind.{TextKind}
use Rattle.polylab_engine.specs.declared.job.TextKind.TheVariants as kinds

-- whether it stops at the first ones, which one worker finds
abbrev pub is_first : Job → Bool
is_first (jobs.Cover (cover_jobs.First n)) = true
is_first (jobs.Puzzle (puzzle_jobs.First n)) = true
is_first _ = false

-- the kind of the text that commands follow in its input, if they do
abbrev pub debugged : Job → Option TextKind
debugged (jobs.Cover cover_jobs.Debug) = Some kinds.Cover
debugged (jobs.Puzzle puzzle_jobs.Debug) = Some kinds.Puzzle
debugged _ = None

-- whether commands follow the text of its input
abbrev pub takes_commands : Job → Bool
takes_commands job = is_some (debugged job)
