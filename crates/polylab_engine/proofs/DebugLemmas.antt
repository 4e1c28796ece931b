-- What `debug` writes for an input is the outcome of the job that commands follow.
use Rattle.std.proofs.Common.{◌≡◌, ℕ, List, Result, Some}
use Rattle.std.specs.Global.{Vec}
use Rattle.polylab_engine.specs.declared.answer.NoText.{NoText}
use Rattle.polylab_engine.specs.declared.job.Job.{Job}
use Rattle.polylab_engine.specs.declared.job.Job.TheVariants as jobs
use Rattle.polylab_engine.specs.declared.job.CoverJob.TheVariants as cover_jobs
use Rattle.polylab_engine.specs.declared.job.PuzzleJob.TheVariants as puzzle_jobs
use Rattle.polylab_engine.specs.declared.job.TextKind.{TextKind}
use Rattle.polylab_engine.specs.declared.job.TextKind.TheVariants as kinds
use Rattle.polylab_engine.specs.Jobs.{debugged}
use Rattle.polylab_engine.specs.Outcome.{debug_outcome, job_outcome, HasOutcome}

module _ (input : List ℕ) (r : Result (Vec ℕ) NoText) where
  pub replies_are : (job : Job) (kind : TextKind) → debugged job ≡ Some kind → HasOutcome r (debug_outcome kind input) → HasOutcome r (job_outcome job input)
  unfolding job_outcome
  replies_are (jobs.Cover cover_jobs.Debug) kinds.Cover e h = h
  replies_are (jobs.Puzzle puzzle_jobs.Debug) kinds.Puzzle e h = h
  replies_are (jobs.Cover cover_jobs.Debug) kinds.Puzzle e h = absurd (cc)
  replies_are (jobs.Puzzle puzzle_jobs.Debug) kinds.Cover e h = absurd (cc)
  replies_are (jobs.Cover cover_jobs.List) kind e h = absurd (cc)
  replies_are (jobs.Cover cover_jobs.Count) kind e h = absurd (cc)
  replies_are (jobs.Cover (cover_jobs.First n)) kind e h = absurd (cc)
  replies_are (jobs.Puzzle puzzle_jobs.Solve) kind e h = absurd (cc)
  replies_are (jobs.Puzzle (puzzle_jobs.First n)) kind e h = absurd (cc)
  replies_are (jobs.Puzzle puzzle_jobs.Count) kind e h = absurd (cc)
  replies_are (jobs.Puzzle puzzle_jobs.Classes) kind e h = absurd (cc)
  replies_are (jobs.Puzzle puzzle_jobs.Options) kind e h = absurd (cc)
  replies_are (jobs.Puzzle (puzzle_jobs.SolveUpTo group)) kind e h = absurd (cc)
  replies_are (jobs.Puzzle (puzzle_jobs.CountUpTo group)) kind e h = absurd (cc)
  replies_are (jobs.Puzzle (puzzle_jobs.OptionsUpTo group)) kind e h = absurd (cc)
  replies_are (jobs.Resume steps list) kind e h = absurd (cc)
  replies_are (jobs.Join counted) kind e h = absurd (cc)
