-- Which faults of workers a run may end with, by the job (`pool_faults`), and what is told of a run that ends with status 4 (`TellsWant`).
--
-- Example: `options` shares no search, so it ends with no fault of workers; `debug` doesn't end for the number of workers, since its commands
-- name 1 to 32, and for none where no command is `pool`. proofs/JobExamples.antt shows it.
use Rattle.std.specs.Prelude.{ℕ, ◌≡◌, ◌⊎◌, ⊤, true, List}
use Rattle.byte_streams.specs.Stream.{Stream, Takes}
use Rattle.byte_streams.specs.Input.{IsAllOf}
use Rattle.lab_pool.specs.declared.fault.PoolFault.{PoolFault}
use Rattle.debug_script.specs.Input.{command_lines}
use Rattle.debug_script.specs.Refusals.{MayEnd, has_pool, IsWantOrPool}
use Rattle.polylab_engine.specs.declared.job.Job.{Job}
use Rattle.polylab_engine.specs.declared.job.Job.TheVariants as jobs
use Rattle.polylab_engine.specs.declared.job.CoverJob.{CoverJob}
use Rattle.polylab_engine.specs.declared.job.CoverJob.TheVariants as cover_jobs
use Rattle.polylab_engine.specs.declared.job.PuzzleJob.{PuzzleJob}
use Rattle.polylab_engine.specs.declared.job.PuzzleJob.TheVariants as puzzle_jobs
use Rattle.polylab_engine.specs.declared.answer.NoText.{NoText}
use Rattle.polylab_engine.specs.declared.answer.NoText.TheVariants as no_texts
use Rattle.polylab_engine.specs.declared.engine.RunEnding.{RunEnding}
use Rattle.polylab_engine.specs.declared.engine.RunEnding.TheVariants as endings
use Rattle.polylab_engine.specs.Outcome.{no_memory, pool_refusal}

-- no fault of workers
abbrev pub NoPool : PoolFault → Type 0
NoPool fault = ⊥

-- with this fault of workers command lines may end, of which one then asks for workers
abbrev pub MayEndAt : List (List ℕ) → PoolFault → Type 0
MayEndAt lines fault = MayEnd fault × (has_pool lines ≡ true)

-- with this one `debug` may end of an input
abbrev pub MayEndBy : List ℕ → PoolFault → Type 0
MayEndBy input = MayEndAt (command_lines input)

-- with which faults of workers a job on a cover text may end, where a search may end with these
abbrev pub cover_faults : CoverJob → (PoolFault → Type 0) → List ℕ → PoolFault → Type 0
cover_faults cover_jobs.List May input = May
cover_faults cover_jobs.Count May input = May
cover_faults (cover_jobs.First n) May input = NoPool
cover_faults cover_jobs.Debug May input = MayEndBy input

-- the same of a job on a puzzle
abbrev pub puzzle_faults : PuzzleJob → (PoolFault → Type 0) → List ℕ → PoolFault → Type 0
puzzle_faults puzzle_jobs.Solve May input = May
puzzle_faults (puzzle_jobs.First n) May input = NoPool
puzzle_faults puzzle_jobs.Count May input = May
puzzle_faults puzzle_jobs.Classes May input = May
puzzle_faults puzzle_jobs.Options May input = NoPool
puzzle_faults (puzzle_jobs.SolveUpTo group) May input = May
puzzle_faults (puzzle_jobs.CountUpTo group) May input = May
puzzle_faults (puzzle_jobs.OptionsUpTo group) May input = NoPool
puzzle_faults puzzle_jobs.Debug May input = MayEndBy input

-- the same of any job
abbrev pub pool_faults : Job → (PoolFault → Type 0) → List ℕ → PoolFault → Type 0
pool_faults (jobs.Cover job) May input = cover_faults job May input
pool_faults (jobs.Puzzle job) May input = puzzle_faults job May input
pool_faults (jobs.Resume steps list) May input = NoPool
pool_faults (jobs.Join counted) May input = NoPool

-- these may be of all bytes of an input
abbrev pub MayOfInput : (List ℕ → PoolFault → Type 0) → Stream → PoolFault → Type 0
MayOfInput May input fault = (bytes : List ℕ) × IsAllOf bytes input × May bytes fault

-- a job that has no text was refused, or ends with want of memory or a fault of workers that may be
abbrev pub IsNoTextOf : (PoolFault → Type 0) → NoText → Type 0
IsNoTextOf May (no_texts.Refused line) = ⊤
IsNoTextOf May (no_texts.Fault fault) = IsWantOrPool May fault

-- a run that ends by a fault of workers ends by one that may be
abbrev pub IsEndingOf : (PoolFault → Type 0) → RunEnding → Type 0
IsEndingOf May (endings.Pool fault) = May fault
IsEndingOf May _ = ⊤

-- want of memory is told, or a fault of workers that may be
abbrev pub TellsWant : (PoolFault → Type 0) → Stream → Stream → Type 0
TellsWant May old new = Takes old new no_memory ⊎ ((fault : PoolFault) × May fault × Takes old new (pool_refusal fault))

-- where the status is 4, this is told by faults of whichever kind, by what a contract sees of them
abbrev pub TellsAtFour : {F : Type 0} → ℕ → (F → Stream) → (PoolFault → Type 0) → F → F → Type 0
TellsAtFour status told May old new = status ≡ 4 → TellsWant May (told old) (told new)
