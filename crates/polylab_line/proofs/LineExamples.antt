-- The examples of specs/Line.antt.
use Rattle.std.proofs.Common.{◌≡◌, ℕ, true, false, Some, None, List, [], ◌∷◌, ◌++◌, length, inl, inr, refl, ap, sym, ◌∙◌, arith}
use Rattle.std.proofs.lemmas.Bool.{false≢true}
use Rattle.byte_streams.specs.Stream.{Stream, HasFailed, Stays, Takes}
use Rattle.polylab_engine.specs.Outcome.{no_memory}
use Rattle.polylab_engine.specs.declared.job.Job.{Job}
use Rattle.polylab_engine.specs.declared.job.Job.TheVariants as jobs
use Rattle.polylab_engine.specs.declared.job.CoverJob.TheVariants as cover_jobs
use Rattle.polylab_line.specs.declared.line.Request.{Request}
use Rattle.polylab_line.specs.declared.line.LineFault.TheVariants.{Help, Usage, OutOfMemory}
use Rattle.polylab_line.specs.Line.{status_of, is_alone, IsTold, TellsNoJob}

its_status : status_of OutOfMemory ≡ 4
its_status = refl

-- what workers are asked to do
abbrev by_workers : ℕ → Job → Request
by_workers n job = record { job = job; workers = n; table = None; cache = None }

one_lists : is_alone (by_workers 1 (jobs.Cover cover_jobs.List)) ≡ true
one_lists = refl

two_do_not : is_alone (by_workers 2 (jobs.Cover cover_jobs.List)) ≡ false
two_do_not = refl

commands_may_ask_for_more : is_alone (by_workers 1 (jobs.Cover cover_jobs.Debug)) ≡ false
commands_may_ask_for_more = refl

-- a stream that has nothing
abbrev empty : Stream
empty = record { bytes = Some []; failed = false; answers = [] }

-- where memory ran out, something is told
silent : ¬ IsTold OutOfMemory empty empty empty empty
silent told = no_line told.1 where
  no_line : ¬ Takes empty empty no_memory
  no_line (inl all) = let e : length {A = ℕ} [] ≡ length no_memory = ap (length {A = ℕ}) all.0 in omega (arith, e)
  no_line (inr part) = false≢true part.1

-- of whichever kind the streams are
silent_too : ¬ TellsNoJob OutOfMemory (λ (s : Stream). s) (λ (s : Stream). s) empty empty empty empty
silent_too told = silent told
