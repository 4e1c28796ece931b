-- What follows from how a run ended, clause by clause.
use Rattle.std.proofs.Common.{◌≡◌, ◌<◌, ℕ, false, ◌⊎◌, inl, inr, List, [], ◌∷◌, Result, Ok, Err, Some, None, IfSome, length, take, refl, sym, subst, arith}
use Rattle.std.specs.Prelude.{Option, Contains, OnOk, OnErr}
use Rattle.std.proofs.lemmas.Grind.{common_steps}
use Rattle.std.proofs.lemmas.List.{take_all}
use Rattle.std.proofs.lemmas.Option.{IfSome_then}
use Rattle.std.specs.Io.KnownBytes.{Appends}
use Rattle.std.proofs.KnownBytes.{Appends-kept, Appends-nil}
use Rattle.byte_streams.specs.Stream.{Stream, IsSound, HasFailed, Stays, TakesAll, TakesPart, Takes}
use Rattle.lab_pool.specs.declared.fault.PoolFault.{PoolFault}
use Rattle.polylab_engine.specs.declared.job.Job.{Job}
use Rattle.polylab_engine.specs.declared.engine.RunEnding.{RunEnding}
use Rattle.polylab_engine.specs.declared.engine.RunEnding.TheVariants.{Written, Refused, OutOfMemory, Pool, Unread, Unwritten}
use Rattle.polylab_engine.specs.Outcome.{job_outcome, to_write, no_memory, pool_refusal, bad_reader, bad_writer}
use Rattle.polylab_engine.specs.Listed.{IsListed}
use Rattle.polylab_engine.specs.Further.{TellsFurther}
use Rattle.polylab_engine.specs.declared.job.Job.TheVariants as jobs
use Rattle.polylab_engine.specs.declared.job.CoverJob.TheVariants as cover_jobs
use Rattle.polylab_engine.specs.declared.job.PuzzleJob.TheVariants as puzzle_jobs
use Rattle.polylab_engine.specs.Jobs.{takes_commands}
use Rattle.polylab_engine.specs.Refusals.{IsEndingOf, TellsWant, MayOfInput, NoPool, pool_faults}
use Rattle.polylab_engine.specs.Ending.{IsOutcomeOf, IsUnread, IsEnd, IsTold, IsProgramRun, status_of}
use Rattle.polylab_engine.proofs.ListedLemmas.{outcome_lists, outcome_further}

-- what holds of all bytes holds of those that are known
always : {P : List ℕ → Type 0} (known : Option (List ℕ)) → ((bytes : List ℕ) → P bytes) → IfSome known P
always None h = tt
always (Some bytes) h = h bytes

whole : (old new : Stream) (text : List ℕ) → TakesAll old new text → (n : ℕ) × Appends old.bytes new.bytes (take n text)
whole old new text h = (length text, subst (Appends old.bytes new.bytes) (sym (take_all (length text) text (omega arith))) h.0)

abbrev Beginning : Stream → Stream → Result (List ℕ) (List ℕ) → Type 0
Beginning old new given = (n : ℕ) × Appends old.bytes new.bytes (take n (to_write given))

-- what was written is a beginning of what is to be written, where that is a beginning for what was given
begins : (job : Job) (input old new : Stream) (given : Result (List ℕ) (List ℕ)) → IsOutcomeOf job input given → Beginning old new given → IfSome input.bytes (λ bytes. Beginning old new (job_outcome job bytes))
begins job input old new given h b = IfSome_then input.bytes h (λ bytes g. subst (Beginning old new) (sym g.1) b)

-- nothing written is a beginning of any text
kept : (job : Job) (input old new : Stream) → Stays old new → IfSome input.bytes (λ bytes. Beginning old new (job_outcome job bytes))
kept job input old new h = always input.bytes (λ bytes. (0, Appends-kept old.bytes old.bytes new.bytes [] (Appends-nil old.bytes) h.0))

-- input past the limit gives nothing
within : (job : Job) (input : Stream) (given : Result (List ℕ) (List ℕ)) (P : Type 0) → IsOutcomeOf job input given → IfSome input.bytes (λ bytes. 134217728 < length bytes → P)
within job input given P h = IfSome_then input.bytes h (λ bytes g past. absurd (let low = g.0 in omega arith))

status_known : (e : RunEnding) → Contains (0 ∷ 3 ∷ 4 ∷ 5 ∷ []) (status_of e)
status_known Written = (0, omega arith, refl)
status_known (Refused line) = (1, omega arith, refl)
status_known OutOfMemory = (2, omega arith, refl)
status_known (Pool fault) = (2, omega arith, refl)
status_known _ = (3, omega arith, refl)

-- at status 4 want of memory is told, or a fault that the run may end with
pub want_is : (May : PoolFault → Type 0) (f f' : Stream) (e : RunEnding) → IsEndingOf May e → IsTold e f f' → status_of e ≡ 4 → TellsWant May f f'
want_is May f f' OutOfMemory h t s = inl t
want_is May f f' (Pool fault) h t s = inr (fault, h, t)
want_is May f f' _ h t s = absurd (omega arith)

-- one worker ends a job without commands by no fault of workers
none_alone : (job : Job) (input : List ℕ) (fault : PoolFault) → takes_commands job ≡ false → pool_faults job NoPool input fault → ⊥
none_alone (jobs.Cover cover_jobs.List) input fault e h = h
none_alone (jobs.Cover cover_jobs.Count) input fault e h = h
none_alone (jobs.Cover (cover_jobs.First n)) input fault e h = h
none_alone (jobs.Cover cover_jobs.Debug) input fault e h = absurd (cc)
none_alone (jobs.Puzzle puzzle_jobs.Solve) input fault e h = h
none_alone (jobs.Puzzle (puzzle_jobs.First n)) input fault e h = h
none_alone (jobs.Puzzle puzzle_jobs.Count) input fault e h = h
none_alone (jobs.Puzzle puzzle_jobs.Classes) input fault e h = h
none_alone (jobs.Puzzle puzzle_jobs.Options) input fault e h = h
none_alone (jobs.Puzzle (puzzle_jobs.SolveUpTo group)) input fault e h = h
none_alone (jobs.Puzzle (puzzle_jobs.CountUpTo group)) input fault e h = h
none_alone (jobs.Puzzle (puzzle_jobs.OptionsUpTo group)) input fault e h = h
none_alone (jobs.Puzzle puzzle_jobs.Debug) input fault e h = absurd (cc)
none_alone (jobs.Resume steps list) input fault e h = h
none_alone (jobs.Join counted) input fault e h = h

-- so at status 4 it tells want of memory
pub only_memory : (job : Job) (r f f' : Stream) → takes_commands job ≡ false → TellsWant (MayOfInput (pool_faults job NoPool) r) f f' → Takes f f' no_memory
only_memory job r f f' e (inl t) = t
only_memory job r f f' e (inr (fault, h, t)) = absurd (none_alone job h.0 fault e h.2)

module _ (job : Job) (r r' w w' f f' : Stream) where
  done_is : (e : RunEnding) → IsEnd job r r' w w' e → status_of e ≡ 0 → (text : List ℕ) × IsOutcomeOf job r (Ok text) × TakesAll w w' text
  done_is Written h s = h.1
  done_is _ h s = absurd (omega arith)

  covers_is : (e : RunEnding) → IsEnd job r r' w w' e → status_of e ≡ 0 → (text : List ℕ) × IfSome r.bytes (λ bytes. IsListed job bytes text) × Appends w.bytes w'.bytes text
  covers_is e h s = let d = done_is e h s in (d.0, IfSome_then r.bytes d.1 (λ bytes g. outcome_lists job bytes d.0 g.1), d.2.0)

  further_is : (e : RunEnding) → IsEnd job r r' w w' e → status_of e ≡ 0 → (text : List ℕ) × IfSome r.bytes (λ bytes. TellsFurther job bytes text) × Appends w.bytes w'.bytes text
  further_is e h s = let d = done_is e h s in (d.0, IfSome_then r.bytes d.1 (λ bytes g. outcome_further job bytes d.0 g.1), d.2.0)

  quiet_is : (e : RunEnding) → IsTold e f f' → status_of e ≡ 0 → Stays f f'
  quiet_is Written h s = h
  quiet_is _ h s = absurd (omega arith)

  refused_is : (e : RunEnding) → IsEnd job r r' w w' e → IsTold e f f' → status_of e ≡ 3 → (line : List ℕ) × IsOutcomeOf job r (Err line) × Takes f f' line
  refused_is (Refused line) h t s = (line.items, h.1, t)
  refused_is _ h t s = absurd (omega arith)

  memory_is : (e : RunEnding) → IsTold e f f' → status_of e ≡ 4 → Takes f f' no_memory ⊎ ((fault : PoolFault) × Takes f f' (pool_refusal fault))
  memory_is OutOfMemory t s = inl t
  memory_is (Pool fault) t s = inr (fault, t)
  memory_is _ t s = absurd (omega arith)

  unwritten_is : (e : RunEnding) → IsEnd job r r' w w' e → Contains (3 ∷ 4 ∷ []) (status_of e) → Stays w w'
  unwritten_is (Refused line) h s = h.2
  unwritten_is OutOfMemory h s = h.1
  unwritten_is (Pool fault) h s = h.1
  unwritten_is Unread h s = h.1
  unwritten_is _ h s = absurd (grind (arith, common_steps))

  failed_is : (e : RunEnding) → IsEnd job r r' w w' e → IsTold e f f' → status_of e ≡ 5
      → (IsUnread r r' × Stays w w' × Takes f f' bad_reader) ⊎ (IsSound r r' × HasFailed w' × Takes f f' bad_writer)
  failed_is Unread h t s = inl (h.0, h.1, t)
  failed_is Unwritten h t s = inr (h.0, h.1.2.1, t)
  failed_is _ h t s = absurd (omega arith)

  reader_is : (e : RunEnding) → IsEnd job r r' w w' e → (status_of e ≡ 5 → ⊥) → IsSound r r'
  reader_is Unread h s = absurd (s refl)
  reader_is _ h s = h.0

  writer_is : (e : RunEnding) → IsEnd job r r' w w' e → (status_of e ≡ 5 → ⊥) → IsSound w w'
  writer_is Written h s = h.1.2.1
  writer_is (Refused line) h s = h.2.1
  writer_is Unwritten h s = absurd (s refl)
  writer_is _ h s = h.1.1

  limit_is : (e : RunEnding) → IsEnd job r r' w w' e → IfSome r.bytes (λ bytes. 134217728 < length bytes → Contains (4 ∷ 5 ∷ []) (status_of e))
  limit_is Written h = within job r (Ok h.1.0) _ h.1.1
  limit_is (Refused line) h = within job r (Err line.items) _ h.1
  limit_is OutOfMemory h = always r.bytes (λ bytes past. (0, omega arith, refl))
  limit_is (Pool fault) h = always r.bytes (λ bytes past. (0, omega arith, refl))
  limit_is _ h = always r.bytes (λ bytes past. (1, omega arith, refl))

  beginning_is : (e : RunEnding) → IsEnd job r r' w w' e → IfSome r.bytes (λ bytes. Beginning w w' (job_outcome job bytes))
  beginning_is Written h = begins job r w w' (Ok h.1.0) h.1.1 (whole w w' h.1.0 h.1.2)
  beginning_is (Refused line) h = kept job r w w' h.2
  beginning_is Unwritten h = begins job r w w' (Ok h.1.0) h.1.1 h.1.2.0
  beginning_is _ h = kept job r w w' h.1

  -- all of it
  pub run_is : (e : RunEnding) → IsEnd job r r' w w' e → IsTold e f f' → IsProgramRun job r r' w w' f f' (status_of e)
  run_is e ends told = record {
    covers = covers_is e ends;
    rest = record {
      statuses = status_known e;
      done = done_is e ends;
      further = further_is e ends;
      quiet = quiet_is e told;
      refused = refused_is e ends told;
      memory = memory_is e told;
      unwritten = unwritten_is e ends;
      failed = failed_is e ends told;
      reader_told = reader_is e ends;
      writer_told = writer_is e ends;
      limit = limit_is e ends;
      beginning = beginning_is e ends;
    };
  }

-- a text was written whole, or a part of it where the sink failed
pub taken : {E : Type 0} (r : Result (Unit {0}) E) (old new : Stream) (text : List ℕ) → OnOk r (TakesAll old new text) → OnErr r (TakesPart old new text) → Takes old new text
taken (Ok u) old new text all part = inl all
taken (Err e) old new text all part = inr part
