-- How a run ends: what the job makes of the input (`IsOutcomeOf`), or that it is unread (`IsUnread`); what is true then (`IsEnd`), the
-- line that tells it (`IsTold`), and its exit status (`status_of`); all of this of a program's run (`HasStatus`), and with it what the
-- output lists (`IsProgramRun`).
--
-- Example: a run that ends out of memory tells the line `refused memory`, and its status is 4. That of an input that isn't read is 5.
-- proofs/JobExamples.antt computes it.
use Rattle.std.specs.Prelude.{ℕ, ◌≡◌, ◌<◌, ◌≤◌, ◌⊎◌, List, [], ◌∷◌, Result, Ok, Err, IfSome, Contains, length, take}
use Rattle.std.specs.Io.KnownBytes.{Appends}
use Rattle.byte_streams.specs.Stream.{Stream, IsSound, HasFailed, Stays, TakesAll, TakesPart, Takes}
use Rattle.byte_streams.specs.Input.{GoesPastLimit, most_input}
use Rattle.lab_pool.specs.declared.fault.PoolFault.{PoolFault}
use Rattle.debug_script.specs.declared.fault.JobFault.{JobFault}
use Rattle.debug_script.specs.declared.fault.JobFault.TheVariants as faults
use Rattle.polylab_engine.specs.declared.job.Job.{Job}
use Rattle.polylab_engine.specs.declared.engine.RunEnding.{RunEnding}
use Rattle.polylab_engine.specs.declared.engine.RunEnding.TheVariants.{Written, Refused, OutOfMemory, Pool, Unread, Unwritten}
use Rattle.polylab_engine.specs.Outcome.{job_outcome, to_write, no_memory, pool_refusal, bad_reader, bad_writer}
use Rattle.polylab_engine.specs.Listed.{IsListed}
use Rattle.polylab_engine.specs.Further.{TellsFurther}

-- how a run ends whose job could not be done
abbrev pub ending_of : JobFault → RunEnding
ending_of faults.OutOfMemory = OutOfMemory
ending_of (faults.Pool fault) = Pool fault

-- the input, where it is known, is within the limit, and this is what the job does with it
abbrev pub IsOutcomeOf : Job → Stream → Result (List ℕ) (List ℕ) → Type 0
IsOutcomeOf job input given = IfSome input.bytes (λ bytes. (length bytes ≤ most_input) × (job_outcome job bytes ≡ given))

-- the input was not read: the reader failed, or its bytes go on past the limit
abbrev pub IsUnread : Stream → Stream → Type 0
IsUnread old new = HasFailed new ⊎ (GoesPastLimit old × IsSound old new)

-- what is true of the reader and the writer, before and after, where a run ends so
abbrev pub IsEnd : Job → Stream → Stream → Stream → Stream → RunEnding → Type 0
IsEnd job r r' w w' Written = IsSound r r' × ((text : List ℕ) × IsOutcomeOf job r (Ok text) × TakesAll w w' text)
IsEnd job r r' w w' (Refused line) = IsSound r r' × IsOutcomeOf job r (Err line.items) × Stays w w'
IsEnd job r r' w w' OutOfMemory = IsSound r r' × Stays w w'
IsEnd job r r' w w' (Pool fault) = IsSound r r' × Stays w w'
IsEnd job r r' w w' Unread = IsUnread r r' × Stays w w'
IsEnd job r r' w w' Unwritten = IsSound r r' × ((text : List ℕ) × IsOutcomeOf job r (Ok text) × TakesPart w w' text)

-- the same of a reader and a writer of whichever kinds, by what a contract sees of them
abbrev pub EndsRun : {R W : Type 0} → (R → Stream) → (W → Stream) → Job → R → R → W → W → RunEnding → Type 0
EndsRun seen shown job r r' w w' ending = IsEnd job (seen r) (seen r') (shown w) (shown w') ending

-- what is told where a run ends so
abbrev pub IsTold : RunEnding → Stream → Stream → Type 0
IsTold Written old new = Stays old new
IsTold (Refused line) old new = Takes old new line.items
IsTold OutOfMemory old new = Takes old new no_memory
IsTold (Pool fault) old new = Takes old new (pool_refusal fault)
IsTold Unread old new = Takes old new bad_reader
IsTold Unwritten old new = Takes old new bad_writer

-- the exit status of a run that ends so
abbrev pub status_of : RunEnding → ℕ
status_of Written = 0
status_of (Refused line) = 3
status_of OutOfMemory = 4
status_of (Pool fault) = 4
status_of Unread = 5
status_of Unwritten = 5

-- what a run of a job leaves of the reader, the writer and the faults, by the status that it answers. At 0 what was written is the
-- outcome of the job on the bytes read, and tells what is to be told further; at 3 the faults take the line that refuses the input, at 4
-- and 5 the line of what went wrong; whatever the status, what was written is a beginning of what is to be written
pub record HasStatus (job : Job) (r r' w w' f f' : Stream) (status : ℕ) : Type 0 where
  pub statuses : Contains (0 ∷ 3 ∷ 4 ∷ 5 ∷ []) status
  pub done : status ≡ 0 → (text : List ℕ) × IsOutcomeOf job r (Ok text) × TakesAll w w' text
  pub further : status ≡ 0 → (text : List ℕ) × IfSome r.bytes (λ bytes. TellsFurther job bytes text) × Appends w.bytes w'.bytes text
  pub quiet : status ≡ 0 → Stays f f'
  pub refused : status ≡ 3 → (line : List ℕ) × IsOutcomeOf job r (Err line) × Takes f f' line
  pub memory : status ≡ 4 → Takes f f' no_memory ⊎ ((fault : PoolFault) × Takes f f' (pool_refusal fault))
  pub unwritten : Contains (3 ∷ 4 ∷ []) status → Stays w w'
  pub failed : status ≡ 5 → (IsUnread r r' × Stays w w' × Takes f f' bad_reader) ⊎ (IsSound r r' × HasFailed w' × Takes f f' bad_writer)
  pub reader_told : (status ≡ 5 → ⊥) → IsSound r r'
  pub writer_told : (status ≡ 5 → ⊥) → IsSound w w'
  pub limit : IfSome r.bytes (λ bytes. 134217728 < length bytes → Contains (4 ∷ 5 ∷ []) status)
  pub beginning : IfSome r.bytes (λ bytes. (n : ℕ) × Appends w.bytes w'.bytes (take n (to_write (job_outcome job bytes))))

-- what is true of a run of a job: if its status is 0, what was written lists what the job is to tell of the bytes read; and the rest
pub record IsProgramRun (job : Job) (r r' w w' f f' : Stream) (status : ℕ) : Type 0 where
  pub covers : status ≡ 0 → (text : List ℕ) × IfSome r.bytes (λ bytes. IsListed job bytes text) × Appends w.bytes w'.bytes text
  pub rest : HasStatus job r r' w w' f f' status
