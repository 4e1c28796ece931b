-- What can't be said of a job that was done.
use Rattle.std.proofs.Common.{◌≡◌, ℕ, false, true, Some, None, Ok, inl, inr, refl, List, ◌++◌, length, ap, sym, ◌∙◌, arith}
use Rattle.std.specs.Fmt.{digits}
use Rattle.std.specs.Prelude.{Option}
use Rattle.std.specs.Io.KnownBytes.{Appends}
use Rattle.std.proofs.lemmas.Bool.{false≢true}
use Rattle.std.proofs.lemmas.List.{append_cancel_left}
use Rattle.byte_streams.specs.Stream.{Stream, IsSound, Takes}
use Rattle.lab_pool.specs.declared.fault.PoolFault.{PoolFault}
use Rattle.lab_pool.specs.declared.fault.PoolFault.TheVariants.{BadWorkerCount, OutOfMemory, Held, NoThread, Mismatch}
use Rattle.lab_pool.specs.Pool.{IsBadCount}
use Rattle.debug_script.specs.Refusals.{MayRefuse}
use Rattle.polylab_engine.specs.declared.job.Job.{Job}
use Rattle.polylab_engine.specs.declared.job.Job.TheVariants.{Puzzle}
use Rattle.polylab_engine.specs.declared.job.PuzzleJob.TheVariants.{Solve}
use Rattle.polylab_engine.specs.Ending.{IsOutcomeOf, IsProgramRun}
use Rattle.polylab_engine.specs.Outcome.{job_outcome, no_memory, pool_refusal}
use Rattle.polylab_engine.specs.Refusals.{MayOfInput, TellsWant, pool_faults}

-- known bytes grow by one text
same_text : (old new : Option (List ℕ)) (before first second : List ℕ) → old ≡ Some before → Appends old new first → Appends old new second → first ≡ second
same_text None new before first second e a b = cc
same_text (Some xs) None before first second e a b = elim a [ ]
same_text (Some xs) (Some ys) before first second e a b = append_cancel_left xs first second (sym a ∙ b)

-- an input has one outcome of a job
text_of : (job : Job) (r : Stream) (input text given : List ℕ) → r.bytes ≡ Some input → job_outcome job input ≡ Ok text → IsOutcomeOf job r (Ok given) → given ≡ text
text_of job r input text given e made o =
    let there = rw (e) at o in
    let same : Ok given ≡ Ok text = sym there.1 ∙ made in
    cc

pub one_text : (one other : Job) (r r' w w' f f' : Stream) (input before first second : List ℕ) → r.bytes ≡ Some input → w.bytes ≡ Some before → job_outcome one input ≡ Ok first → job_outcome other input ≡ Ok second → (first ≡ second → ⊥) → IsProgramRun one r r' w w' f f' 0 → IsProgramRun other r r' w w' f f' 0 → ⊥
one_text one other r r' w w' f f' input before first second er ew a b differ p q =
    let x = p.rest.done refl in
    let y = q.rest.done refl in
    let s = same_text w.bytes w'.bytes before x.0 y.0 ew x.2.0 y.2.0 in
    let m = text_of one r input first x.0 er a x.1 in
    let n = text_of other r input second y.0 er b y.1 in
    differ (sym m ∙ s ∙ n)

-- a line that was told whole is the one that is there
is_line : (f f' : Stream) (before line other : List ℕ) → f.failed ≡ false → IsSound f f' → f.bytes ≡ Some before → f'.bytes ≡ Some (before ++ other) → Takes f f' line → other ≡ line
is_line f f' before line other g s e e' (inl all) =
    let there : before ++ other ≡ before ++ line = rw (e, e') at all.0 in
    append_cancel_left before other line there
is_line f f' before line other g s e e' (inr part) = let failed : f'.failed ≡ true = part.1 in let no = false≢true (sym g ∙ sym s ∙ failed) in cc

-- the refusal for the number of workers is longer than any other, so it is told apart by its length
number_length : length (pool_refusal BadWorkerCount) ≡ 30
unfolding digits
number_length = refl

memory_length : length (pool_refusal OutOfMemory) ≡ 27
unfolding digits
memory_length = refl

held_length : length (pool_refusal Held) ≡ 20
unfolding digits
held_length = refl

thread_length : length (pool_refusal NoThread) ≡ 24
unfolding digits
thread_length = refl

mismatch_length : length (pool_refusal Mismatch) ≡ 24
unfolding digits
mismatch_length = refl

-- it is the refusal for the number of workers at that fault alone
of_number : (count : ℕ) (fault : PoolFault) → (IsBadCount count → ⊥) → MayRefuse count fault → pool_refusal BadWorkerCount ≡ pool_refusal fault → ⊥
of_number count BadWorkerCount good may e = good (may.number.0 refl)
of_number count OutOfMemory good may e = let n : 30 ≡ 27 = sym number_length ∙ ap (length {A = ℕ}) e ∙ memory_length in omega (arith, n)
of_number count Held good may e = let n : 30 ≡ 20 = sym number_length ∙ ap (length {A = ℕ}) e ∙ held_length in omega (arith, n)
of_number count NoThread good may e = let n : 30 ≡ 24 = sym number_length ∙ ap (length {A = ℕ}) e ∙ thread_length in omega (arith, n)
of_number count Mismatch good may e = let n : 30 ≡ 24 = sym number_length ∙ ap (length {A = ℕ}) e ∙ mismatch_length in omega (arith, n)

pub right_number : (count : ℕ) (input f f' : Stream) (before : List ℕ) → (IsBadCount count → ⊥) → f.failed ≡ false → IsSound f f' → f.bytes ≡ Some before → f'.bytes ≡ Some (before ++ pool_refusal BadWorkerCount) → TellsWant (MayOfInput (pool_faults (Puzzle Solve) (MayRefuse count)) input) f f' → ⊥
right_number count input f f' before good g s e e' (inl told) = let same = is_line f f' before no_memory (pool_refusal BadWorkerCount) g s e e' told in let n : 30 ≡ 15 = sym number_length ∙ ap (length {A = ℕ}) same in omega (arith, n)
right_number count input f f' before good g s e e' (inr told) = of_number count told.0 good told.1.2 (is_line f f' before (pool_refusal told.0) (pool_refusal BadWorkerCount) g s e e' told.2)
