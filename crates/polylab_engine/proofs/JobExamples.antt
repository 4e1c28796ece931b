-- The examples of specs/Account.antt, Stretch.antt, Debugged.antt, Ending.antt, Listed.antt, Jobs.antt and Refusals.antt, on the small problem.
use Rattle.std.proofs.Common.{◌≡◌, ℕ, zero, suc, ◌+◌, ◌<◌, true, false, Some, None, List, [], ◌∷◌, ◌++◌, codes, refl, sym, ◌∙◌, lit<, lit≤, arith}
use Rattle.std.proofs.lemmas.Bool.{false≢true}
use Rattle.std.specs.Prelude.{slice_index}
use Rattle.cover_problem.specs.Problem.{IsProblem}
use Rattle.cover_problem.specs.Covering.{active, remaining, choice}
use Rattle.cover_problem.specs.Path.{taken, covered_by}
use Rattle.cover_problem.proofs.CoverExamples.{small}
use Rattle.cover_problem.proofs.CoverTestLemmas.{passes_is}
use Rattle.x_steps.specs.declared.state.Label.TheVariants.{X2, X5, X6}
use Rattle.x_steps.specs.declared.state.Cursor.TheVariants as cursor
use Rattle.x_steps.specs.StateValue.{StateValue, at}
use Rattle.x_steps.specs.Levels.{without_last_zeros}
use Rattle.x_branches.specs.Cut.{cut_state}
use Rattle.byte_streams.specs.Stream.{Stream, Takes}
use Rattle.lab_book.specs.Book.{outcome}
use Rattle.lab_pool.specs.declared.fault.PoolFault.{PoolFault}
use Rattle.lab_pool.specs.declared.fault.PoolFault.TheVariants.{BadWorkerCount}
use Rattle.debug_language.specs.Reader.{command_from, engine_from}
use Rattle.x_debug.specs.Questions.{question_lines}
use Rattle.x_debug.specs.Commands.{deed_of}
use Rattle.debug_script.specs.Input.{command_lines}
use Rattle.debug_script.specs.Refusals.{has_pool}
use Rattle.debug_script.specs.Replies.{exchange, debug_replies}
use Rattle.polylab_engine.specs.declared.job.Job.TheVariants as jobs
use Rattle.polylab_engine.specs.declared.job.CoverJob.TheVariants as cover_jobs
use Rattle.polylab_engine.specs.declared.job.PuzzleJob.TheVariants as puzzle_jobs
use Rattle.polylab_engine.specs.Jobs.{is_first, takes_commands}
use Rattle.polylab_engine.specs.Refusals.{pool_faults}
use Rattle.polylab_engine.specs.declared.engine.RunEnding.TheVariants as endings
use Rattle.polylab_engine.specs.Account.{account_of, report_of, AreSums, PassesBlock}
use Rattle.polylab_engine.specs.Stretch.{end_at, steps_taken}
use Rattle.polylab_engine.specs.Debugged.{debug_output}
use Rattle.polylab_engine.specs.Ending.{IsTold, status_of}
use Rattle.poly_place.specs.Listing.{AreExactCovers}

-- ---- specs/Account.antt

-- option 1 is about to be chosen after 4 and 5, and then it is
abbrev last_choice : List StateValue
last_choice = at X6 (4 ∷ 5 ∷ []) (cursor.At 1) ∷ at X2 (4 ∷ 5 ∷ 1 ∷ []) cursor.None ∷ []

its_account
    : account_of true small last_choice
    ≡ record { visits = (4 ∷ 5 ∷ 1 ∷ []) ∷ []; visited = 1; steps = 2; entered = 0 ∷ 0 ∷ 0 ∷ 1 ∷ 0 ∷ 0 ∷ 0 ∷ 0 ∷ [] }
unfolding account_of covered_by taken choice active remaining
its_account = refl

-- the levels after the last that has a state aren't reported
its_levels : (report_of (record { visits = []; visited = 1; steps = 2; entered = 0 ∷ 0 ∷ 0 ∷ 1 ∷ 0 ∷ 0 ∷ [] })).levels ≡ 0 ∷ 0 ∷ 0 ∷ 1 ∷ []
unfolding without_last_zeros
its_levels = refl

-- to 1 2 the counts 0 3 are added
added : AreSums (1 ∷ 2 ∷ []) (0 ∷ 3 ∷ []) (1 ∷ 5 ∷ [])
added = record { levels = refl; each = each }
  where
    each : (level : ℕ) → level < 2 → slice_index (1 ∷ 5 ∷ []) level ≡ slice_index (1 ∷ 2 ∷ []) level + slice_index (0 ∷ 3 ∷ []) level
    each zero l = refl
    each (suc zero) l = refl
    each (suc (suc level)) l = absurd (omega (arith, l))

-- and not where a level is left as it was
not_added : AreSums (1 ∷ 2 ∷ []) (0 ∷ 3 ∷ []) (1 ∷ 2 ∷ []) → ⊥
not_added s = absurd (let e : 2 ≡ 5 = s.each 1 (omega arith) in omega arith)

-- the next step fills a block of 2^32
fills : PassesBlock 4294967295 4294967296
fills = (1, omega arith, omega arith)

-- and no step within a block does
fills_none : PassesBlock 5 6 → ⊥
fills_none p = let a = p.1 in let b = p.2 in absurd (omega arith)

-- ---- specs/Stretch.antt

its_end : end_at (4 ∷ 5 ∷ []) ≡ at X5 (4 ∷ []) (cursor.At 5)
unfolding cut_state
its_end = refl

fewer_asked : steps_taken (Some 30) 43 ≡ 30
fewer_asked = refl

more_asked : steps_taken (Some 50) 43 ≡ 43
more_asked = refl

none_asked : steps_taken None 43 ≡ 43
none_asked = refl

-- ---- specs/Debugged.antt

replied : debug_output ((codes "branches" ++ 10 ∷ []) ∷ []) small ≡ codes "branch start to end leased" ++ 10 ∷ []
unfolding debug_output debug_replies exchange engine_from command_from deed_of question_lines outcome
replied = refl

-- ---- specs/Ending.antt

memory_told : (old new : Stream) → Takes old new (codes "refused memory" ++ 10 ∷ []) → IsTold endings.OutOfMemory old new
memory_told old new taken = taken

memory_status : status_of endings.OutOfMemory ≡ 4
memory_status = refl

unread_status : status_of endings.Unread ≡ 5
unread_status = refl

-- ---- specs/Listed.antt

its_problem : IsProblem small
its_problem = record { some = lit< tt; within = lit≤ tt; named = refl; new = refl; options_are = refl; small = refl }

its_cover : AreExactCovers small ((4 ∷ 5 ∷ 1 ∷ []) ∷ [])
its_cover zero h = (passes_is small its_problem (4 ∷ 5 ∷ 1 ∷ []) refl).1
its_cover (suc k) h = absurd (omega (arith, h))

-- ---- specs/Jobs.antt

stops : is_first (jobs.Cover (cover_jobs.First 2)) ≡ true
stops = refl

commands_follow : takes_commands (jobs.Puzzle puzzle_jobs.Debug) ≡ true
commands_follow = refl

neither : (is_first (jobs.Puzzle puzzle_jobs.Options) ≡ false) × (takes_commands (jobs.Puzzle puzzle_jobs.Options) ≡ false)
neither = (refl, refl)

-- ---- specs/Refusals.antt

-- `options` ends with no fault of workers, whatever a search may end with
no_search : (May : PoolFault → Type 0) (input : List ℕ) (fault : PoolFault) → pool_faults (jobs.Puzzle puzzle_jobs.Options) May input fault → ⊥
no_search May input fault h = h

-- `debug` doesn't end for the number of workers
not_for_number : (May : PoolFault → Type 0) (input : List ℕ) → pool_faults (jobs.Cover cover_jobs.Debug) May input BadWorkerCount → ⊥
not_for_number May input h = h.0.not_number refl

-- nor for any fault of workers where no command is `pool`
not_without_pool : (May : PoolFault → Type 0) (input : List ℕ) (fault : PoolFault) → has_pool (command_lines input) ≡ false
    → pool_faults (jobs.Cover cover_jobs.Debug) May input fault → ⊥
not_without_pool May input fault none h = false≢true (sym none ∙ h.1)
