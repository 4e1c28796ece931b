-- The examples of branches, stretches and runners, computed on the small problem: c e, a d g, b c f, a d f, b g, d e g. Its one visit
-- is 4 5 1.
use Rattle.std.proofs.Common.{◌≡◌, ℕ, zero, suc, ◌<◌, false, Option, Some, None, List, [], ◌∷◌, codes, refl, ap, inr, lit<, arith}
use Rattle.cover_problem.specs.Covering.{active, remaining, choice}
use Rattle.cover_problem.specs.Path.{taken, covered_by}
use Rattle.cover_problem.proofs.CoverExamples.{small}
use Rattle.x_steps.specs.declared.state.Label.TheVariants.{X1, X2, X3, X4, X5, X8, Done}
use Rattle.x_steps.specs.declared.state.Cursor.TheVariants as cursor
use Rattle.x_steps.specs.declared.state.Cursor.TheVariants.{At}
use Rattle.x_steps.specs.declared.event.Event.TheVariants.{Moved}
use Rattle.x_steps.specs.StateValue.{StateValue, at, start, done}
use Rattle.x_steps.specs.Steps.{next}
use Rattle.x_steps.specs.Run.{after, ReachesIn, steps_between}
use Rattle.x_steps.specs.Rank.{rank}
use Rattle.x_steps.proofs.RunLemmas.{start_fits, steps_between_is}
use Rattle.x_codes.specs.StateCode.{after_of, path_of, path_rest, state_of, state_rest, next_path, next_rest, paths_at, after_paths, paths_of, paths_rest}
use Rattle.x_branches.specs.declared.fault.RunnerFault.TheVariants.{AtBranchEnd, NotUntried, NotAtMark, StretchFull, OutOfMemory}
use Rattle.x_branches.specs.declared.fault.CutFault.TheVariants as cuts
use Rattle.x_branches.specs.Cut.{CutPath, cut_state}
use Rattle.x_branches.specs.Branch.{first_of, end_of, whole_run}
use Rattle.x_branches.specs.RunOrder.{ComesBefore, comes_before}
use Rattle.x_branches.specs.Stretch.{kept_value, kept_visits, kept_levels}
use Rattle.x_branches.specs.Runner.{RunnerValue, unposted_steps, visit_of, with_level, without_level}
use Rattle.x_branches.specs.Counts.{HasLevelOf, HasRoomFor, HasCounted}
use Rattle.x_branches.specs.Walk.{end_choices, advanced_by, HasToStop}
use Rattle.x_branches.specs.Refusals.{AdvanceRefused, CutRefused, ReopenRefused}
use Rattle.x_branches.specs.Stage.{digit_of}
use Rattle.x_branches.specs.Faults.{number_of, name_of, number_of_cut}
use Rattle.x_branches.proofs.CutExamples.{untried_below_two}

-- ---- specs/Branch.antt

-- the cut at an option of the first item
abbrev first_cut : ℕ → Option CutPath
first_cut o = Some (record { problem = small; path = o ∷ [] })

begins : first_of (first_cut 4) ≡ at X5 [] (At 4)
unfolding cut_state
begins = refl

ends : end_of None ≡ done
ends = refl

-- ---- specs/RunOrder.antt

-- X3 is two steps after X1
reaches_two : ReachesIn small start (at X3 [] cursor.None) 2
unfolding next covered_by active
reaches_two = record { ends = refl; goes_on = goes_on }
  where
    goes_on : (i : ℕ) → i < 2 → (after small i start).label ≡ Done → ⊥
    goes_on zero l e = cc
    goes_on (suc zero) l e = cc
    goes_on (suc (suc i)) l e = absurd (omega arith)

before_it : ComesBefore small start (at X3 [] cursor.None)
before_it = (2, lit< tt, reaches_two)

not_before : comes_before small done start ≡ false
unfolding comes_before steps_between rank
not_before = refl

-- ---- specs/Runner.antt

-- a runner of the whole run, with its mark at X1
abbrev at_step : StateValue → RunnerValue
at_step s = record { problem = small; branch = whole_run; mark = start; position = s }

two_unposted : unposted_steps (at_step (at X3 [] cursor.None)) ≡ 2
two_unposted = steps_between_is small start (at X3 [] cursor.None) 2 (start_fits small) reaches_two

a_visit : visit_of small (at X2 (4 ∷ 5 ∷ 1 ∷ []) cursor.None) ≡ (4 ∷ 5 ∷ 1 ∷ []) ∷ []
unfolding covered_by taken choice active remaining
a_visit = refl

one_more : with_level (1 ∷ 1 ∷ 0 ∷ []) (at X2 (4 ∷ []) cursor.None) ≡ 1 ∷ 2 ∷ 0 ∷ []
one_more = refl

one_less : without_level (1 ∷ 2 ∷ 0 ∷ []) (at X2 (4 ∷ []) cursor.None) ≡ 1 ∷ 1 ∷ 0 ∷ []
one_less = refl

-- ---- specs/Counts.antt

-- X2 below option 4
abbrev below_four : StateValue
below_four = at X2 (4 ∷ []) cursor.None

its_level : HasLevelOf (1 ∷ 1 ∷ 0 ∷ []) below_four
its_level e = omega arith

its_room : HasRoomFor (1 ∷ 1 ∷ 0 ∷ []) below_four
its_room e = lit< tt

none_counted : HasCounted (1 ∷ 0 ∷ 0 ∷ []) below_four → ⊥
none_counted h = let l : 0 < 0 = h refl in omega arith

-- ---- specs/Stretch.antt

-- from X2 to X8 at the path 4 5 1, with one visit, and one X2 state at level 3
abbrev row : List ℕ
row = 3 ∷ 1 ∷ 1 ∷ 1 ∷ 6 ∷ 4 ∷ 5 ∷ 1 ∷ 2 ∷ 0 ∷ 0 ∷ 3 ∷ 4 ∷ 5 ∷ 1 ∷ 3 ∷ 8 ∷ 0 ∷ 0 ∷ 0 ∷ []

its_from : (kept_value small row).from ≡ at X2 (4 ∷ 5 ∷ 1 ∷ []) cursor.None
unfolding state_of path_of path_rest paths_rest after_paths next_rest
its_from = refl

its_to : (kept_value small row).to ≡ at X8 (4 ∷ 5 ∷ 1 ∷ []) cursor.None
unfolding after_of state_of path_of state_rest path_rest paths_rest after_paths next_rest
its_to = refl

its_visits : kept_visits row ≡ (4 ∷ 5 ∷ 1 ∷ []) ∷ []
unfolding path_rest paths_of paths_at path_of next_path
its_visits = refl

its_levels : kept_levels row ≡ 0 ∷ 0 ∷ 0 ∷ 1 ∷ []
unfolding path_of path_rest paths_rest after_paths next_rest
its_levels = refl

-- it is that one step, which visits 4 5 1
step_there : next small (kept_value small row).from ≡ (kept_value small row).to
unfolding next after_of state_of path_of state_rest path_rest paths_rest after_paths next_rest covered_by taken choice active remaining
step_there = refl

-- ---- specs/Walk.antt

choices_there : end_choices (first_cut 4) ≡ 4 ∷ []
choices_there = refl

three_on : (advanced_by (at_step start) 3).position ≡ at X4 [] cursor.None
unfolding next covered_by active
three_on = refl

stops : HasToStop (at_step (at X2 (4 ∷ 5 ∷ 1 ∷ []) cursor.None)) Moved
unfolding covered_by taken choice active remaining
stops = inr (inr refl)

-- ---- specs/Refusals.antt

no_step : AdvanceRefused (at_step done) AtBranchEnd
no_step = refl

-- below option 2 only option 4 of the item a is untried
abbrev below_two : RunnerValue
below_two = at_step (at X2 (2 ∷ []) cursor.None)

not_untried : CutRefused below_two 0 5 NotUntried
unfolding covered_by choice active remaining
not_untried = (refl, rw untried_below_two (lit< tt))

-- a stretch isn't joined to a runner that has steps that are not posted
not_at_mark : ReopenRefused below_two (record { problem = small; from = start; to = start }) NotAtMark
not_at_mark e = let f : X2 ≡ X1 = ap (λ (s : StateValue). s.label) e.at_mark in cc

-- ---- specs/Stage.antt

choice_digit : digit_of small (at X5 (4 ∷ []) (At 5)) 0 ≡ 18
choice_digit = refl

cursor_digit : digit_of small (at X5 (4 ∷ []) (At 5)) 1 ≡ 21
cursor_digit = refl

-- ---- specs/Faults.antt

full_number : number_of StretchFull ≡ Some 7
full_number = refl

full_name : name_of StretchFull ≡ codes "StretchFull"
full_name = refl

no_number : number_of OutOfMemory ≡ None
no_number = refl

cut_number : number_of_cut cuts.NotUntried ≡ Some 4
cut_number = refl
