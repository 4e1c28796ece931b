-- The examples of specs/Output.antt, specs/First.antt, specs/Outcome.antt, specs/Resumed.antt and specs/Joined.antt, computed.
use Rattle.std.proofs.Common.{◌≡◌, ℕ, zero, suc, ◌<◌, ◌≤◌, inl, inr, Bool, true, false, ◌&&◌, [], ◌∷◌, ◌++◌, map, Err, codes, refl, sym, ap, ◌∙◌, arith}
use Rattle.std.proofs.Math.Nat.{eq-or-lt_of_le}
use Rattle.std.specs.Fmt.{digits}
use Rattle.cover_problem.specs.Covering.{active, remaining, choice}
use Rattle.cover_problem.specs.Path.{taken, covered_by}
use Rattle.cover_problem.specs.Problem.{ProblemValue}
use Rattle.cover_problem.proofs.CoverExamples.{small}
use Rattle.x_steps.specs.declared.state.Label.{Label}
use Rattle.shared_words.specs.Lists.{numbers}
use Rattle.x_steps.specs.declared.state.Label.TheVariants.{X8, Done}
use Rattle.x_steps.specs.declared.state.Cursor.TheVariants as cursor
use Rattle.x_steps.specs.StateValue.{at, start, done}
use Rattle.x_steps.specs.Steps.{next}
use Rattle.x_steps.specs.Run.{states, after, level_count, ReachesIn}
use Rattle.x_steps.proofs.RunLemmas.{start_fits, steps_between_is}
use Rattle.cover_problem.specs.declared.fault.Fault.TheVariants.{UnknownItem}
use Rattle.polylab_engine.specs.Account.{account_of, report_of}
use Rattle.polylab_engine.specs.Outcome.{covers_of}
use Rattle.polylab_engine.specs.First.{cover_end, first_text, first_cover_output}
use Rattle.polylab_engine.specs.Output.{cover_output, report_text, total_lines}
use Rattle.x_steps.specs.Levels.{without_last_zeros}
use Rattle.polylab_engine.specs.Joined.{levels_added}

-- whether a state isn't the last
unfoldable pub goes_on : Label → Bool
goes_on Done = false
goes_on _ = true

first_of : (a b : Bool) → (a && b) ≡ true → a ≡ true
first_of true b e = refl
first_of false b e = e

other_of : (a b : Bool) → (a && b) ≡ true → b ≡ true
other_of true b e = e
other_of false b e = absurd (cc)

module _ (p : ProblemValue) where
  -- whether none of the first n states is the last
  unfoldable pub all_go_on : ℕ → Bool
  all_go_on zero = true
  all_go_on (suc n) = all_go_on n && goes_on (after p n start).label

  last_goes_on : (n i : ℕ) → all_go_on (suc n) ≡ true → i ≡ n → (after p i start).label ≡ Done → ⊥
  unfolding all_go_on goes_on
  last_goes_on n i e same d =
      let last : goes_on (after p n start).label ≡ true = other_of (all_go_on n) _ e in
      let here : (after p n start).label ≡ Done = ap (λ k. (after p k start).label) (sym same) ∙ d in
      let none : goes_on Done ≡ true = ap goes_on (sym here) ∙ last in
      absurd (cc)

  each_goes_on : (n i : ℕ) → all_go_on n ≡ true → i < n → (after p i start).label ≡ Done → ⊥
  unfolding all_go_on
  each_goes_on zero i e h d = absurd (omega arith)
  each_goes_on (suc n) i e h d =
      elim (eq-or-lt_of_le (let low : i ≤ n = omega arith in low)) [ inl same ↦ last_goes_on n i e same d | inr less ↦ each_goes_on n i (first_of (all_go_on n) _ e) less d ]

  -- the first of them is after n steps
  pub reaches : (n : ℕ) → all_go_on n ≡ true → after p n start ≡ done → ReachesIn p start done n
  reaches n e last = record { ends = last; goes_on = λ i. each_goes_on n i e }

reaches_done : ReachesIn small start done 43
unfolding all_go_on goes_on next covered_by taken choice active remaining
reaches_done = reaches small 43 refl refl

-- the report's very text for the small problem
small_report : report_text (report_of (account_of true small (states small 43 start))) ≡ codes "visit 4 5 1" ++ 10 ∷ codes "visits 1" ++ 10 ∷ codes "steps 43" ++ 10 ∷ codes "levels 1 2 2 1" ++ 10 ∷ []
unfolding account_of without_last_zeros digits next covered_by taken choice active remaining
small_report = refl

small_output : cover_output small ≡ codes "visit 4 5 1" ++ 10 ∷ codes "visits 1" ++ 10 ∷ codes "steps 43" ++ 10 ∷ codes "levels 1 2 2 1" ++ 10 ∷ []
unfolding cover_output
small_output = rw (steps_between_is small start done 43 (start_fits small) reaches_done) small_report

-- with --first 1 its one visit, and that the search stopped there; with --first 2 the totals come after it, as without
first_report : first_text 1 (report_of (account_of true small (states small 43 start))) ≡ codes "visit 4 5 1" ++ 10 ∷ codes "first 1" ++ 10 ∷ []
unfolding account_of without_last_zeros digits next covered_by taken choice active remaining
first_report = refl

small_first : first_cover_output 1 small ≡ codes "visit 4 5 1" ++ 10 ∷ codes "first 1" ++ 10 ∷ []
unfolding first_cover_output
small_first = rw (steps_between_is small start done 43 (start_fits small) reaches_done) first_report

first_two : cover_end 2 (record { visits = (4 ∷ 5 ∷ 1 ∷ []) ∷ []; visited = 1; steps = 43; levels = 1 ∷ 2 ∷ 2 ∷ 1 ∷ [] }) ≡ total_lines 1 43 (1 ∷ 2 ∷ 2 ∷ 1 ∷ [])
first_two = refl

-- `option z` on line 2, where no item has that name
unknown_refused : covers_of cover_output (Err (UnknownItem, 2)) ≡ Err (codes "refused cover 3 UnknownItem line 2" ++ 10 ∷ [])
unfolding digits
unknown_refused = refl

zeros_cut : without_last_zeros (1 ∷ 0 ∷ 2 ∷ 0 ∷ 0 ∷ []) ≡ 1 ∷ 0 ∷ 2 ∷ []
unfolding without_last_zeros
zeros_cut = refl

-- the first 30 steps, without the visit's line, and the state after them
thirty_told : report_text (report_of (account_of false small (states small 30 start))) ≡ codes "visits 1" ++ 10 ∷ codes "steps 30" ++ 10 ∷ codes "levels 1 2 2 1" ++ 10 ∷ []
unfolding account_of without_last_zeros digits next covered_by taken choice active remaining
thirty_told = refl

after_thirty : after small 30 start ≡ at X8 (4 ∷ 5 ∷ 1 ∷ []) cursor.None
unfolding next covered_by taken choice active remaining
after_thirty = refl

-- the levels of slices of 20 steps
first_twenty : without_last_zeros (map (level_count (states small 20 start)) (numbers 8 0)) ≡ 1 ∷ 1 ∷ 1 ∷ []
unfolding without_last_zeros next covered_by taken choice active remaining
first_twenty = refl

next_twenty : without_last_zeros (map (level_count (states small 20 (after small 20 start))) (numbers 8 0)) ≡ 0 ∷ 1 ∷ 1 ∷ 1 ∷ []
unfolding without_last_zeros next covered_by taken choice active remaining
next_twenty = refl

twenties_added : levels_added (1 ∷ 1 ∷ 1 ∷ []) (levels_added (0 ∷ 1 ∷ 1 ∷ 1 ∷ []) []) ≡ 1 ∷ 2 ∷ 2 ∷ 1 ∷ []
twenties_added = refl
