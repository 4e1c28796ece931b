-- A search up to the visit of a number: its report has the first visits of the run, and what is written of it are these.
use Rattle.std.proofs.Common.{◌≡◌, ℕ, ◌<◌, ◌≤◌, ◌⊎◌, true, Some, List, [], ◌++◌, length, map, take, refl, sym, ap, ap₂, ◌∙◌, subst, inl, inr, arith}
use Rattle.std.specs.Prelude as prelude
use Rattle.std.specs.Option.{ForSome}
use Rattle.std.specs.Prelude.{if◌then◌else◌}
use Rattle.std.proofs.lemmas.Bool.{cases_lt, le-ltb}
use Rattle.std.proofs.lemmas.List.{take_all, take-append-le}
use Rattle.text_lines.specs.Writing.{line_text, text_of}
use Rattle.cover_problem.specs.Problem.{ProblemValue}
use Rattle.poly_texts.specs.Puzzle.{PuzzleValue}
use Rattle.poly_place.specs.Packings.{packing_problem}
use Rattle.x_steps.specs.StateValue.{StateValue, start, done}
use Rattle.x_steps.specs.Steps.{Fits}
use Rattle.x_steps.specs.Run.{states, visits, states_between}
use Rattle.x_steps.specs.Machine.{MachineValue}
use Rattle.x_steps.proofs.BetweenLemmas.{states_between_join, visits_join}
use Rattle.x_steps.proofs.RunLemmas.{start_fits, done_fits, start_first, done_last}
use Rattle.x_texts.specs.Words.{visit_words}
use Rattle.polylab_engine.specs.Account.{ReportValue, account_of}
use Rattle.polylab_engine.specs.Output.{whole_report}
use Rattle.poly_place.specs.Listing.{packings_from}
use Rattle.polylab_engine.specs.Stretch.{stop_from, report_from, stretch_report, HasFewerBefore}
use Rattle.polylab_engine.specs.First.{IsFirstReport, cover_end, packings_end, first_cover_output, first_packings_output}
use Rattle.polylab_engine.proofs.StopLemmas.{whole_stretch}

-- ---- the report

-- of a list and more the first ones, as many as the list has
take_first : (vs ws : List (List ℕ)) → take (length vs) (vs ++ ws) ≡ vs
take_first vs ws = take-append-le (length vs) vs ws (omega arith) ∙ take_all (length vs) vs (omega arith)

module _ (n : ℕ) (p : ProblemValue) where
  abbrev passed : StateValue → List (List ℕ)
  passed t = visits p (states_between p start t)

  abbrev ahead : StateValue → List (List ℕ)
  ahead t = visits p (states_between p t done)

  module _ (r : ReportValue) (t : StateValue) (fits : Fits p t) (report : r ≡ stretch_report true p start t)
      (soon : (k : ℕ) → k < r.steps → length (visits p (states p k start)) < n) where
    seen : r.visits ≡ passed t
    unfolding account_of
    seen = ap (λ b. b.visits) report

    counted : r.visited ≡ length (passed t)
    unfolding account_of
    counted = ap (λ b. b.visited) report

    all : (whole_report true p).visits ≡ passed t ++ ahead t
    unfolding account_of
    all = ap (visits p) (states_between_join p start t done (start_fits p) fits (done_fits p) (start_first p t fits) (done_last p t fits)) ∙ visits_join p (states_between p start t) (states_between p t done)

    -- it stopped at the visit of the number
    stopped : n ≡ r.visited → IsFirstReport n p r
    stopped e = record {
      visits = seen ∙ sym (ap₂ take (e ∙ counted) all ∙ take_first (passed t) (ahead t));
      visited = counted ∙ ap length (sym seen);
      whole = λ l. absurd (omega (arith, e, l));
      soon = soon;
    }

    -- or it came to the end
    ended : r ≡ whole_report true p → r.visited ≤ n → IsFirstReport n p r
    ended e few =
        let many : length r.visits ≤ n = (let c = counted in let s = ap length seen in omega arith) in
        record {
          visits = sym (take_all n r.visits many) ∙ ap (λ b. take n b.visits) e;
          visited = counted ∙ ap length (sym seen);
          whole = λ l. e;
          soon = soon;
        }

  module _ (m : MachineValue) (at_first : m ≡ record { problem = p; state = start }) (r : ReportValue) (t : StateValue) where
    pub first_report : (Some n ≡ Some r.visited) ⊎ (t ≡ stop_from prelude.None m []) → ForSome (Some n) (λ k. r.visited ≤ k) → ForSome (Some n) (HasFewerBefore m r.steps) → Fits m.problem t → r ≡ report_from true m t → IsFirstReport n p r
    first_report stop few fewer fits report =
        let there : Fits p t = subst (λ (q : MachineValue). Fits q.problem t) at_first fits in
        let told : r ≡ stretch_report true p start t = report ∙ ap (λ (q : MachineValue). stretch_report true q.problem q.state t) at_first in
        by stop there told
      where
        early : (k : ℕ) → k < r.steps → length (visits p (states p k start)) < n
        early = subst (λ (q : MachineValue). HasFewerBefore q r.steps n) at_first (fewer n refl)

        by : (Some n ≡ Some r.visited) ⊎ (t ≡ stop_from prelude.None m []) → Fits p t → r ≡ stretch_report true p start t → IsFirstReport n p r
        by (inl e) there told = let same : n ≡ r.visited = cc in stopped r t there told early same
        by (inr e) there told = ended r t there told early (whole_stretch true p m at_first r t e report) (few n refl)

-- ---- what is written of it

module _ (n : ℕ) (p : ProblemValue) (r : ReportValue) (first : IsFirstReport n p r) where
  -- it is the whole report, or both have as many visits as are asked for
  whole_or_full : (r ≡ whole_report true p) ⊎ ((n ≤ r.visited) × (n ≤ (whole_report true p).visited))
  unfolding account_of
  whole_or_full = by (cases_lt r.visited n)
    where
      taken : r.visited ≡ length (take n (whole_report true p).visits)
      taken = first.visited ∙ ap length first.visits

      by : (r.visited < n) ⊎ (n ≤ r.visited) → (r ≡ whole_report true p) ⊎ ((n ≤ r.visited) × (n ≤ (whole_report true p).visited))
      by (inl l) = inl (first.whole l)
      by (inr l) = inr (l, many (cases_lt (whole_report true p).visited n))
        where
          many : ((whole_report true p).visited < n) ⊎ (n ≤ (whole_report true p).visited) → n ≤ (whole_report true p).visited
          many (inr h) = h
          many (inl h) =
              let all : length (take n (whole_report true p).visits) ≡ length (whole_report true p).visits = ap length (take_all n (whole_report true p).visits (omega (arith, h))) in
              let counted : length (whole_report true p).visits ≡ (whole_report true p).visited = refl in
              let t = taken in omega arith

  same_end : cover_end n r ≡ cover_end n (whole_report true p)
  same_end = by whole_or_full
    where
      by : (r ≡ whole_report true p) ⊎ ((n ≤ r.visited) × (n ≤ (whole_report true p).visited)) → cover_end n r ≡ cover_end n (whole_report true p)
      by (inl e) = ap (cover_end n) e
      by (inr h) = rw (le-ltb r.visited n h.0, le-ltb (whole_report true p).visited n h.1) refl

  same_packings_end : packings_end n r.visited ≡ packings_end n (whole_report true p).visited
  same_packings_end = by whole_or_full
    where
      by : (r ≡ whole_report true p) ⊎ ((n ≤ r.visited) × (n ≤ (whole_report true p).visited)) → packings_end n r.visited ≡ packings_end n (whole_report true p).visited
      by (inl e) = ap (λ b. packings_end n b.visited) e
      by (inr h) = rw (le-ltb r.visited n h.0, le-ltb (whole_report true p).visited n h.1) refl

  first_written : text_of (map visit_words r.visits) ++ text_of (cover_end n r) ≡ first_cover_output n p
  unfolding first_cover_output
  first_written = ap₂ (λ (vs : List (List ℕ)) (end : List (List (List ℕ))). text_of (map visit_words vs) ++ text_of end) first.visits same_end

first_shown : (n : ℕ) (p : PuzzleValue) (r : ReportValue) → IsFirstReport n (packing_problem p) r → packings_from p 1 r.visits ++ line_text (packings_end n r.visited) ≡ first_packings_output n p
unfolding first_packings_output
first_shown n p r first =
    ap₂ (λ (vs : List (List ℕ)) (end : List (List ℕ)). packings_from p 1 vs ++ line_text end) first.visits (same_packings_end n (packing_problem p) r first)

-- the text that is written, part by part: of covers
pub covers_written : (n : ℕ) (p : ProblemValue) (r : ReportValue) → IsFirstReport n p r → (none end whole : List ℕ) → none ≡ [] → end ≡ none ++ text_of (cover_end n r)
    → whole ≡ text_of (map visit_words r.visits) ++ end → whole ≡ first_cover_output n p
covers_written n p r first none end whole e f a =
    a ∙ ap (λ (t : List ℕ). text_of (map visit_words r.visits) ++ t) (f ∙ ap (λ (t : List ℕ). t ++ text_of (cover_end n r)) e) ∙ first_written n p r first

-- and of packings
pub packings_shown : (n : ℕ) (p : PuzzleValue) (r : ReportValue) → IsFirstReport n (packing_problem p) r → (none shown whole : List ℕ) (vs : List (List ℕ)) (many : ℕ) → none ≡ [] → vs ≡ r.visits → many ≡ r.visited
    → shown ≡ none ++ packings_from p 1 vs → whole ≡ shown ++ line_text (packings_end n many) → whole ≡ first_packings_output n p
packings_shown n p r first none shown whole vs many e f g a b =
    b ∙ ap₂ (λ (t : List ℕ) (k : ℕ). t ++ line_text (packings_end n k)) (a ∙ ap₂ (λ (t : List ℕ) (ws : List (List ℕ)). t ++ packings_from p 1 ws) e f) g ∙ first_shown n p r first
