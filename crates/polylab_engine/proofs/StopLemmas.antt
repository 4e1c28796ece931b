-- Where a stretch stops: how many of the steps that are asked for are left, and the end of a branch by its choices.
use Rattle.std.proofs.Common.{◌≡◌, ℕ, ◌+◌, ◌-◌, ◌<◌, ◌≤◌, ◌⊎◌, Bool, Option, Some, List, [], ◌∷◌, ◌++◌, option_map, refl, sym, ap, ◌∙◌, inl, inr, arith, le_refl, subst}
use Rattle.std.specs.Prelude as prelude
use Rattle.std.specs.Prelude.{IfSome, IsSomeAnd, true, false, if◌then◌else◌}
use Rattle.std.specs.Option.{ForSome}
use Rattle.std.proofs.lemmas.Bool.{cases_lt, cases_order, lt-ltb, le-ltb}
use Rattle.cover_problem.specs.Problem.{ProblemValue}
use Rattle.x_steps.specs.declared.state.Label.TheVariants.{X5, Done}
use Rattle.x_steps.specs.declared.state.Cursor.TheVariants.{At}
use Rattle.x_steps.specs.StateValue.{StateValue, at, start, done}
use Rattle.x_steps.specs.Steps.{Fits}
use Rattle.x_steps.specs.Run.{after, steps_between, ReachesIn}
use Rattle.x_steps.specs.Rank.{rank}
use Rattle.x_steps.specs.Machine.{MachineValue}
use Rattle.x_steps.specs.declared.event.Event.{Event}
use Rattle.x_steps.specs.Walk.{IsAtCut, is_visited}
use Rattle.x_steps.proofs.Neighbours.{split_last_cases}
use Rattle.x_steps.proofs.RunLemmas.{done_fits, start_first, leads_to, rises_between, run_leads}
use Rattle.x_branches.specs.Cut.{cut_state}
use Rattle.x_branches.specs.RunOrder.{ComesBefore}
use Rattle.x_branches.proofs.CutLemmas.{cut_is}
use Rattle.x_branches.proofs.RunnerLemmas.{before_not}
use Rattle.x_branches.proofs.WalkedLemmas.{end_is_cut}
use Rattle.polylab_engine.specs.Account.{ReportValue, visits_with}
use Rattle.polylab_engine.specs.Output.{whole_report}
use Rattle.polylab_engine.specs.Stretch.{end_at, steps_taken, stretch_report}

-- ---- the steps that are left

-- of the steps that are asked for, if any are, so many are left after k
abbrev pub IsLeft : Option ℕ → Option ℕ → ℕ → Type 0
IsLeft prelude.None prelude.None k = Unit {0}
IsLeft (Some most) (Some left) k = left + k ≡ most
IsLeft _ _ k = ⊥

pub all_left : (most : Option ℕ) → IsLeft most most 0
all_left prelude.None = tt
all_left (Some most) = let e : most + 0 ≡ most = omega arith in e

pub left_more : (most left : Option ℕ) (k n : ℕ) → IsLeft most left k → ForSome left (λ l. n ≤ l) → IsLeft most (option_map (λ l. l - n) left) (n + k)
left_more prelude.None prelude.None k n i w = tt
left_more prelude.None (Some left) k n i w = absurd i
left_more (Some most) prelude.None k n i w = absurd i
left_more (Some most) (Some left) k n i w = let e : left + k ≡ most = i in let l : n ≤ left = w left refl in let r : (left - n) + (n + k) ≡ most = omega arith in r

-- a walk within the pace is within what is left
pub pace_left : (left : Option ℕ) (pace n : ℕ) → IfSome left (λ l. pace ≤ l) → n ≤ pace → ForSome left (λ l. n ≤ l)
pace_left prelude.None pace n h l = λ x e. absurd (cc)
pace_left (Some left) pace n h l = λ x e. let p : pace ≤ left = h in let same : left ≡ x = cc in omega arith

-- a stretch that stops after k steps took as many as it should: at the end
pub taken_whole : (most left : Option ℕ) (k : ℕ) → IsLeft most left k → k ≡ steps_taken most k
taken_whole prelude.None left k i = refl
taken_whole (Some most) prelude.None k i = absurd i
taken_whole (Some most) (Some left) k i = let e : left + k ≡ most = i in let b = le-ltb most k (omega arith) in rw b refl

-- and where none is left
pub taken_all : (most left : Option ℕ) (k ahead : ℕ) → IsLeft most left k → left ≡ Some 0 → k ≤ ahead → k ≡ steps_taken most ahead
taken_all most prelude.None k ahead i z w = absurd (cc)
taken_all prelude.None (Some left) k ahead i z w = absurd i
taken_all (Some most) (Some left) k ahead i z w = step (cases_lt most ahead)
  where
    none : left ≡ 0
    none = cc

    step : (most < ahead) ⊎ (ahead ≤ most) → k ≡ steps_taken (Some most) ahead
    step (inl l) = let e : left + k ≡ most = i in let n = none in let b = lt-ltb most ahead l in let r : k ≡ most = omega arith in rw b r
    step (inr l) = let e : left + k ≡ most = i in let n = none in let b = le-ltb most ahead l in let r : k ≡ ahead = omega arith in rw b r

-- no more than there are up to the end
pub taken_within : (most : Option ℕ) (ahead : ℕ) → steps_taken most ahead ≤ ahead
taken_within prelude.None ahead = le_refl ahead
taken_within (Some most) ahead = step (cases_lt most ahead)
  where
    step : (most < ahead) ⊎ (ahead ≤ most) → steps_taken (Some most) ahead ≤ ahead
    step (inl l) = let b = lt-ltb most ahead l in let r : most ≤ ahead = omega arith in rw b r
    step (inr l) = let b = le-ltb most ahead l in rw b (le_refl ahead)

-- all of them, or as many as are asked for
pub taken_or : (most : Option ℕ) (ahead : ℕ) → (steps_taken most ahead ≡ ahead) ⊎ (most ≡ Some (steps_taken most ahead))
taken_or prelude.None ahead = inl refl
taken_or (Some most) ahead = step (cases_lt most ahead)
  where
    step : (most < ahead) ⊎ (ahead ≤ most) → (steps_taken (Some most) ahead ≡ ahead) ⊎ (Some most ≡ Some (steps_taken (Some most) ahead))
    step (inl l) = let b = lt-ltb most ahead l in inr (rw b refl)
    step (inr l) = let b = le-ltb most ahead l in inl (rw b refl)

-- ---- the visits that are asked for

-- a walk took no step since all visits are there, or since it was to take none, or where it stands at the end
pub why_none : {pace : ℕ} {Full None End : Type 0} → (pace ≡ 0 → Full ⊎ None) → (pace ≡ 0) ⊎ End → Full ⊎ (None ⊎ End)
why_none {Full = Full} {None = None} {End = End} kept (inl z) = by (kept z)
  where
    by : Full ⊎ None → Full ⊎ (None ⊎ End)
    by (inl f) = inl f
    by (inr n) = inr (inl n)
why_none kept (inr e) = inr (inr e)

-- what follows from one of two stands in one of two
pub either : {A B C D : Type 0} → A ⊎ B → (A → C) → (B → D) → C ⊎ D
either (inl a) f g = inl (f a)
either (inr b) f g = inr (g b)

-- where there are as many as are asked for, and no more
pub full_is : (first : Option ℕ) (v : ℕ) → IsSomeAnd first (λ n. n ≤ v) → ForSome first (λ n. v ≤ n) → first ≡ Some v
full_is prelude.None v full most = absurd full
full_is (Some n) v full most = let low : n ≤ v = full in let high : v ≤ n = most n refl in let same : n ≡ v = omega arith in ap Some same

-- where there are not, one more is within
pub not_full : (first : Option ℕ) (v more : ℕ) → (IsSomeAnd first (λ n. n ≤ v) → ⊥) → more ≤ v + 1 → ForSome first (λ n. more ≤ n)
not_full prelude.None v more less one = λ n e. absurd (cc)
not_full (Some m) v more less one = λ n e. step n e (cases_lt v m)
  where
    step : (n : ℕ) → Some m ≡ Some n → (v < m) ⊎ (m ≤ v) → more ≤ n
    step n e (inl l) = let same : m ≡ n = cc in omega arith
    step n e (inr l) = absurd (less l)

-- where no number is asked for, no visit stops the stretch
pub not_stopped : {P : Type 0} (v : ℕ) → (prelude.None ≡ Some v) ⊎ P → P
not_stopped v (inl e) = absurd (cc)
not_stopped v (inr h) = h

-- a walk comes to one visit at most
pub visits_within : (v : ℕ) (event : Event) → visits_with v event ≤ v + 1
visits_within v event = by (is_visited event)
  where
    by : (b : Bool) → (if b then v + 1 else v) ≤ v + 1
    by true = omega arith
    by false = omega arith

-- ---- the end of a branch, by its choices

-- X5 at the last of these choices is where the branch ends
pub cut_ends : (p : ProblemValue) (end : List ℕ) (s : StateValue) → IsAtCut s end → s ≡ end_at end
cut_ends p [] s a = end_is_cut prelude.None s a
cut_ends p (o ∷ path) s a = end_is_cut (Some (record { problem = p; path = o ∷ path })) s a

-- where it ends a walk stops
end_stops : (end : List ℕ) (s : StateValue) → s ≡ end_at end → (s.label ≡ Done) ⊎ IsAtCut s end
end_stops [] s e = inl (ap (λ (v : StateValue). v.label) e)
end_stops (o ∷ path) s e = step (split_last_cases (o ∷ path))
  where
    step : ((o ∷ path) ≡ []) ⊎ ((q : List ℕ) × (t : ℕ) × ((o ∷ path) ≡ q ++ t ∷ [])) → (s.label ≡ Done) ⊎ IsAtCut s (o ∷ path)
    step (inl none) = absurd (cc)
    step (inr r) =
        let here : s ≡ at X5 r.0 (At r.1) = e ∙ ap cut_state r.2 ∙ cut_is r.0 r.1 in
        inr (record {
          label = ap (λ (v : StateValue). v.label) here;
          option = r.1;
          cursor = ap (λ (v : StateValue). v.cursor) here;
          path = ap (λ (v : StateValue). v.path ++ r.1 ∷ []) here ∙ sym r.2;
        })

-- a walk that passes no cut there doesn't pass the end
module _ (p : ProblemValue) (s t : StateValue) (end : List ℕ) (n : ℕ) (fits : Fits p s) (end_fits : Fits p (end_at end)) (up : rank p s ≤ rank p (end_at end)) (reaches : ReachesIn p s t n)
    (before : (i : ℕ) → i < n → IsAtCut (after p i s) end → ⊥) where
  ahead : ReachesIn p s (end_at end) (steps_between p s (end_at end))
  ahead = leads_to p s (end_at end) fits end_fits up

  not_passed : steps_between p s (end_at end) < n → ⊥
  not_passed l = step (end_stops end (after p (steps_between p s (end_at end)) s) ahead.ends)
    where
      step : ((after p (steps_between p s (end_at end)) s).label ≡ Done) ⊎ IsAtCut (after p (steps_between p s (end_at end)) s) end → ⊥
      step (inl d) = reaches.goes_on (steps_between p s (end_at end)) l d
      step (inr c) = before (steps_between p s (end_at end)) l c

  pub walk_not_past : rank p t ≤ rank p (end_at end)
  walk_not_past = step (cases_order n (steps_between p s (end_at end)))
    where
      there : rank p (after p n s) ≡ rank p t
      there = ap (rank p) reaches.ends

      last : rank p (after p (steps_between p s (end_at end)) s) ≡ rank p (end_at end)
      last = ap (rank p) ahead.ends

      step : (n ≡ steps_between p s (end_at end)) ⊎ ((n < steps_between p s (end_at end)) ⊎ (steps_between p s (end_at end) < n)) → rank p t ≤ rank p (end_at end)
      step (inl e) = let a = there in let b = last in let c = ap (λ k. rank p (after p k s)) e in omega arith
      step (inr (inl l)) =
          let a = there in let b = last in
          let r = rises_between p (steps_between p s (end_at end)) s fits ahead.goes_on n (steps_between p s (end_at end)) l (le_refl (steps_between p s (end_at end))) in omega arith
      step (inr (inr l)) = absurd (not_passed l)

-- ---- the whole run, which is the stretch from X1 to Done

module _ (keeps : Bool) (p : ProblemValue) (m : MachineValue) (at_first : m ≡ record { problem = p; state = start }) where
  pub whole_not_past : ComesBefore m.problem (end_at []) m.state → ⊥
  whole_not_past =
      subst (λ (n : MachineValue). ComesBefore n.problem (end_at []) n.state → ⊥) (sym at_first)
      (before_not p done start (done_fits p) (start_first p done (done_fits p)))

  pub whole_stretch : (r : ReportValue) (t : StateValue) → t ≡ after m.problem (steps_taken prelude.None (steps_between m.problem m.state (end_at []))) m.state
      → r ≡ stretch_report keeps m.problem m.state t → r ≡ whole_report keeps p
  whole_stretch r t stop report =
      let here : t ≡ after p (steps_between p start done) start = stop ∙ ap (λ (n : MachineValue). after n.problem (steps_between n.problem n.state done) n.state) at_first in
      report ∙ ap (λ (n : MachineValue). stretch_report keeps n.problem n.state t) at_first ∙ ap (stretch_report keeps p start) (here ∙ (run_leads p).ends)
