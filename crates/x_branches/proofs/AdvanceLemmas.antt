-- Steps behind a visit: no branch ends there, and what walks one after another come to.
use Rattle.std.proofs.Common.{cond, ◌≡◌, ◌∙◌, ℕ, zero, suc, ◌+◌, ◌-◌, ◌<◌, ◌≤◌, ◌⊎◌, Bool, true, false, if◌then◌else◌, inl, inr, Option, Some, List, [], ◌∷◌, ◌++◌, sym, ap, subst, refl, arith}
use Rattle.std.specs.Prelude as prelude
use Rattle.std.proofs.lemmas.Bool.{cases_lt}
use Rattle.cover_problem.specs.Problem.{ProblemValue}
use Rattle.x_steps.specs.declared.state.Label.{Label}
use Rattle.x_steps.specs.declared.state.Label.TheVariants.{X2, X3, X8}
use Rattle.x_steps.specs.declared.state.Cursor.{Cursor}
use Rattle.x_steps.specs.declared.state.Cursor.TheVariants as cursor
use Rattle.x_steps.specs.declared.event.Event.{Event}
use Rattle.x_steps.specs.declared.event.Event.TheVariants.{Moved, Visited}
use Rattle.x_steps.specs.declared.machine.walk.Walk.{Walk}
use Rattle.x_steps.specs.StateValue.{StateValue, at}
use Rattle.x_steps.specs.Steps.{next, next_at, event_of, event_at, is_open, is_visit}
use Rattle.x_steps.specs.Run.{after, steps_between}
use Rattle.x_steps.specs.Walk.{last_event, is_visited, TellsLast}
use Rattle.x_steps.proofs.Neighbours.{split_last_cases}
use Rattle.x_steps.proofs.RunLemmas.{after_add}
use Rattle.x_branches.specs.Cut.{CutPath, cut_state}
use Rattle.x_branches.specs.Branch.{end_of}
use Rattle.x_branches.specs.Runner.{RunnerValue}
use Rattle.x_branches.specs.Refusals.{most_steps, CanAdvance}
use Rattle.x_branches.specs.Walk.{advanced_by, CanAdvanceBy, IsHeldUp, HasToStop}
use Rattle.x_branches.proofs.CutLemmas.{cut_is}
use Rattle.x_branches.proofs.WalkedLemmas.{none_is_start}

-- a visit is told on the way to X8
visits : (p : ProblemValue) (l : Label) (path : List ℕ) (k : Cursor) → event_at p l path ≡ Visited → (next_at p l path k).label ≡ X8
visits p X2 path k e = by (is_open p path) e
  where
    by : (b : Bool) → (if b then Moved else Visited) ≡ Visited → (if b then at X3 path cursor.None else at X8 path cursor.None).label ≡ X8
    by true e = absurd (cc)
    by false e = refl
visits p X8 [] k e = absurd (cc)
visits p X8 (x ∷ xs) k e = absurd (cc)
visits p _ path _ e = absurd (cc)

-- a branch ends at X5 or at Done
end_is_no_X8 : (hi : Option CutPath) → (end_of hi).label ≡ X8 → ⊥
end_is_no_X8 prelude.None e = absurd (cc)
end_is_no_X8 (Some cut) e = step (split_last_cases cut.path)
  where
    step : (cut.path ≡ []) ⊎ ((q : List ℕ) × (o : ℕ) × (cut.path ≡ q ++ o ∷ [])) → ⊥
    step (inl none) = let h = ap (λ (v : StateValue). v.label) (ap cut_state none ∙ none_is_start) in absurd (cc)
    step (inr r) = let h = ap (λ (v : StateValue). v.label) (ap cut_state r.2 ∙ cut_is r.0 r.1) in absurd (cc)

-- so no branch ends behind a visit
pub behind_visit : (p : ProblemValue) (s : StateValue) (n : ℕ) (event : Event) (hi : Option CutPath) → event ≡ last_event p n s → event ≡ Visited → after p n s ≡ end_of hi → ⊥
unfolding next event_of
behind_visit p s zero event hi tells e ends = absurd (cc)
behind_visit p s (suc n) event hi tells e ends = let u = after p n s in end_is_no_X8 hi (ap (λ v. v.label) (sym ends) ∙ visits p u.label u.path u.cursor (sym tells ∙ e))

-- steps after steps
pub advanced_join : (r : RunnerValue) (a b c : ℕ) → b + a ≡ c → advanced_by (advanced_by r a) b ≡ advanced_by r c
advanced_join r a b c e = ap (λ s. record r { position = s }) (after_add r.problem b a r.position ∙ ap (λ k. after r.problem k r.position) e)

pub can_join : (r : RunnerValue) (a b c : ℕ) → b + a ≡ c → CanAdvanceBy r a → CanAdvanceBy (advanced_by r a) b → CanAdvanceBy r c
can_join r a b c e first second i l = step (cases_lt i a)
  where
    step : (i < a) ⊎ (a ≤ i) → CanAdvance (advanced_by r i)
    step (inl h) = first i h
    step (inr h) = subst CanAdvance (advanced_join r a (i - a) i (omega arith)) (second (i - a) (omega arith))

-- ---- a loop of walks

-- a runner was to take so many steps and has some left, and the last walk on the way was this one
pub record Advances (most : ℕ) (old new : RunnerValue) (left : ℕ) (walk : Walk) : Type 0 where
  pub within : left ≤ most
  pub some : 0 < most → left < most
  pub state : new ≡ advanced_by old (most - left)
  pub each_step : CanAdvanceBy old (most - left)
  pub behind : walk.event ≡ Visited → new.position ≡ end_of new.branch.hi → ⊥
  pub stops : (left ≡ 0) ⊎ HasToStop new walk.event

-- where a runner is behind a walk
behind_walk : (r s : RunnerValue) (walk : Walk) → s ≡ advanced_by r walk.steps → TellsLast r.problem r.position walk → walk.event ≡ Visited → s.position ≡ end_of s.branch.hi → ⊥
behind_walk r s walk state tells visited = subst (λ (q : RunnerValue). q.position ≡ end_of q.branch.hi → ⊥) (sym state) (behind_visit r.problem r.position walk.steps walk.event r.branch.hi tells visited)

pub begins : (most : ℕ) (old new : RunnerValue) (walk : Walk) → new ≡ advanced_by old walk.steps → CanAdvanceBy old walk.steps → TellsLast old.problem old.position walk
    → walk.steps ≤ most → (0 < most → 0 < walk.steps) → (walk.steps ≡ most) ⊎ HasToStop new walk.event → Advances most old new (most - walk.steps) walk
begins most old new walk state each tells within some stops = record {
  within = omega arith;
  some = λ l. let s = some l in omega arith;
  state = state ∙ ap (advanced_by old) whole;
  each_step = subst (CanAdvanceBy old) whole each;
  behind = behind_walk old new walk state tells;
  stops = by stops;
}
  where
    whole : walk.steps ≡ most - (most - walk.steps)
    whole = omega arith

    by : (walk.steps ≡ most) ⊎ HasToStop new walk.event → (most - walk.steps ≡ 0) ⊎ HasToStop new walk.event
    by (inl e) = inl (omega arith)
    by (inr h) = inr h

pub goes_on : (most left : ℕ) (old mid new : RunnerValue) (before walk : Walk) → Advances most old mid left before → new ≡ advanced_by mid walk.steps → CanAdvanceBy mid walk.steps
    → TellsLast mid.problem mid.position walk → walk.steps ≤ left → (walk.steps ≡ left) ⊎ HasToStop new walk.event → Advances most old new (left - walk.steps) walk
goes_on most left old mid new before walk a state each tells within stops = record {
  within = let l = a.within in omega arith;
  some = λ l. let s = a.some l in omega arith;
  state = state ∙ ap (λ r. advanced_by r walk.steps) a.state ∙ advanced_join old (most - left) walk.steps (most - (left - walk.steps)) whole;
  each_step = can_join old (most - left) walk.steps (most - (left - walk.steps)) whole a.each_step (subst (λ r. CanAdvanceBy r walk.steps) a.state each);
  behind = behind_walk mid new walk state tells;
  stops = by stops;
}
  where
    whole : walk.steps + (most - left) ≡ most - (left - walk.steps)
    whole = let l = a.within in omega arith

    by : (walk.steps ≡ left) ⊎ HasToStop new walk.event → (left - walk.steps ≡ 0) ⊎ HasToStop new walk.event
    by (inl e) = inl (omega arith)
    by (inr h) = inr h

-- how far the loop has to go: behind a visit there is one walk more
abbrev pub to_go : ℕ → Walk → ℕ
to_go left walk = left + cond (is_visited walk.event) 1 0

pub comes_nearer : (p : ProblemValue) (s : StateValue) (left : ℕ) (before walk : Walk) → before.event ≡ Visited → TellsLast p s walk → walk.steps ≤ left → to_go (left - walk.steps) walk < to_go left before
comes_nearer p s left before walk visited tells within = rw (visited, tells) (by walk.steps within)
  where
    by : (n : ℕ) → n ≤ left → (left - n) + cond (is_visited (last_event p n s)) 1 0 < left + 1
    by zero l = omega arith
    by (suc n) l = most_one (is_visited (last_event p (suc n) s))
      where
        most_one : (b : Bool) → (left - suc n) + cond b 1 0 < left + 1
        most_one true = omega arith
        most_one false = omega arith

-- what ends the loop
pub held_up : (r : RunnerValue) (most left : ℕ) (event : Event) → (left ≡ 0) ⊎ HasToStop r event → (left ≡ 0) ⊎ (event ≡ Visited → ⊥) → (most - left ≡ most) ⊎ IsHeldUp r
held_up r most left event (inl e) ended = inl (omega arith)
held_up r most left event (inr h) (inl e) = inl (omega arith)
held_up r most left event (inr (inl v)) (inr other) = absurd (other v)
held_up r most left event (inr (inr h)) (inr other) = inr h

-- a runner that isn't at its branch's end and has room, and is held up, stands at a visit
pub refused_at_visit : (r : RunnerValue) (most : ℕ) → (r.position ≡ end_of r.branch.hi → ⊥) → (steps_between r.problem r.mark r.position ≡ most_steps → ⊥) → 0 < most
    → (most ≡ 0) ⊎ IsHeldUp r → CanAdvance r × (is_visit r.problem r.position ≡ true)
refused_at_visit r most off room some held = (can, by held)
  where
    can : CanAdvance r
    can = record { goes_on = off; has_room = room }

    by : (most ≡ 0) ⊎ IsHeldUp r → is_visit r.problem r.position ≡ true
    by (inl e) = absurd (omega arith)
    by (inr (inl not)) = absurd (not can)
    by (inr (inr v)) = v
