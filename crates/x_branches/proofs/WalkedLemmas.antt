-- Many steps of a runner: what it keeps after them, and where they stop.
use Rattle.std.proofs.Common.{◌≡◌, ◌≢◌, ℕ, zero, suc, ◌+◌, ◌-◌, ◌<◌, ◌≤◌, ◌⊎◌, ◌==◌, Bool, true, false, if◌then◌else◌, Option, Some, List, [], ◌∷◌, ◌++◌, length, get_or, refl, sym, ap, ◌∙◌, subst, inl, inr, arith, le_refl, length-append, min}
use Rattle.std.specs.Prelude as prelude
use Rattle.std.specs.Prelude.{slice_index}
use Rattle.std.proofs.Math.ListN.{set}
use Rattle.std.proofs.lemmas.Bool.{and_parts, cases_lt}
use Rattle.std.proofs.lemmas.Bool.Decides.{eqb_tells}
use Rattle.std.proofs.lemmas.List.{ext_get_or, length-set, get_or-set_same, get_or-set_other}
use Rattle.cover_problem.specs.Problem.{ProblemValue, IsProblem}
use Rattle.x_steps.specs.declared.state.Label.{Label}
use Rattle.x_steps.specs.declared.state.Label.TheVariants.{X1, X2, X3, X5, X8, Done}
use Rattle.x_steps.specs.declared.state.Cursor.{Cursor}
use Rattle.x_steps.specs.declared.state.Cursor.TheVariants as cursor
use Rattle.x_steps.specs.declared.state.Cursor.TheVariants.{At}
use Rattle.x_steps.specs.declared.event.Event.{Event}
use Rattle.x_steps.specs.declared.event.Event.TheVariants.{Moved, Visited, Finished}
use Rattle.x_steps.specs.StateValue.{StateValue, at, start}
use Rattle.x_steps.specs.Steps.{Fits, next, next_at, event_at, event_of, is_level, is_open, is_visit}
use Rattle.x_steps.specs.Before.{prev}
use Rattle.x_steps.specs.Run.{after, states, visits, level_count, steps_between, states_between, visits_between, levels, ReachesIn}
use Rattle.x_steps.specs.Walk.{last_event, is_visited, visit_told, OnlyMoves, AreCounted, CountsHaveRoom, IsAtCut, IsWalk}
use Rattle.x_steps.specs.Rank.{rank}
use Rattle.x_steps.proofs.Neighbours.{split_last_cases, prev_next}
use Rattle.x_steps.proofs.RunLemmas.{after_fits, first_is, leads_join, none_before, start_first, steps_between_is}
use Rattle.x_steps.proofs.BetweenLemmas.{length-levels, levels_at, level_count_between, level_count_push, visits_between_join}
use Rattle.x_steps.proofs.StretchLemmas.{reached_fits, reached_rank}
use Rattle.x_steps.proofs.VisitedLemmas.{tells, walk_shows}
use Rattle.x_branches.specs.Cut.{CutPath, cut_state}
use Rattle.x_branches.specs.Branch.{first_of, end_of}
use Rattle.x_branches.specs.Runner.{RunnerValue, KeepsRunner, without_level}
use Rattle.x_branches.specs.Refusals.{most_steps}
use Rattle.x_branches.specs.Walk.{end_choices, CanAdvanceBy, IsHeldUp, HasToStop}
use Rattle.x_branches.proofs.StageLemmas.{comes_rank}
use Rattle.x_branches.proofs.CutLemmas.{cut_is}
use Rattle.x_branches.proofs.RunnerLemmas.{may_stand, other_before, next_before, before_goes_on, level_within, count_within, position_fits, mark_up, end_up}

-- ---- a walk that is taken back by its last step

-- the state before the last of some steps
pub stepped_back : (p : ProblemValue) (s t u : StateValue) (n : ℕ) → Fits p s → ReachesIn p s t (suc n) → u ≡ prev p t → u ≡ after p n s
stepped_back p s t u n f r e = e ∙ ap (prev p) (sym r.ends) ∙ prev_next p (after p n s) (after_fits p n s f) (r.goes_on n (omega arith))

-- the end of the run is told on the way to Done
finishes : (p : ProblemValue) (l : Label) (path : List ℕ) (k : Cursor) → event_at p l path ≡ Finished → (next_at p l path k).label ≡ Done
finishes p X2 path k e = by (is_open p path) e
  where
    by : (b : Bool) → (if b then Moved else Visited) ≡ Finished → (if b then at X3 path cursor.None else at X8 path cursor.None).label ≡ Done
    by true e = absurd (cc)
    by false e = absurd (cc)
finishes p X8 [] k e = refl
finishes p X8 (x ∷ xs) k e = absurd (cc)
finishes p _ path _ e = absurd (cc)

finished_at : (p : ProblemValue) (s t : StateValue) (n : ℕ) (event : Event) → event ≡ last_event p n s → event ≡ Finished → after p n s ≡ t → t.label ≡ Done
unfolding next event_of
finished_at p s t zero event tells e ends = absurd (cc)
finished_at p s t (suc n) event tells e ends = let u = after p n s in ap (λ v. v.label) (sym ends) ∙ finishes p u.label u.path u.cursor (sym tells ∙ e)

-- what tells a visit is one
pub told_visit : (p : ProblemValue) (s : StateValue) → event_of p s ≡ Visited → is_visit p s ≡ true
told_visit p s e = sym (tells p s.label s.path s.cursor) ∙ ap is_visited e

-- one less at a level where one was counted
uncounted : (a b : List ℕ) (ss : List StateValue) (t : StateValue) → AreCounted a b (ss ++ t ∷ []) → is_level t.label ≡ true → length t.path < length b → AreCounted a (without_level b t) ss
uncounted a b ss t v e w = rw e (record {
  levels = length-set b (length t.path) (slice_index b (length t.path) - 1) ∙ v.levels;
  each = λ level h. step level h (eqb_tells (length t.path) level);
})
  where
    step : (level : ℕ) → level < length a → ((length t.path == level) ≡ true) × (length t.path ≡ level) ⊎ ((length t.path == level) ≡ false) × (length t.path ≢ level) → slice_index (set b (length t.path) (slice_index b (length t.path) - 1)) level ≡ slice_index a level + level_count ss level
    step level h (inl same) =
        let x = v.each level h in
        let y = rw (e, same.0) at (level_count_push ss t level) in
        let z = get_or-set_same b (length t.path) (slice_index b (length t.path) - 1) 0 w in
        let l = ap (λ k. slice_index b k) same.1 in
        let m = ap (λ k. slice_index (set b (length t.path) (slice_index b (length t.path) - 1)) k) same.1 in omega arith
    step level h (inr other) =
        let x = v.each level h in
        let y = rw (e, other.0) at (level_count_push ss t level) in
        let z = get_or-set_other b (length t.path) level (slice_index b (length t.path) - 1) 0 (λ k. other.1 (sym k)) in omega arith

-- a walk of no step tells no visit
pub some_step : (p : ProblemValue) (s t : StateValue) (a b : List ℕ) (n : ℕ) → IsWalk p s t a b n Visited → 0 < n
some_step p s t a b zero w = let e = w.tells in absurd (cc)
some_step p s t a b (suc n) w = omega arith

same_is : (n : ℕ) → (n == n) ≡ true
same_is n = step (eqb_tells n n)
  where
    step : ((n == n) ≡ true) × (n ≡ n) ⊎ ((n == n) ≡ false) × (n ≢ n) → (n == n) ≡ true
    step (inl e) = e.0
    step (inr e) = absurd (e.1 refl)

walked_less : (p : ProblemValue) (s : StateValue) (n : ℕ) → OnlyMoves p (suc n) s → Moved ≡ last_event p n s
walked_less p s zero moves = refl
walked_less p s (suc n) moves = sym (moves n (omega arith))

-- a step leads to no first state
pub not_first : (p : ProblemValue) (s t : StateValue) (a b : List ℕ) (m : ℕ) (event : Event) → Fits p s → IsWalk p s t a b m event → event ≡ Visited → t.label ≡ X1 → ⊥
not_first p s t a b m event fits walk told h = step m (some_step p s t a b m (subst (IsWalk p s t a b m) told walk)) walk.reaches
  where
    step : (m : ℕ) → 0 < m → ReachesIn p s t m → ⊥
    step zero l r = absurd (omega arith)
    step (suc n) l r = none_before p (after p n s) (record {
      fit = after_fits p n s fits;
      goes_on = r.goes_on n (omega arith);
      steps = r.ends ∙ first_is p t (reached_fits p s t (suc n) fits r) h;
    })

-- the visit of a walk
pub visit_noted : (p : ProblemValue) (s t : StateValue) (a b : List ℕ) (n : ℕ) (event : Event) → IsWalk p s t a b n event → visits p (states p n s) ≡ visit_told event t.path
visit_noted p s t a b n event walk = walk_shows p n s walk.moves ∙ (λ j. visit_told (sym walk.tells j) (walk.reaches.ends j).path)

module _ (p : ProblemValue) (s t u : StateValue) (a b : List ℕ) (m : ℕ) (event : Event) (sound : IsProblem p) (fits : Fits p s) (walk : IsWalk p s t a b m event) (told : event ≡ Visited)
    (size : length a ≡ length p.names + 1) (back : u ≡ prev p t) where
  whole : IsWalk p s t a b (suc (m - 1)) Visited
  whole =
      let some = some_step p s t a b m (subst (IsWalk p s t a b m) told walk) in
      let e : m ≡ suc (m - 1) = omega arith in
      subst (λ k. IsWalk p s t a b k Visited) e (subst (IsWalk p s t a b m) told walk)

  there : u ≡ after p (m - 1) s
  there = stepped_back p s t u (m - 1) fits whole.reaches back

  pub visit_there : is_visit p u ≡ true
  visit_there = told_visit p u (ap (event_of p) there ∙ sym whole.tells)

  level_there : is_level u.label ≡ true
  level_there = (and_parts (is_level u.label) _ visit_there).0

  pub path_within : length u.path < length b
  path_within =
      let l = level_within p u sound (subst (Fits p) (sym there) (after_fits p (m - 1) s fits)) in
      let k = walk.counted.levels in omega arith

  counted_last : AreCounted a b (states p (m - 1) s ++ u ∷ [])
  counted_last = subst (λ v. AreCounted a b (states p (m - 1) s ++ v ∷ [])) (sym there) whole.counted

  pub counted_there : 0 < slice_index b (length u.path)
  counted_there =
      let k = walk.counted.levels in
      let w = path_within in
      let x = counted_last.each (length u.path) (omega arith) in
      let y = rw (level_there, same_is (length u.path)) at (level_count_push (states p (m - 1) s) u (length u.path)) in omega arith

  pub walked_back : (c : List ℕ) → c ≡ without_level b u → IsWalk p s u a c (m - 1) Moved
  walked_back c e = record {
    reaches = record { ends = sym there; goes_on = λ i l. whole.reaches.goes_on i (omega arith) };
    moves = λ i l. whole.moves i (omega arith);
    tells = walked_less p s (m - 1) whole.moves;
    counted = subst (λ d. AreCounted a d (states p (m - 1) s)) (sym e) (uncounted a b (states p (m - 1) s) u counted_last level_there path_within);
  }

  pub none_noted : (c : List ℕ) → c ≡ without_level b u → visits p (states p (m - 1) s) ≡ []
  none_noted c e = visit_noted p s u a c (m - 1) Moved (walked_back c e)

-- ---- the end of a branch, by its choices

pub end_is_cut : (hi : Option CutPath) (s : StateValue) → IsAtCut s (end_choices hi) → s ≡ end_of hi
end_is_cut prelude.None s a = let n = ap (length {A = ℕ}) a.path in let m = length-append s.path (a.option ∷ []) in absurd (omega arith)
end_is_cut (Some cut) s a =
    let here : s ≡ at X5 s.path (At a.option) = (λ j. at (a.label j) s.path (a.cursor j)) in
    here ∙ sym (cut_is s.path a.option) ∙ ap cut_state a.path

pub none_is_start : cut_state [] ≡ start
unfolding cut_state
none_is_start = refl

cut_is_end : (p : ProblemValue) (hi : Option CutPath) (s first : StateValue) → Fits p first → rank p first < rank p (end_of hi) → s ≡ end_of hi → (s.label ≡ Done) ⊎ IsAtCut s (end_choices hi)
cut_is_end p prelude.None s first f l e = inl (ap (λ (v : StateValue). v.label) e)
cut_is_end p (Some cut) s first f l e = step (split_last_cases cut.path)
  where
    step : (cut.path ≡ []) ⊎ ((q : List ℕ) × (o : ℕ) × (cut.path ≡ q ++ o ∷ [])) → (s.label ≡ Done) ⊎ IsAtCut s cut.path
    step (inl none) =
        let a = start_first p first f in
        let b = ap (rank p) (ap cut_state none ∙ none_is_start) in absurd (omega arith)
    step (inr r) =
        let here : s ≡ at X5 r.0 (At r.1) = e ∙ ap cut_state r.2 ∙ cut_is r.0 r.1 in
        inr (record {
          label = ap (λ (v : StateValue). v.label) here;
          option = r.1;
          cursor = ap (λ (v : StateValue). v.cursor) here;
          path = ap (λ (v : StateValue). v.path ++ r.1 ∷ []) here ∙ sym r.2;
        })

-- ---- a runner

-- the run goes on where the runner isn't at its branch's end
pub not_over : (r : RunnerValue) (steps : ℕ) (visited : List (List ℕ)) (counts : List ℕ) → KeepsRunner r steps visited counts → (r.position ≡ end_of r.branch.hi → ⊥) → r.position.label ≡ Done → ⊥
not_over r steps visited counts k h = before_goes_on r.problem r.position (end_of r.branch.hi) (position_fits r steps visited counts k) k.end_fits
    (other_before r.problem r.position (end_of r.branch.hi) (position_fits r steps visited counts k) k.end_fits (end_up r steps visited counts k) h)

module _ (r : RunnerValue) (steps : ℕ) (visited : List (List ℕ)) (counts : List ℕ) (k : KeepsRunner r steps visited counts) where
  pub walk_levels : (row : List ℕ) → row ≡ counts → length row ≡ length r.problem.names + 1
  walk_levels row e = ap (length {A = ℕ}) (e ∙ k.counts_are) ∙ length-levels r.problem r.mark r.position

  -- no count is above the number of steps
  pub walk_room : (row : List ℕ) (most : ℕ) → row ≡ counts → steps + most ≤ most_steps → CountsHaveRoom most row
  walk_room row most e l = λ level h.
      let a = walk_levels row e in
      let b = levels_at r.problem r.mark r.position level 0 (omega arith) in
      let c = count_within r.problem r.mark r.position level in
      let d = ap (λ xs. get_or xs level 0) (e ∙ k.counts_are) in
      let s = k.steps_are in omega arith

  first_before : rank r.problem (first_of r.branch.lo) < rank r.problem (end_of r.branch.hi)
  first_before = comes_rank r.problem (first_of r.branch.lo) (end_of r.branch.hi) k.first_fits k.inside.branch.order

  module _ (t : StateValue) (row : List ℕ) (n : ℕ) (event : Event) (walk : IsWalk r.problem r.position t counts row n event) (fitting : steps + n ≤ most_steps)
      (before : (i : ℕ) → i < n → IsAtCut (after r.problem i r.position) (end_choices r.branch.hi) → ⊥) where
    here : (i : ℕ) → Fits r.problem (after r.problem i r.position)
    here i = after_fits r.problem i r.position (position_fits r steps visited counts k)

    not_end : (i : ℕ) → i < n → after r.problem i r.position ≡ end_of r.branch.hi → ⊥
    not_end i l e = step (cut_is_end r.problem r.branch.hi (after r.problem i r.position) (first_of r.branch.lo) k.first_fits first_before e)
      where
        step : ((after r.problem i r.position).label ≡ Done) ⊎ IsAtCut (after r.problem i r.position) (end_choices r.branch.hi) → ⊥
        step (inl d) = walk.reaches.goes_on i l d
        step (inr c) = before i l c

    up_to : (i : ℕ) → i ≤ n → rank r.problem (after r.problem i r.position) ≤ rank r.problem (end_of r.branch.hi)
    up_to zero l = end_up r steps visited counts k
    up_to (suc i) l = next_before r.problem (after r.problem i r.position) (end_of r.branch.hi) (here i) k.end_fits
        (other_before r.problem (after r.problem i r.position) (end_of r.branch.hi) (here i) k.end_fits (up_to i (omega arith)) (not_end i (omega arith)))

    fits : Fits r.problem t
    fits = reached_fits r.problem r.position t n (position_fits r steps visited counts k) walk.reaches

    up : rank r.problem r.position ≤ rank r.problem t
    up = reached_rank r.problem r.position t n (position_fits r steps visited counts k) walk.reaches

    end_after : rank r.problem t ≤ rank r.problem (end_of r.branch.hi)
    end_after = subst (λ v. rank r.problem v ≤ rank r.problem (end_of r.branch.hi)) walk.reaches.ends (up_to n (le_refl n))

    reached : (i : ℕ) → i ≤ n → ReachesIn r.problem r.mark (after r.problem i r.position) (i + steps_between r.problem r.mark r.position)
    reached i l = leads_join r.problem r.mark r.position (after r.problem i r.position) (steps_between r.problem r.mark r.position) i k.inside.stretch.reaches
        (record { ends = refl; goes_on = λ j m. walk.reaches.goes_on j (omega arith) })

    steps_to : (i : ℕ) → i ≤ n → steps_between r.problem r.mark (after r.problem i r.position) ≡ i + steps
    steps_to i l = let s = k.steps_are in
        let e = steps_between_is r.problem r.mark (after r.problem i r.position) (i + steps_between r.problem r.mark r.position) k.inside.stretch.fits (reached i l) in omega arith

    -- each step could be taken
    pub each_step : CanAdvanceBy r n
    each_step i l = record { goes_on = not_end i l; has_room = λ full. let e = steps_to i (omega arith) in absurd (omega arith) }

    same_states : states_between r.problem r.position t ≡ states r.problem n r.position
    same_states = ap (λ m. states r.problem m r.position) (steps_between_is r.problem r.position t n (position_fits r steps visited counts k) walk.reaches)

    visits_walked : visited ++ visits r.problem (states r.problem n r.position) ≡ visits_between r.problem r.mark t
    unfolding visits_between
    visits_walked =
        ap (λ vs. vs ++ visits r.problem (states r.problem n r.position)) k.visits_are ∙ ap (λ ss. visits_between r.problem r.mark r.position ++ visits r.problem ss) (sym same_states)
        ∙ sym (visits_between_join r.problem r.mark r.position t k.inside.stretch.fits (position_fits r steps visited counts k) fits (mark_up r steps visited counts k) up)

    counts_walked : row ≡ levels r.problem r.mark t
    counts_walked = ext_get_or 0 _ _ (walk.counted.levels ∙ walk_levels counts refl ∙ sym (length-levels r.problem r.mark t)) (λ level h.
        let size = walk_levels counts refl in
        let same = walk.counted.levels in
        let l : level ≤ length r.problem.names = omega arith in
        let a = walk.counted.each level (omega arith) in
        let b = ap (λ xs. get_or xs level 0) k.counts_are in
        let c = levels_at r.problem r.mark r.position level 0 l in
        let d = levels_at r.problem r.mark t level 0 l in
        let e = level_count_between r.problem r.mark r.position t level k.inside.stretch.fits (position_fits r steps visited counts k) fits (mark_up r steps visited counts k) up in
        let f = ap (λ ss. level_count ss level) same_states in omega arith)

    keeps_walked : KeepsRunner (record r { position = t }) (steps + n) (visited ++ visits r.problem (states r.problem n r.position)) row
    keeps_walked = record {
      sound = k.sound;
      inside = may_stand r t k.inside k.first_fits k.end_fits fits (let a = mark_up r steps visited counts k in let b = up in omega arith) end_after;
      first_fits = k.first_fits;
      end_fits = k.end_fits;
      steps_are = let e = steps_to n (le_refl n) in let f = ap (steps_between r.problem r.mark) walk.reaches.ends in omega arith;
      visits_are = visits_walked;
      counts_are = counts_walked;
    }

    pub walked : (q : ProblemValue) (m : ℕ) (vs : List (List ℕ)) (cs : List ℕ) → q ≡ r.problem → m ≡ steps + n → vs ≡ visited ++ visits r.problem (states r.problem n r.position) → cs ≡ row
        → KeepsRunner (record { problem = q; branch = r.branch; mark = r.mark; position = t }) m vs cs
    walked q m vs cs a b c d = rw (a, b, c, d) keeps_walked

    -- what a step told that didn't move on: a visit, or the end of the run, from where no step can be taken
    told : (e : Event) → event ≡ e → event ≢ Moved → HasToStop (record r { position = t }) event
    told Moved e h = absurd (h e)
    told Visited e h = inl e
    told Finished e h = inr (inl (λ can. not_over (record r { position = t }) (steps + n) _ row keeps_walked can.goes_on (finished_at r.problem r.position t n event walk.tells e walk.reaches.ends)))

    pub stops_there : (most room : ℕ) (q : ProblemValue) → q ≡ r.problem → (room ≡ most) ⊎ (steps + room ≡ most_steps) → (n ≡ room) ⊎ ((event ≢ Moved) ⊎ (IsAtCut t (end_choices r.branch.hi) ⊎ (is_visit r.problem t ≡ true)))
        → (n ≡ most) ⊎ HasToStop (record { problem = q; branch = r.branch; mark = r.mark; position = t }) event
    stops_there most room q same asked stops = subst (λ p. (n ≡ most) ⊎ HasToStop (record { problem = p; branch = r.branch; mark = r.mark; position = t }) event) (sym same) (by stops asked)
      where
        by : (n ≡ room) ⊎ ((event ≢ Moved) ⊎ (IsAtCut t (end_choices r.branch.hi) ⊎ (is_visit r.problem t ≡ true))) → (room ≡ most) ⊎ (steps + room ≡ most_steps) → (n ≡ most) ⊎ HasToStop (record r { position = t }) event
        by (inl e) (inl f) = inl (e ∙ f)
        by (inl e) (inr f) = inr (inr (inl (λ can. can.has_room (let g = steps_to n (le_refl n) in let h = ap (steps_between r.problem r.mark) walk.reaches.ends in omega arith))))
        by (inr (inl h)) asked = inr (told event refl h)
        by (inr (inr (inl c))) asked = inr (inr (inl (λ can. can.goes_on (end_is_cut r.branch.hi t c))))
        by (inr (inr (inr v))) asked = inr (inr (inr v))

    -- no step was taken: none was asked for, or the runner is held up, where there is no memory for a visit
    pub none_taken : (most room : ℕ) → n ≡ 0 → (room ≡ most) ⊎ (steps + room ≡ most_steps) → (n ≡ room) ⊎ ((event ≢ Moved) ⊎ (IsAtCut t (end_choices r.branch.hi) ⊎ (is_visit r.problem t ≡ true)))
        → (most ≡ 0) ⊎ IsHeldUp r
    none_taken most room z asked stops = by (stops_there most room r.problem refl asked stops)
      where
        same : t ≡ r.position
        same = sym walk.reaches.ends ∙ ap (λ i. after r.problem i r.position) z

        by : (n ≡ most) ⊎ HasToStop (record r { position = t }) event → (most ≡ 0) ⊎ IsHeldUp r
        by (inl e) = inl (sym e ∙ z)
        by (inr (inl v)) = let tells = walk.tells ∙ ap (λ i. last_event r.problem i r.position) z in absurd (cc)
        by (inr (inr h)) = inr (subst (λ u. IsHeldUp (record r { position = u })) same h)

-- as many steps as are asked for, or as many as can be counted
pub room_asked : (most steps room : ℕ) → steps ≤ most_steps → room ≡ min most (most_steps - steps) → (room ≡ most) ⊎ (steps + room ≡ most_steps)
room_asked most steps room l e = step (cases_lt most (most_steps - steps))
  where
    step : (most < most_steps - steps) ⊎ (most_steps - steps ≤ most) → (room ≡ most) ⊎ (steps + room ≡ most_steps)
    step (inl h) = inl (omega arith)
    step (inr h) = inr (omega arith)
