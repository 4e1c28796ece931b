-- Walks: how one goes on by a step, how two of them join, and what is counted on the way.
use Rattle.std.proofs.Common.{◌≡◌, ◌≢◌, ℕ, zero, suc, ◌+◌, ◌-◌, ◌<◌, ◌≤◌, ◌^◌, ◌⊎◌, ◌==◌, Bool, true, false, ◌&&◌, cond, inl, inr, List, [], ◌∷◌, ◌++◌, take, drop, length, append-nil, drop_of_length-le, replicate, slice_index, slice_set, refl, sym, ap, ◌∙◌, subst, arith, suc-add, if◌then◌else◌}
use Rattle.std.proofs.lemmas.Bool.{cases_lt, cases_order}
use Rattle.std.proofs.lemmas.Bool.Decides.{eqb_tells}
use Rattle.std.proofs.lemmas.List.{get_or-set_same, get_or-set_other, length-set, get_or-replicate, length-replicate, take_all}
use Rattle.std.proofs.lemmas.List.Sums.{count_by-le-length}
use Rattle.cover_problem.specs.Problem.{ProblemValue}
use Rattle.x_steps.specs.declared.state.Label.{Label}
use Rattle.x_steps.specs.declared.state.Label.TheVariants.{X2, X3, X5, X6, X8, Done}
use Rattle.x_steps.specs.declared.state.Cursor.{Cursor}
use Rattle.x_steps.specs.declared.state.Cursor.TheVariants as cursor
use Rattle.x_steps.specs.declared.state.Cursor.TheVariants.{At}
use Rattle.x_steps.specs.declared.event.Event.{Event}
use Rattle.x_steps.specs.declared.event.Event.TheVariants.{Moved}
use Rattle.x_steps.specs.StateValue.{StateValue, at}
use Rattle.x_steps.specs.Steps.{next, next_at, event_of, event_at, is_level, is_open}
use Rattle.x_steps.specs.Machine.{MachineValue}
use Rattle.x_steps.specs.Run.{after, states, level_count, ReachesIn}
use Rattle.x_steps.specs.Walk.{last_event, AreCounted, CountsHaveRoom, IsWalk, IsRound, IsAtCut}
use Rattle.x_steps.proofs.RunLemmas.{after_add, leads_none, leads_push, leads_join}
use Rattle.x_steps.proofs.BetweenLemmas.{states_join, length-states, level_count_push, level_count_join}

-- ---- counts

pub none_counted : (counts : List ℕ) → AreCounted counts counts []
none_counted counts = record { levels = refl; each = λ level h. omega arith }

counted_join : (a b c : List ℕ) (ss ts : List StateValue) → AreCounted a b ss → AreCounted b c ts → AreCounted a c (ss ++ ts)
counted_join a b c ss ts v w = record {
  levels = w.levels ∙ v.levels;
  each = λ level h.
      let l = v.levels in
      let x = v.each level h in
      let y = w.each level (omega arith) in
      let z = level_count_join ss ts level in omega arith;
}

-- a state of another step is not counted
counted_other : (a b : List ℕ) (ss : List StateValue) (t : StateValue) → AreCounted a b ss → is_level t.label ≡ false → AreCounted a b (ss ++ t ∷ [])
counted_other a b ss t v e = record {
  levels = v.levels;
  each = λ level h.
      let x = v.each level h in
      let z : level_count (ss ++ t ∷ []) level ≡ level_count ss level + 0 = level_count_push ss t level ∙ (rw e refl) in omega arith;
}

-- one more at a level
one_more : (counts : List ℕ) (k level : ℕ) → k < length counts → slice_index (slice_set counts k (slice_index counts k + 1)) level ≡ slice_index counts level + cond (k == level) 1 0
one_more counts k level h = step (eqb_tells k level)
  where
    step : ((k == level) ≡ true) × (k ≡ level) ⊎ ((k == level) ≡ false) × (k ≢ level) → slice_index (slice_set counts k (slice_index counts k + 1)) level ≡ slice_index counts level + cond (k == level) 1 0
    step (inl e) = rw e.0 (subst (λ l. slice_index (slice_set counts k (slice_index counts k + 1)) l ≡ slice_index counts l + 1) e.1 (get_or-set_same counts k (slice_index counts k + 1) 0 h))
    step (inr e) = rw e.0 (let o = get_or-set_other counts k level (slice_index counts k + 1) 0 (λ s. e.1 (sym s)) in omega arith)

counted_level : (a b : List ℕ) (ss : List StateValue) (t : StateValue) → AreCounted a b ss → t.label ≡ X2 → length t.path < length b → AreCounted a (slice_set b (length t.path) (slice_index b (length t.path) + 1)) (ss ++ t ∷ [])
counted_level a b ss t v e w = record {
  levels = length-set b (length t.path) (slice_index b (length t.path) + 1) ∙ v.levels;
  each = λ level h.
      let x = v.each level h in
      let y = one_more b (length t.path) level w in
      let z : level_count (ss ++ t ∷ []) level ≡ level_count ss level + cond (length t.path == level) 1 0 = level_count_push ss t level ∙ (rw e refl) in omega arith;
}

-- what fits stays, less one for each state
pub room_left : (p : ProblemValue) (s : StateValue) (a b : List ℕ) (most n : ℕ) → AreCounted a b (states p n s) → n ≤ most → CountsHaveRoom most a → CountsHaveRoom (most - n) b
room_left p s a b most n v l r = λ level h.
    let same = v.levels in
    let x = v.each level (omega arith) in
    let y = r level (omega arith) in
    let z = count_by-le-length (λ s. is_level s.label && (length s.path == level)) (states p n s) in
    let m = length-states p n s in omega arith

-- ---- walks

pub none_walked : (p : ProblemValue) (s : StateValue) (counts : List ℕ) → IsWalk p s s counts counts 0 Moved
none_walked p s counts = record { reaches = leads_none p s; moves = λ i h. absurd (omega arith); tells = refl; counted = none_counted counts }

module _ (p : ProblemValue) (s t : StateValue) (a b : List ℕ) (n : ℕ) (walk : IsWalk p s t a b n Moved) where
  -- no step of it was the last
  all_moved : (i : ℕ) → i < n → event_of p (after p i s) ≡ Moved
  all_moved i l = step (cases_lt (suc i) n)
    where
      step : (suc i < n) ⊎ (n ≤ suc i) → event_of p (after p i s) ≡ Moved
      step (inl m) = walk.moves i m
      step (inr m) = let e : suc i ≡ n = omega arith in sym (walk.tells ∙ ap (λ k. last_event p k s) (sym e))

  on : (counts : List ℕ) → (t.label ≡ Done → ⊥) → AreCounted a counts (states p n s ++ t ∷ []) → IsWalk p s (next p t) a counts (suc n) (event_of p t)
  on counts goes_on counted = record {
    reaches = leads_push p s t n walk.reaches goes_on;
    moves = λ i l. all_moved i (omega arith);
    tells = ap (event_of p) (sym walk.reaches.ends);
    counted = subst (λ u. AreCounted a counts (states p n s ++ u ∷ [])) (sym walk.reaches.ends) counted;
  }

  -- a step that is no X2
  pub walked_other : (t.label ≡ Done → ⊥) → is_level t.label ≡ false → IsWalk p s (next p t) a b (suc n) (event_of p t)
  walked_other goes_on e = on b goes_on (counted_other a b (states p n s) t walk.counted e)

  -- X2, counted at its level
  pub walked_level : t.label ≡ X2 → length t.path < length b → IsWalk p s (next p t) a (slice_set b (length t.path) (slice_index b (length t.path) + 1)) (suc n) (event_of p t)
  walked_level e l = on (slice_set b (length t.path) (slice_index b (length t.path) + 1)) (λ d. let h : X2 ≡ Done = sym e ∙ d in absurd (cc)) (counted_level a b (states p n s) t walk.counted e l)

  -- another walk
  pub walked_join : (u : StateValue) (c : List ℕ) (m : ℕ) (event : Event) → IsWalk p t u b c m event → IsWalk p s u a c (n + m) event
  walked_join u c m event more = subst (λ k. IsWalk p s u a c k event) (let e : m + n ≡ n + m = omega arith in e) (record {
    reaches = leads_join p s t u n m walk.reaches more.reaches;
    moves = λ i l. step i l (cases_lt i n);
    tells = more.tells ∙ last m;
    counted = subst (AreCounted a c) (sym (states_join p n m s ∙ ap (λ v. states p n s ++ states p m v) walk.reaches.ends)) (counted_join a b c (states p n s) (states p m t) walk.counted more.counted);
  })
    where
      step : (i : ℕ) → suc i < m + n → (i < n) ⊎ (n ≤ i) → event_of p (after p i s) ≡ Moved
      step i l (inl h) = all_moved i h
      step i l (inr h) =
          let d : (i - n) + n ≡ i = omega arith in
          let e : after p (i - n) t ≡ after p i s = ap (after p (i - n)) (sym walk.reaches.ends) ∙ after_add p (i - n) n s ∙ ap (λ k. after p k s) d in
          ap (event_of p) (sym e) ∙ more.moves (i - n) (omega arith)

      last : (m : ℕ) → last_event p m t ≡ last_event p (m + n) s
      last zero = walk.tells ∙ ap (λ k. last_event p k s) (let e : n ≡ 0 + n = omega arith in e)
      last (suc m) = ap (event_of p) (ap (after p m) (sym walk.reaches.ends) ∙ after_add p m n s) ∙ ap (λ k. last_event p k s) (sym (suc-add m n))

-- ---- a loop of walks

-- the machine m walked n steps from s, within what is allowed, and came by no state at which to stop
pub record Walks (p : ProblemValue) (most : ℕ) (cut : List ℕ) (m : MachineValue) (s : StateValue) (a b : List ℕ) (n : ℕ) (event : Event) : Type 0 where
  pub same : m.problem ≡ p
  pub walk : IsWalk p s m.state a b n event
  pub within : n ≤ most
  pub before : (i : ℕ) → i < n → IsAtCut (after p i s) cut → ⊥

-- a step that only moves on doesn't end the run
moves_on : (p : ProblemValue) (l : Label) (path : List ℕ) (k : Cursor) → (l ≡ Done → ⊥) → event_at p l path ≡ Moved → (next_at p l path k).label ≡ Done → ⊥
moves_on p X2 path k still e d = by_test (is_open p path) d
  where
    by_test : (b : Bool) → (if b then at X3 path cursor.None else at X8 path cursor.None).label ≡ Done → ⊥
    by_test true d = absurd (cc)
    by_test false d = absurd (cc)
moves_on p Done path k still e d = still refl
moves_on p X5 path (At o) still e d = absurd (cc)
moves_on p X6 path (At o) still e d = absurd (cc)
moves_on p X8 [] k still e d = absurd (cc)
moves_on p X8 (x ∷ xs) k still e d = absurd (cc)
moves_on p _ path _ still e d = absurd (cc)

module _ (p : ProblemValue) (most : ℕ) (cut : List ℕ) (m : MachineValue) (s : StateValue) (a b : List ℕ) (n : ℕ) (event : Event) (w : Walks p most cut m s a b n event) where
  pub walks_open : (s.label ≡ Done → ⊥) → event ≡ Moved → m.state.label ≡ Done → ⊥
  unfolding next event_of
  walks_open first e d = by_count n w.walk.reaches (sym w.walk.tells ∙ e)
    where
      by_count : (n : ℕ) → ReachesIn p s m.state n → last_event p n s ≡ Moved → ⊥
      by_count zero r t = first (ap (λ u. u.label) r.ends ∙ d)
      by_count (suc n) r t = let u = after p n s in moves_on p u.label u.path u.cursor (r.goes_on n (omega arith)) t (ap (λ v. v.label) r.ends ∙ d)

  pub walks_room : CountsHaveRoom most a → CountsHaveRoom (most - n) b
  walks_room r = room_left p s a b most n w.walk.counted w.within r

  -- one round more
  pub walks_on : (q : ProblemValue) (new : MachineValue) (c : List ℕ) (k : ℕ) (told : Event) → q ≡ m.problem → new.problem ≡ q → event ≡ Moved → (IsAtCut m.state cut → ⊥)
      → IsRound q (most - n) m.state new.state b c k told → Walks p most cut new s a c (n + k) told
  walks_on q new c k told e same moved free round = record {
    same = same ∙ old;
    walk = walked_join p s m.state a b n (subst (IsWalk p s m.state a b n) moved w.walk) new.state c k told here.walk;
    within = let l = here.within in let h = w.within in omega arith;
    before = λ i l. step i l (cases_order i n);
  }
    where
      old : q ≡ p
      old = e ∙ w.same

      here : IsRound p (most - n) m.state new.state b c k told
      here = subst (λ r. IsRound r (most - n) m.state new.state b c k told) old round

      step : (i : ℕ) → i < n + k → (i ≡ n) ⊎ ((i < n) ⊎ (n < i)) → IsAtCut (after p i s) cut → ⊥
      step i l (inl h) at_cut = free (subst (λ u. IsAtCut u cut) (ap (λ j. after p j s) h ∙ w.walk.reaches.ends) at_cut)
      step i l (inr (inl h)) at_cut = w.before i h at_cut
      step i l (inr (inr h)) at_cut =
          let d : (i - n) + n ≡ i = omega arith in
          let later : after p (i - n) m.state ≡ after p i s = ap (after p (i - n)) (sym w.walk.reaches.ends) ∙ after_add p (i - n) n s ∙ ap (λ j. after p j s) d in
          here.passes (i - n) (omega arith) (omega arith) (ap (λ u. u.label) later ∙ at_cut.label)

-- a row of zeros has room
pub zeros_room : (n most : ℕ) → most < 2 ^ 32 → CountsHaveRoom most (replicate n 0)
zeros_room n most l = λ level h.
    let size : length (replicate n 0) ≡ n = length-replicate n 0 in
    let zero : slice_index (replicate n 0) level ≡ 0 = get_or-replicate n level 0 0 (subst (λ k. level < k) size h) in omega arith

-- a list that was lent whole has what it was given
pub lent_whole : (len : ℕ) (new old : List ℕ) → length new ≡ length old → len ≡ length old → take len (new ++ drop (length new) old) ≡ new
lent_whole len new old e l =
    let none : drop (length new) old ≡ [] = drop_of_length-le old (omega arith) in
    let whole : new ++ drop (length new) old ≡ new = ap (λ r. new ++ r) none ∙ append-nil new in
    ap (take len) whole ∙ take_all len new (omega arith)
