-- The walk that chooses an item keeps the first of the shortest so far.
use Rattle.std.proofs.Common.{◌≡◌, ℕ, ◌<◌, ◌≤◌, List, [], ◌∷◌, length, true, suc, is_some, nat_lt, lt-ltb, ◌⊎◌, inl, inr, Option, Some, None, IsSome, arith, refl, sym, ap, ◌∙◌, ◌-◌, subst}
use Rattle.std.proofs.lemmas.Bool.{cases_lt}
use Rattle.shared_words.specs.Lists.{has, above, RisesFrom}
use Rattle.cover_problem.specs.Problem.{ProblemValue}
use Rattle.cover_problem.specs.Covering.{active, remaining, choice, list_of}
use Rattle.cover_problem.proofs.RisingLemmas.{above_is, above_none}
use Rattle.cover_problem.proofs.ActiveLemmas.{active_rises, active_in}
use Rattle.cover_problem.proofs.RemainingLemmas.{choice_unique, choice_active, list_uncovered}

some_of : {X : Type 0} (o : Option X) → (o ≡ None → ⊥) → IsSome o
some_of None h = absurd (h refl)
some_of (Some x) h = refl

-- of the active items up to `item` the first shortest is `best`, and it has `least` options left
pub record Walks (p : ProblemValue) (c : List ℕ) (item best least : ℕ) : Type 0 where
  pub here : has (active p c) item ≡ true
  pub among : has (active p c) best ≡ true
  pub within : best ≤ item
  pub len : least ≡ length (remaining p c best)
  pub shortest : (i : ℕ) → has (active p c) i ≡ true → i ≤ item → least ≤ length (remaining p c i)
  pub first : (i : ℕ) → has (active p c) i ≡ true → i < best → least < length (remaining p c i)

module _ (p : ProblemValue) (c : List ℕ) where
  pub walks_begin : (first : ℕ) → above 0 (active p c) ≡ Some first → Walks p c first first (length (remaining p c first))
  walks_begin first e =
      let a = above_is 0 1 (active p c) first (active_rises p c) e in
      record {
        here = a.member;
        among = a.member;
        within = omega arith;
        len = refl;
        shortest = λ i h k. let m : first ≤ i = a.least i h (rises_above i h) in let same : i ≡ first = omega arith in subst (λ j. length (remaining p c first) ≤ length (remaining p c j)) (sym same) (omega arith);
        first = λ i h k. let m : first ≤ i = a.least i h (rises_above i h) in absurd (omega arith);
      } where
        rises_above : (i : ℕ) → has (active p c) i ≡ true → 0 < i
        rises_above i h = (active_in p c i h).1

  -- the walk's next item
  module _ (item next best least : ℕ) (w : Walks p c item best least) (e : above item (active p c) ≡ Some next) where
    past : (i : ℕ) → has (active p c) i ≡ true → i ≤ next → (i ≤ item) ⊎ (i ≡ next)
    past i h k =
        let a = above_is item 1 (active p c) next (active_rises p c) e in
        elim (cases_lt item i) [ inr small ↦ inl small | inl big ↦ let m : next ≤ i = a.least i h big in inr (omega arith) ]

    -- it has fewer options left than all before
    pub walks_take : length (remaining p c next) < least → Walks p c next next (length (remaining p c next))
    walks_take less =
        let a = above_is item 1 (active p c) next (active_rises p c) e in
        record {
          here = a.member;
          among = a.member;
          within = omega arith;
          len = refl;
          shortest = λ i h k. elim (past i h k) [
            | inl old ↦ let m = w.shortest i h old in omega arith
            | inr same ↦ subst (λ j. length (remaining p c next) ≤ length (remaining p c j)) (sym same) (omega arith)
          ];
          first = λ i h k. elim (past i h (omega arith)) [
            | inl old ↦ let m = w.shortest i h old in omega arith
            | inr same ↦ absurd (omega arith)
          ];
        }

    -- it has not
    pub walks_keep : least ≤ length (remaining p c next) → Walks p c next best least
    walks_keep more =
        let a = above_is item 1 (active p c) next (active_rises p c) e in
        record {
          here = a.member;
          among = w.among;
          within = let b = w.within in let m = a.more in omega arith;
          len = w.len;
          shortest = λ i h k. elim (past i h k) [
            | inl old ↦ w.shortest i h old
            | inr same ↦ subst (λ j. least ≤ length (remaining p c j)) (sym same) more
          ];
          first = w.first;
        }

  -- after the last active item the best is the choice
  pub walks_end : (item best least : ℕ) → Walks p c item best least → above item (active p c) ≡ None → choice p c ≡ best
  walks_end item best least w e =
      sym (choice_unique p c best w.among (λ i h. let m = w.shortest i h (above_none item (active p c) e i h) in rw (← w.len) m) (λ i h k. let m = w.first i h k in rw (← w.len) m))

  -- where the best has no option left, no later one has fewer
  pub zero_ends : (item best least : ℕ) → Walks p c item best least → least ≡ 0 → choice p c ≡ best
  zero_ends item best least w z =
      sym (choice_unique p c best w.among (λ i h. let l = w.len in omega arith) (λ i h k. let m = w.first i h k in rw (← w.len) m))

  -- some item is active, so there is a first one
  pub some_active : 0 < length (active p c) → IsSome (above 0 (active p c))
  some_active h = some_of (above 0 (active p c)) (λ e. let k = choice_active p c h in let m = above_none 0 (active p c) e (choice p c) k in let i = (active_in p c (choice p c) k).1 in omega arith)

  -- an active item's list has the options left for it
  len_is : (item len : ℕ) → has (active p c) item ≡ true → len ≡ length (list_of p c item) → length (remaining p c item) ≡ len
  len_is item len h e = sym (e ∙ ap (length {A = ℕ}) (list_uncovered p c item (active_in p c item h).0))

  module _ (o : Option ℕ) (first : ℕ) (found : o ≡ above 0 (active p c)) (some : o ≡ Some first) where
    pub first_is : (has (active p c) first ≡ true) × (0 < first) × (first ≤ p.primary)
    first_is =
        let a = above_is 0 1 (active p c) first (active_rises p c) (sym found ∙ some) in
        let i = active_in p c first a.member in (a.member, i.1, i.2)

    pub begins : (len : ℕ) → len ≡ length (list_of p c first) → Walks p c first first len
    begins len e = subst (Walks p c first first) (len_is first len first_is.0 e) (walks_begin first (sym found ∙ some))

  module _ (o : Option ℕ) (item next best least : ℕ) (w : Walks p c item best least) (found : o ≡ above item (active p c)) (some : o ≡ Some next) where
    pub next_is : (has (active p c) next ≡ true) × (0 < next) × (next ≤ p.primary) × (item < next)
    next_is =
        let a = above_is item 1 (active p c) next (active_rises p c) (sym found ∙ some) in
        let i = active_in p c next a.member in (a.member, i.1, i.2, a.more)

    pub takes : (len : ℕ) → len ≡ length (list_of p c next) → len < least → Walks p c next next len
    takes len e h =
        let same = len_is next len next_is.0 e in
        subst (Walks p c next next) same (walks_take item next best least w (sym found ∙ some) (rw same h))

    pub keeps : (len : ℕ) → len ≡ length (list_of p c next) → least ≤ len → Walks p c next best least
    keeps len e h =
        let same = len_is next len next_is.0 e in walks_keep item next best least w (sym found ∙ some) (rw same h)

    pub falls : p.primary - next < p.primary - item
    falls = let n = next_is in omega (arith, n.2, n.3)

some_above : (xs : List ℕ) → RisesFrom 1 xs → is_some (above 0 xs) ≡ nat_lt 0 (length xs)
some_above [] r = refl
some_above (x ∷ xs) r = rw (lt-ltb 0 x r.0) (sym (lt-ltb 0 (suc (length xs)) (omega arith)))

-- whether an item is active
pub active_some : (p : ProblemValue) (c : List ℕ) → is_some (above 0 (active p c)) ≡ nat_lt 0 (length (active p c))
active_some p c = some_above (active p c) (active_rises p c)
