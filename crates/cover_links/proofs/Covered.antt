-- Which nodes are shown, and which items are in the row, once the items of a list are covered.
use Rattle.std.proofs.Common.{◌≡◌, ℕ, suc, ◌<◌, ◌≤◌, ◌⊎◌, inl, inr, ◌==◌, nat_lt, nat_le, Bool, true, false, not, ◌&&◌, List, [], ◌∷◌, ◌++◌, length, refl, sym, ap, ◌∙◌, subst, arith}
use Rattle.std.specs.List.{list_any, before_first}
use Rattle.std.specs.Cmp.{both_ways as same_test}
use Rattle.std.proofs.lemmas.Bool.{and_parts, and_from, cases_eq, cases_Bool, not-true, not_from_false, both_ways, false≢true, eq-eqb, ltb-true, leb-true, lt-ltb, le-leb, ne_eqb}
use Rattle.shared_words.specs.Lists.{has, are_distinct, RisesFrom}
use Rattle.cover_problem.specs.Problem.{ProblemValue, option_at}
use Rattle.cover_problem.specs.Covering.{is_remaining}
use Rattle.cover_problem.proofs.MemberLemmas.{has_cases, has_here, has_append_cases, has_append_left, has_append_right, has_append_not, has_append_not_from, has_not_from, none_member, none_from}
use Rattle.cover_problem.proofs.PartLemmas.{before_at, before_past, before_none, before_here}
use Rattle.cover_problem.proofs.NumberLemmas.{rises_member}
use Rattle.cover_links.specs.Ring.{but_for}
use Rattle.cover_links.proofs.LayoutLemmas.{IsNode}

-- the node of the item j in the option k is in its list, once the items of c are covered
unfoldable pub shown_of : ProblemValue → List ℕ → ℕ → ℕ → Bool
shown_of p c j k = (nat_lt 0 k && nat_le k (length p.options)) && is_remaining (before_first (λ x. x == j) c) j (option_at p k)

-- the item i is in the row, once the items of c are covered
unfoldable pub active_of : ProblemValue → List ℕ → ℕ → Bool
active_of p c i = (nat_lt 0 i && nat_le i p.primary) && not (has c i)

-- the same in words
pub record IsShown (p : ProblemValue) (c : List ℕ) (j k : ℕ) : Type 0 where
  pub node : IsNode p j k
  pub free : (y : ℕ) → has (before_first (λ x. x == j) c) y ≡ true → has (option_at p k) y ≡ true → ⊥

pub shown_is : (p : ProblemValue) (c : List ℕ) (j k : ℕ) → shown_of p c j k ≡ true → IsShown p c j k
unfolding shown_of
shown_is p c j k h =
    let a = and_parts (nat_lt 0 k && nat_le k (length p.options)) (is_remaining (before_first (λ x. x == j) c) j (option_at p k)) h in
    let b = and_parts (nat_lt 0 k) (nat_le k (length p.options)) a.0 in
    let d = and_parts (has (option_at p k) j) (not (list_any (has (before_first (λ x. x == j) c)) (option_at p k))) a.1 in
    record {
      node = record { some = ltb-true 0 k b.0; within = leb-true k (length p.options) b.1; has_item = d.0 };
      free = λ y g o. both_ways (has (before_first (λ x. x == j) c) y) (none_member (has (before_first (λ x. x == j) c)) (option_at p k) y (not-true _ d.1) o) g;
    }

pub false_from : (b : Bool) → (b ≡ true → ⊥) → b ≡ false
false_from true h = absurd (h refl)
false_from false h = refl

pub shown_from : (p : ProblemValue) (c : List ℕ) (j k : ℕ) → IsShown p c j k → shown_of p c j k ≡ true
unfolding shown_of
shown_from p c j k s =
    and_from (nat_lt 0 k && nat_le k (length p.options)) (is_remaining (before_first (λ x. x == j) c) j (option_at p k))
    (and_from (nat_lt 0 k) (nat_le k (length p.options)) (lt-ltb 0 k (s.node).some) (le-leb k (length p.options) (s.node).within))
    (and_from (has (option_at p k) j) (not (list_any (has (before_first (λ x. x == j) c)) (option_at p k))) (s.node).has_item
    (not_from_false (list_any (has (before_first (λ x. x == j) c)) (option_at p k)) (none_from (has (before_first (λ x. x == j) c)) (option_at p k) (λ y o. false_from (has (before_first (λ x. x == j) c) y) (λ g. s.free y g o)))))

pub active_is : (p : ProblemValue) (c : List ℕ) (i : ℕ) → active_of p c i ≡ true → (0 < i) × (i ≤ p.primary) × (has c i ≡ false)
unfolding active_of
active_is p c i h =
    let a = and_parts (nat_lt 0 i && nat_le i p.primary) (not (has c i)) h in let b = and_parts (nat_lt 0 i) (nat_le i p.primary) a.0 in
    (ltb-true 0 i b.0, leb-true i p.primary b.1, not-true (has c i) a.1)

pub active_when : (p : ProblemValue) (c : List ℕ) (i : ℕ) → 0 < i → i ≤ p.primary → has c i ≡ false → active_of p c i ≡ true
unfolding active_of
active_when p c i a b h = and_from (nat_lt 0 i && nat_le i p.primary) (not (has c i)) (and_from (nat_lt 0 i) (nat_le i p.primary) (lt-ltb 0 i a) (le-leb i p.primary b)) (not_from_false (has c i) h)

pub rises_distinct : (n : ℕ) (xs : List ℕ) → RisesFrom n xs → are_distinct xs ≡ true
rises_distinct n [] r = refl
rises_distinct n (x ∷ xs) r =
    and_from (not (has xs x)) (are_distinct xs) (not_from_false (has xs x) (false_from (has xs x) (λ h. let m = rises_member (suc x) x xs r.1 h in absurd (omega arith)))) (rises_distinct (suc x) xs r.1)

-- ---- one more item

before_more : (j : ℕ) (xs ys : List ℕ) → has xs j ≡ true → before_first (λ x. x == j) (xs ++ ys) ≡ before_first (λ x. x == j) xs
before_more j [] ys h = absurd (false≢true h)
before_more j (x ∷ xs) ys h = step (before_more j xs ys) (cases_eq x j) (has_cases x xs j h)
  where
    step : (has xs j ≡ true → before_first (λ x. x == j) (xs ++ ys) ≡ before_first (λ x. x == j) xs) → (x ≡ j) ⊎ (x ≡ j → ⊥) → (x ≡ j) ⊎ (has xs j ≡ true) → before_first (λ x. x == j) (x ∷ xs ++ ys) ≡ before_first (λ x. x == j) (x ∷ xs)
    step ih (inl e) d = (λ i. before_first (λ y. y == j) (e i ∷ xs ++ ys)) ∙ before_at j (xs ++ ys) ∙ sym ((λ i. before_first (λ y. y == j) (e i ∷ xs)) ∙ before_at j xs)
    step ih (inr ne) (inl e) = absurd (ne e)
    step ih (inr ne) (inr g) = before_past j x (xs ++ ys) ne ∙ ap (λ l. x ∷ l) (ih g) ∙ sym (before_past j x xs ne)

module _ (p : ProblemValue) (c : List ℕ) (i : ℕ) (fresh : has c i ≡ false) where
  -- the list of the item that is covered stays
  pub same_column : shown_of p (c ++ i ∷ []) i ≡ shown_of p c i
  unfolding shown_of
  same_column = λ z k. (nat_lt 0 k && nat_le k (length p.options)) && is_remaining ((before_here c i [] fresh ∙ sym (before_none i c fresh)) z) i (option_at p k)

  -- an option that is left for i has no item of c
  pub shown_free : (k y : ℕ) → shown_of p c i k ≡ true → has c y ≡ true → has (option_at p k) y ≡ true → ⊥
  shown_free k y h g o = (shown_is p c i k h).free y (subst (λ l. has l y ≡ true) (sym (before_none i c fresh)) g) o

  -- in an option that is left for i each item is shown
  pub all_shown : (k j : ℕ) → shown_of p c i k ≡ true → has (option_at p k) j ≡ true → shown_of p c j k ≡ true
  all_shown k j h o =
      let s = shown_is p c i k h in
      let none : has c j ≡ false = false_from (has c j) (λ g. shown_free k j h g o) in
      shown_from p c j k (record { node = record { some = (s.node).some; within = (s.node).within; has_item = o }; free = λ y g f. shown_free k y h (subst (λ l. has l y ≡ true) (before_none j c none) g) f })

  -- what is shown then: what was, but for the other nodes of the options that were left for i
  pub still_shown : (j k : ℕ) → (j ≡ i → ⊥) → shown_of p c j k ≡ true → (shown_of p c i k ≡ true → ⊥) → shown_of p (c ++ i ∷ []) j k ≡ true
  still_shown j k ne h out =
      let s = shown_is p c j k h in
      shown_from p (c ++ i ∷ []) j k (record { node = s.node; free = λ y g o. step s y g o (cases_Bool (has c j)) })
    where
      step : IsShown p c j k → (y : ℕ) → has (before_first (λ x. x == j) (c ++ i ∷ [])) y ≡ true → has (option_at p k) y ≡ true → (has c j ≡ true) ⊎ (has c j ≡ false) → ⊥
      step s y g o (inl m) = s.free y (subst (λ l. has l y ≡ true) (before_more j c (i ∷ []) m) g) o
      step s y g o (inr m) =
          let whole : before_first (λ x. x == j) (c ++ i ∷ []) ≡ c ++ i ∷ [] = before_none j (c ++ i ∷ []) (has_append_not_from c (i ∷ []) j m (has_not_from i [] j (λ e. ne (sym e)) refl)) in
          pick (has_append_cases c (i ∷ []) y (subst (λ l. has l y ≡ true) whole g))
        where
          last : (i ≡ y) ⊎ (has [] y ≡ true) → ⊥
          last (inl e) = out (shown_from p c i k (record {
            node = record { some = (s.node).some; within = (s.node).within; has_item = subst (λ n. has (option_at p k) n ≡ true) (sym e) o };
            free = λ z f q. s.free z (subst (λ l. has l z ≡ true) (before_none i c fresh ∙ sym (before_none j c m)) f) q;
          }))
          last (inr e) = false≢true e

          pick : (has c y ≡ true) ⊎ (has (i ∷ []) y ≡ true) → ⊥
          pick (inl f) = s.free y (subst (λ l. has l y ≡ true) (sym (before_none j c m)) f) o
          pick (inr f) = last (has_cases i [] y f)

  pub was_shown : (j k : ℕ) → (j ≡ i → ⊥) → shown_of p (c ++ i ∷ []) j k ≡ true → (shown_of p c j k ≡ true) × (shown_of p c i k ≡ true → ⊥)
  was_shown j k ne h = step (shown_is p (c ++ i ∷ []) j k h) (cases_Bool (has c j))
    where
      step : IsShown p (c ++ i ∷ []) j k → (has c j ≡ true) ⊎ (has c j ≡ false) → (shown_of p c j k ≡ true) × (shown_of p c i k ≡ true → ⊥)
      step s (inl m) =
          (shown_from p c j k (record { node = s.node; free = λ y g o. s.free y (subst (λ l. has l y ≡ true) (sym (before_more j c (i ∷ []) m)) g) o }), λ g. shown_free k j g m (s.node).has_item)
      step s (inr m) =
          let whole : before_first (λ x. x == j) (c ++ i ∷ []) ≡ c ++ i ∷ [] = before_none j (c ++ i ∷ []) (has_append_not_from c (i ∷ []) j m (has_not_from i [] j (λ e. ne (sym e)) refl)) in (
            shown_from p c j k (record { node = s.node; free = λ y g o. s.free y (subst (λ l. has l y ≡ true) (sym whole) (has_append_left c (i ∷ []) y (subst (λ l. has l y ≡ true) (before_none j c m) g))) o }),
            λ g. s.free i (subst (λ l. has l i ≡ true) (sym whole) (has_append_right c (i ∷ []) i (has_here i []))) ((shown_is p c i k g).node).has_item,
          )

  -- an item that is no primary one isn't in the row, and so is not missed there
  pub active_aside : p.primary < i → active_of p (c ++ i ∷ []) ≡ active_of p c
  active_aside l = λ z x. (same_test (active_of p (c ++ i ∷ []) x) (active_of p c x) (to x) (from x)) z
    where
      to : (x : ℕ) → active_of p (c ++ i ∷ []) x ≡ true → active_of p c x ≡ true
      to x h = let a = active_is p (c ++ i ∷ []) x h in active_when p c x a.0 a.1 (has_append_not c (i ∷ []) x a.2).0

      from : (x : ℕ) → active_of p c x ≡ true → active_of p (c ++ i ∷ []) x ≡ true
      from x h = let a = active_is p c x h in active_when p (c ++ i ∷ []) x a.0 a.1 (has_append_not_from c (i ∷ []) x a.2 (has_not_from i [] x (λ e. absurd (omega arith)) refl))

  pub active_without : active_of p (c ++ i ∷ []) ≡ but_for (active_of p c) i
  active_without = λ z x. (same_test (active_of p (c ++ i ∷ []) x) (but_for (active_of p c) i x) (to x) (from x)) z
    where
      to : (x : ℕ) → active_of p (c ++ i ∷ []) x ≡ true → but_for (active_of p c) i x ≡ true
      to x h =
          let a = active_is p (c ++ i ∷ []) x h in let n = has_append_not c (i ∷ []) x a.2 in
          and_from (active_of p c x) (not (x == i)) (active_when p c x a.0 a.1 n.0) (not_from_false (x == i) (ne_eqb x i (λ e. both_ways (has (i ∷ []) x) n.1 (subst (λ w. has (w ∷ []) x ≡ true) e (has_here x [])))))

      from : (x : ℕ) → but_for (active_of p c) i x ≡ true → active_of p (c ++ i ∷ []) x ≡ true
      from x h =
          let w = and_parts (active_of p c x) (not (x == i)) h in let a = active_is p c x w.0 in
          active_when p (c ++ i ∷ []) x a.0 a.1 (has_append_not_from c (i ∷ []) x a.2 (has_not_from i [] x (λ e. both_ways (x == i) (not-true (x == i) w.1) (eq-eqb x i (sym e))) refl))
