-- A walk along a rising list from one of its members on.
use Rattle.std.proofs.Common.{◌≡◌, ℕ, suc, ◌<◌, ◌≤◌, ◌⊎◌, true, Option, Some, None, List, [], ◌∷◌, ◌++◌, filter, refl, sym, ◌∙◌, inl, inr, arith}
use Rattle.std.specs.Prelude.{nat_lt}
use Rattle.std.proofs.lemmas.Bool.{lt-ltb, le-ltb, ltb-true, cases_lt}
use Rattle.shared_words.specs.Lists.{has, above, RisesFrom}
use Rattle.cover_problem.proofs.MemberLemmas.{has_filter_in}
use Rattle.cover_problem.proofs.NumberLemmas.{rises_weaker}
use Rattle.x_steps.proofs.ListingLemmas.{Lists, lists_none, lists_member, lists_more, lists_all}

-- above a number the members above a smaller one are those of the list
above_left : (c o : ℕ) (xs : List ℕ) → c ≤ o → above o (filter (λ k. nat_lt c k) xs) ≡ above o xs
above_left c o [] l = refl
above_left c o (x ∷ xs) l = step (cases_lt c x) (cases_lt o x) (above_left c o xs l)
  where
    step : (c < x) ⊎ (x ≤ c) → (o < x) ⊎ (x ≤ o) → above o (filter (λ k. nat_lt c k) xs) ≡ above o xs → above o (filter (λ k. nat_lt c k) (x ∷ xs)) ≡ above o (x ∷ xs)
    step (inl a) (inl b) ih = rw (lt-ltb c x a, lt-ltb o x b) refl
    step (inl a) (inr b) ih = rw (lt-ltb c x a, le-ltb o x b) ih
    step (inr a) (inl b) ih = absurd (omega arith)
    step (inr a) (inr b) ih = rw (le-ltb c x a, le-ltb o x b) ih

-- the first of them
first_left : (c : ℕ) (xs : List ℕ) → above c xs ≡ above 0 (filter (λ k. nat_lt c k) xs)
first_left c [] = refl
first_left c (x ∷ xs) = step (cases_lt c x) (first_left c xs)
  where
    step : (c < x) ⊎ (x ≤ c) → above c xs ≡ above 0 (filter (λ k. nat_lt c k) xs) → above c (x ∷ xs) ≡ above 0 (filter (λ k. nat_lt c k) (x ∷ xs))
    step (inl a) ih = rw (lt-ltb c x a, lt-ltb 0 x (omega arith)) refl
    step (inr a) ih = rw (le-ltb c x a) ih

left_rises : (c n : ℕ) (xs : List ℕ) → RisesFrom n xs → RisesFrom n (filter (λ k. nat_lt c k) xs)
left_rises c n [] r = tt
left_rises c n (x ∷ xs) r = step (cases_lt c x) (left_rises c (suc x) xs r.1)
  where
    step : (c < x) ⊎ (x ≤ c) → RisesFrom (suc x) (filter (λ k. nat_lt c k) xs) → RisesFrom n (filter (λ k. nat_lt c k) (x ∷ xs))
    step (inl a) ih = rw (lt-ltb c x a) (r.0, ih)
    step (inr a) ih = rw (le-ltb c x a) (rises_weaker n (suc x) (filter (λ k. nat_lt c k) xs) (omega (arith, r.0)) ih)

module _ (o : ℕ) (list : List ℕ) (rises : RisesFrom 1 list) where
  all_rise : RisesFrom 1 (filter (λ k. nat_lt o k) list)
  all_rise = left_rises o 1 list rises

  pub above_begin : (next : Option ℕ) → next ≡ above o list → Lists (filter (λ k. nat_lt o k) list) [] next
  above_begin next e = lists_none (filter (λ k. nat_lt o k) list) all_rise next (e ∙ first_left o list)

  module _ (done : List ℕ) (next : Option ℕ) (l : Lists (filter (λ k. nat_lt o k) list) done next) where
    member : (k : ℕ) → next ≡ Some k → (nat_lt o k ≡ true) × (has list k ≡ true)
    member k e = has_filter_in (λ k. nat_lt o k) list k (lists_member (filter (λ k. nat_lt o k) list) all_rise done next l k e)

    pub above_member : (k : ℕ) → next ≡ Some k → has list k ≡ true
    above_member k e = (member k e).1

    pub above_more : (k : ℕ) (after : Option ℕ) → next ≡ Some k → after ≡ above k list → Lists (filter (λ k. nat_lt o k) list) (done ++ k ∷ []) after
    above_more k after e a =
        let m = ltb-true o k (member k e).0 in
        lists_more (filter (λ k. nat_lt o k) list) all_rise done next l k after e (a ∙ sym (above_left o k list (omega arith)))

    pub above_end : next ≡ None → done ≡ filter (λ k. nat_lt o k) list
    above_end e = lists_all (filter (λ k. nat_lt o k) list) all_rise done next l e
