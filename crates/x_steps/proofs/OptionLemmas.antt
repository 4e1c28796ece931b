-- The item that was chosen, found among the items of an option that is left for it.
use Rattle.std.proofs.Common.{◌≡◌, ℕ, ◌+◌, ◌<◌, ◌≤◌, ◌⊎◌, inl, inr, List, [], ◌∷◌, ◌++◌, length, get_or, take, ◌-◌, Bool, ◌||◌, true, false, refl, sym, ap, ◌∙◌, subst, arith, add-one}
use Rattle.std.proofs.Math.Seq.{take-suc}
use Rattle.std.proofs.lemmas.Bool.{cases_lt, cases_eq, false≢true, ne_eqb}
use Rattle.std.proofs.lemmas.List.Sums.{length-filter, count_by-le-length}
use Rattle.shared_words.specs.Lists.{has, numbers}
use Rattle.cover_problem.specs.Problem.{ProblemValue}
use Rattle.cover_problem.specs.Covering.{active, is_remaining, remaining, list_of, choice}
use Rattle.cover_problem.proofs.ActiveLemmas.{active_in, active_from}
use Rattle.cover_problem.proofs.MemberLemmas.{has_append_cases, has_append_left, has_push_same}
use Rattle.cover_problem.proofs.NumberLemmas.{length-numbers}
use Rattle.cover_problem.proofs.RemainingLemmas.{choice_active, choice_least, choice_before, list_uncovered}

or_none : {a : Bool} → a ≡ false → (a || false) ≡ false
or_none e = rw e refl

-- no item has more options left than there are
remaining_few : (p : ProblemValue) (c : List ℕ) (j : ℕ) → length (remaining p c j) ≤ length p.options
unfolding remaining
remaining_few p c j = let f = length-filter (λ k. is_remaining c j (get_or p.options (k - 1) [])) (numbers (length p.options) 1) in let m = count_by-le-length (λ k. is_remaining c j (get_or p.options (k - 1) [])) (numbers (length p.options) 1) in let n = length-numbers (length p.options) 1 in omega arith

-- of these items, those that may be chosen, `best` is the first with the fewest options left, `least`; or none was looked at
pub record IsBest (p : ProblemValue) (c items : List ℕ) (best least : ℕ) : Type 0 where
  pub shortest : (i : ℕ) → has items i ≡ true → i ≤ p.primary → least ≤ length (list_of p c i)
  pub first : (i : ℕ) → has items i ≡ true → i ≤ p.primary → length (list_of p c i) ≡ least → best ≤ i
  pub found : ((best ≤ p.primary) × (has items best ≡ true) × (least ≡ length (list_of p c best))) ⊎ (least ≡ 4294967295)

pub best_begins : (p : ProblemValue) (c : List ℕ) → IsBest p c [] 0 4294967295
best_begins p c = record {
  shortest = λ i h l. absurd (false≢true h);
  first = λ i h l e. absurd (false≢true h);
  found = inr refl;
}

module _ (p : ProblemValue) (c items : List ℕ) (k : ℕ) (within : k < length items) where
  abbrev pub x : ℕ
  x = get_or items k 0

  grown : take (k + 1) items ≡ take k items ++ x ∷ []
  grown = rw (add-one, take-suc items k 0 within) refl

  of_grown : (i : ℕ) → has (take (k + 1) items) i ≡ true → (has (take k items) i ≡ true) ⊎ (i ≡ x)
  of_grown i h = elim (has_append_cases (take k items) (x ∷ []) i (rw grown at h)) [
    | inl a ↦ inl a
    | inr b ↦ elim (cases_eq x i) [ inl e ↦ inr (sym e) | inr d ↦ absurd (false≢true (sym (or_none (ne_eqb x i d)) ∙ b)) ]
  ]

  module _ (best least len : ℕ) (b : IsBest p c (take k items) best least) (len_is : len ≡ length (list_of p c x)) where
    -- the item comes before the best so far
    pub best_taken : x ≤ p.primary → (len < least) ⊎ ((len ≡ least) × (x < best)) → IsBest p c (take (k + 1) items) x len
    best_taken may less = record {
      shortest = λ i h l. elim (of_grown i h) [
        | inl a ↦ let s = b.shortest i a l in elim less [ inl m ↦ omega arith | inr m ↦ let e = m.0 in omega arith ]
        | inr e ↦ rw e (let m = len_is in omega arith)
      ];
      first = λ i h l e. elim (of_grown i h) [
        | inl a ↦ let s = b.shortest i a l in elim less [ inl m ↦ absurd (omega arith) | inr m ↦ let f = b.first i a l (e ∙ m.0) in let g = m.1 in omega arith ]
        | inr f ↦ omega arith
      ];
      found = inl (may, rw grown (has_push_same (take k items) x x refl), len_is);
    }

    -- it doesn't
    pub best_kept : ((x ≤ p.primary) × ((len < least) ⊎ ((len ≡ least) × (x < best))) → ⊥) → IsBest p c (take (k + 1) items) best least
    best_kept not_before = record {
      shortest = λ i h l. elim (of_grown i h) [
        | inl a ↦ b.shortest i a l
        | inr e ↦ elim (cases_lt len least) [ inl m ↦ absurd (not_before (subst (λ j. j ≤ p.primary) e l, inl m)) | inr m ↦ rw (e, ← len_is) m ]
      ];
      first = λ i h l e. elim (of_grown i h) [
        | inl a ↦ b.first i a l e
        | inr f ↦ elim (cases_lt x best) [
          | inl m ↦ absurd (not_before (subst (λ j. j ≤ p.primary) f l, inr (len_is ∙ ap (λ j. length (list_of p c j)) (sym f) ∙ e, m)))
          | inr m ↦ omega arith
        ]
      ];
      found = elim b.found [
        | inl f ↦ inl (f.0, rw grown (has_append_left (take k items) (x ∷ []) best f.1), f.2)
        | inr f ↦ inr f
      ];
    }

-- after all items of an option that is left for the chosen item it is the best
module _ (p : ProblemValue) (c option : List ℕ) (best least : ℕ) (b : IsBest p c option best least)
    (items : (i : ℕ) → has option i ≡ true → (0 < i) × (has c i ≡ false)) (some : 0 < length (active p c)) (chosen : has option (choice p c) ≡ true)
    (few : length p.options < 4294967295) where
  abbrev k : ℕ
  k = choice p c

  k_active : (has c k ≡ false) × (0 < k) × (k ≤ p.primary)
  k_active = active_in p c k (choice_active p c some)

  k_least : least ≤ length (remaining p c k)
  k_least = rw (← list_uncovered p c k k_active.0) (b.shortest k chosen k_active.2)

  pub best_is_choice : best ≡ choice p c
  best_is_choice = elim b.found [
    | inr f ↦ let a = k_least in let m = remaining_few p c k in absurd (omega arith)
    | inl f ↦
        let i = items best f.1 in
        let act : has (active p c) best ≡ true = active_from p c best i.1 i.0 f.0 in
        let len : least ≡ length (remaining p c best) = f.2 ∙ ap (length {A = ℕ}) (list_uncovered p c best i.1) in
        let least_is = choice_least p c best act in
        let l = k_least in
        let up : best ≤ k = b.first k chosen k_active.2 (ap (length {A = ℕ}) (list_uncovered p c k k_active.0) ∙ (let g : length (remaining p c k) ≡ least = omega arith in g)) in
        elim (cases_lt best k) [ inl m ↦ let n = choice_before p c best act m in absurd (omega arith) | inr m ↦ omega arith ]
  ]
