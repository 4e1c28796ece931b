-- A form that is written over another one, from its first place on, as long as it isn't greater.
use Rattle.std.proofs.Common.{◌≡◌, ℕ, zero, suc, ◌+◌, ◌<◌, ◌≤◌, true, false, List, [], ◌∷◌, ◌++◌, take, drop, length, get_or, slice_set, refl, sym, ap, ap₂, ◌∙◌, arith, append-nil, Ordering, Less, Equal, Greater, take_all}
use Rattle.std.specs.Ordering.{is_gt, nat_cmp, ordering_then}
use Rattle.std.proofs.lemmas.List.{drop_all, take-append-drop}
use Rattle.poly_place.specs.Forms.{forms_cmp, lesser}
use Rattle.poly_cells.specs.Sets.{by_order}
use Rattle.poly_place.proofs.KeyLemmas.{forms_exact}

-- the first k are written, and what was compared so far isn't above
pub record IsLowering (form old : List ℕ) (k : ℕ) (order : Ordering) (best : List ℕ) : Type 0 where
  pub wrote : best ≡ take k form ++ drop k old
  pub compared : order ≡ forms_cmp (take k form) (take k old)
  pub not_above : is_gt order ≡ false

then_equal : (o : Ordering) → ordering_then o Equal ≡ o
then_equal Less = refl
then_equal Equal = refl
then_equal Greater = refl

then_then : (a b c : Ordering) → ordering_then a (ordering_then b c) ≡ ordering_then (ordering_then a b) c
then_then Less b c = refl
then_then Equal b c = refl
then_then Greater b c = refl

-- ---- one place more

written_next : (form old : List ℕ) (k : ℕ) → k < length form → length form ≡ length old
    → slice_set (take k form ++ drop k old) k (get_or form k 0) ≡ take (suc k) form ++ drop (suc k) old
written_next [] old k lt e = absurd (omega (arith, lt))
written_next (x ∷ xs) [] k lt e = absurd (omega (arith, e))
written_next (x ∷ xs) (y ∷ ys) zero lt e = refl
written_next (x ∷ xs) (y ∷ ys) (suc k) lt e = ap (λ (zs : List ℕ). x ∷ zs) (written_next xs ys k (omega (arith, lt)) (omega (arith, e)))

written_at : (form old : List ℕ) (k : ℕ) → length form ≡ length old → get_or (take k form ++ drop k old) k 0 ≡ get_or old k 0
written_at form old zero e = refl
written_at [] [] (suc k) e = refl
written_at [] (y ∷ ys) (suc k) e = absurd (omega (arith, e))
written_at (x ∷ xs) [] (suc k) e = absurd (omega (arith, e))
written_at (x ∷ xs) (y ∷ ys) (suc k) e = written_at xs ys k (omega (arith, e))

compared_next : (form old : List ℕ) (k : ℕ) → k < length form → length form ≡ length old
    → ordering_then (forms_cmp (take k form) (take k old)) (nat_cmp (get_or form k 0) (get_or old k 0)) ≡ forms_cmp (take (suc k) form) (take (suc k) old)
compared_next [] old k lt e = absurd (omega (arith, lt))
compared_next (x ∷ xs) [] k lt e = absurd (omega (arith, e))
compared_next (x ∷ xs) (y ∷ ys) zero lt e = sym (then_equal (nat_cmp x y))
compared_next (x ∷ xs) (y ∷ ys) (suc k) lt e =
    sym (then_then (nat_cmp x y) (forms_cmp (take k xs) (take k ys)) (nat_cmp (get_or xs k 0) (get_or ys k 0)))
    ∙ ap (ordering_then (nat_cmp x y)) (compared_next xs ys k (omega (arith, lt)) (omega (arith, e)))

compared_whole : (form old : List ℕ) (k : ℕ) → length form ≡ length old
    → forms_cmp form old ≡ ordering_then (forms_cmp (take k form) (take k old)) (forms_cmp (drop k form) (drop k old))
compared_whole form old zero e = refl
compared_whole [] [] (suc k) e = refl
compared_whole [] (y ∷ ys) (suc k) e = absurd (omega (arith, e))
compared_whole (x ∷ xs) [] (suc k) e = absurd (omega (arith, e))
compared_whole (x ∷ xs) (y ∷ ys) (suc k) e =
    ap (ordering_then (nat_cmp x y)) (compared_whole xs ys k (omega (arith, e)))
    ∙ then_then (nat_cmp x y) (forms_cmp (take k xs) (take k ys)) (forms_cmp (drop k xs) (drop k ys))

-- ---- the loop

greater_is : (o : Ordering) → is_gt o ≡ true → o ≡ Greater
greater_is Greater h = refl
greater_is _ h = cc

-- what is above after one comparison more was equal before
equal_before : (a b : Ordering) → is_gt a ≡ false → is_gt (ordering_then a b) ≡ true → a ≡ Equal
equal_before Equal b h g = refl
equal_before Less b h g = cc
equal_before Greater b h g = cc

module _ (form old : List ℕ) (e : length form ≡ length old) where
  module _ (k : ℕ) (order told after : Ordering) (best : List ℕ) (x y : ℕ) (lt : k < length form) (at : x ≡ get_or form k 0) (was : y ≡ get_or best k 0)
      (tells : told ≡ nat_cmp x y) (follows : after ≡ ordering_then order told) (so : IsLowering form old k order best) where
    next : after ≡ forms_cmp (take (k + 1) form) (take (k + 1) old)
    next =
        follows ∙ ap₂ ordering_then so.compared (tells ∙ ap₂ nat_cmp at (was ∙ ap (λ (xs : List ℕ). get_or xs k 0) so.wrote ∙ written_at form old k e))
        ∙ compared_next form old k lt e ∙ ap (λ (n : ℕ). forms_cmp (take n form) (take n old)) (let s : suc k ≡ k + 1 = omega arith in s)

    pub lowering_more : is_gt after ≡ false → IsLowering form old (k + 1) after (slice_set best k x)
    lowering_more low = record {
      wrote =
          ap₂ (λ (xs : List ℕ) (n : ℕ). slice_set xs k n) so.wrote at ∙ written_next form old k lt e
          ∙ ap (λ (n : ℕ). take n form ++ drop n old) (let s : suc k ≡ k + 1 = omega arith in s);
      compared = next;
      not_above = low;
    }

    pub lowering_stops : is_gt after ≡ true → best ≡ lesser form old
    lowering_stops above =
        let same : take k form ≡ take k old = forms_exact (take k form) (take k old) (sym so.compared ∙ equal_before order told so.not_above (sym (ap is_gt follows) ∙ above)) in
        let whole : forms_cmp form old ≡ Greater =
        compared_whole form old (k + 1) e ∙ ap (λ (o : Ordering). ordering_then o (forms_cmp (drop (k + 1) form) (drop (k + 1) old))) (sym next ∙ greater_is after above) in
        so.wrote ∙ ap (λ (xs : List ℕ). xs ++ drop k old) same ∙ take-append-drop k old ∙ sym (ap (λ (o : Ordering). by_order o form old old) whole)

  pub lowering_ends : (k : ℕ) (order : Ordering) (best : List ℕ) → length form ≤ k → IsLowering form old k order best → best ≡ lesser form old
  lowering_ends k order best end so = made ∙ by_cases order so.not_above compared
    where
      made : best ≡ form
      made =
          so.wrote ∙ ap₂ (λ (xs ys : List ℕ). xs ++ ys) (take_all k form end) (drop_all k old (let h = end in omega (arith, h, e))) ∙ append-nil form

      compared : order ≡ forms_cmp form old
      compared = so.compared ∙ ap₂ forms_cmp (take_all k form end) (take_all k old (let h = end in omega (arith, h, e)))

      by_cases : (o : Ordering) → is_gt o ≡ false → o ≡ forms_cmp form old → form ≡ lesser form old
      by_cases Less h c = ap (λ (p : Ordering). by_order p form old old) c
      by_cases Equal h c = forms_exact form old (sym c) ∙ ap (λ (p : Ordering). by_order p form old old) c
      by_cases Greater h c = cc

-- ---- the first two places

-- a form that they tell to be above isn't taken
pub above_from_start : (form old : List ℕ) (f s u v : ℕ) → 2 ≤ length form → length form ≡ length old → f ≡ get_or form 0 0 → s ≡ get_or form 1 0 → u ≡ get_or old 0 0 → v ≡ get_or old 1 0
    → is_gt (ordering_then (nat_cmp f u) (nat_cmp s v)) ≡ true → old ≡ lesser form old
above_from_start [] old f s u v le e ef es eu ev gt = absurd (omega (arith, le))
above_from_start (x ∷ []) old f s u v le e ef es eu ev gt = absurd (omega (arith, le))
above_from_start (x ∷ y ∷ xs) [] f s u v le e ef es eu ev gt = absurd (omega (arith, e))
above_from_start (x ∷ y ∷ xs) (p ∷ []) f s u v le e ef es eu ev gt = absurd (omega (arith, e))
above_from_start (x ∷ y ∷ xs) (p ∷ q ∷ ps) f s u v le e ef es eu ev gt =
    let start = ap₂ ordering_then (ap₂ nat_cmp (sym ef) (sym eu)) (ap₂ nat_cmp (sym es) (sym ev)) ∙ greater_is _ gt in
    let whole : forms_cmp (x ∷ y ∷ xs) (p ∷ q ∷ ps) ≡ Greater =
    then_then (nat_cmp x p) (nat_cmp y q) (forms_cmp xs ps) ∙ ap (λ (o : Ordering). ordering_then o (forms_cmp xs ps)) start in
    sym (ap (λ (o : Ordering). by_order o (x ∷ y ∷ xs) (p ∷ q ∷ ps) (p ∷ q ∷ ps)) whole)
