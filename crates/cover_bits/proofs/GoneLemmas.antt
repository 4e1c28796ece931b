-- A list without the options that are gone: its first and its last one, and how many there are.
use Rattle.std.proofs.Common.{◌≡◌, ℕ, suc, ◌+◌, ◌-◌, ◌*◌, ◌<◌, ◌≤◌, ◌⊎◌, nat_lt, Bool, true, false, not, ◌&&◌, List, [], ◌∷◌, length, filter, refl, sym, ap, ◌∙◌, inl, inr, arith, le_refl, None, Some, Option, All}
use Rattle.std.specs.Prelude.{IfSome}
use Rattle.std.proofs.lemmas.Bool.{cases_lt, cases_eq, cases_order, lt-ltb, le-ltb, and_parts, and_from, and_left, and_right, both_ways, false_from_ne_true}
use Rattle.std.proofs.lemmas.List.Elements.{All-from_get_or}
use Rattle.shared_words.specs.Lists.{has, RisesFrom}
use Rattle.cover_problem.proofs.MemberLemmas.{has_here, has_later, has_cases}
use Rattle.cover_problem.proofs.NumberLemmas.{rises_member}
use Rattle.cover_bits.specs.declared.lists.ItemList.{ItemList}
use Rattle.cover_bits.specs.Parts.{in_parts, in_row, in_both, IsFirstFrom, NoneFrom, IsLastBelow, NoneBelow}
use Rattle.cover_bits.specs.Bits.{IsReadable, in_columns, in_list, IsListOf}
use Rattle.cover_bits.proofs.PartLemmas.{placed_in, placed_at}

-- *the first and the last*

module _ (both gone : ℕ → Bool) where
  out : (j : ℕ) → gone j ≡ true → (both j && not (gone j)) ≡ false
  out j g = and_right (both j) (not (gone j)) (ap not g)

  kept : (j : ℕ) → both j ≡ true → gone j ≡ false → (both j && not (gone j)) ≡ true
  kept j b g = and_from (both j) (not (gone j)) b (ap not g)

  module _ (begin start : ℕ) (le : begin ≤ start) (before : (j : ℕ) → begin ≤ j → j < start → (both j && not (gone j)) ≡ false) where
    pub first_kept : (k : ℕ) → IsFirstFrom both start k → gone k ≡ false → IsFirstFrom (λ j. both j && not (gone j)) begin k
    first_kept k f g = record {
      passes = kept k f.passes g;
      from = let a = f.from in omega arith;
      least = λ j a t. by j a t (cases_lt j start);
    }
      where
        by : (j : ℕ) → begin ≤ j → (both j && not (gone j)) ≡ true → (j < start) ⊎ (start ≤ j) → k ≤ j
        by j a t (inl l) = absurd (both_ways (both j && not (gone j)) (before j a l) t)
        by j a t (inr l) = f.least j l (and_parts (both j) (not (gone j)) t).0

    pub first_passed : (k : ℕ) → IsFirstFrom both start k → gone k ≡ true → (j : ℕ) → begin ≤ j → j < k + 1 → (both j && not (gone j)) ≡ false
    first_passed k f g j a l = by (cases_lt j start) (cases_eq j k)
      where
        by : (j < start) ⊎ (start ≤ j) → (j ≡ k) ⊎ (j ≡ k → ⊥) → (both j && not (gone j)) ≡ false
        by (inl m) q = before j a m
        by (inr m) (inl q) = out j (ap gone q ∙ g)
        by (inr m) (inr q) = and_left (both j) (not (gone j)) (false_from_ne_true (both j) (λ t. let n = f.least j m t in q (omega arith)))

    pub first_none : NoneFrom both start → NoneFrom (λ j. both j && not (gone j)) begin
    first_none none j a = by (cases_lt j start)
      where
        by : (j < start) ⊎ (start ≤ j) → (both j && not (gone j)) ≡ false
        by (inl m) = before j a m
        by (inr m) = and_left (both j) (not (gone j)) (none j m)

  module _ (bound end : ℕ) (le : end ≤ bound) (after : (j : ℕ) → end ≤ j → j < bound → (both j && not (gone j)) ≡ false) where
    pub last_kept : (k : ℕ) → IsLastBelow both end k → gone k ≡ false → IsLastBelow (λ j. both j && not (gone j)) bound k
    last_kept k f g = record {
      passes = kept k f.passes g;
      below = let a = f.below in omega arith;
      greatest = λ j a t. by j a t (cases_lt j end);
    }
      where
        by : (j : ℕ) → j < bound → (both j && not (gone j)) ≡ true → (j < end) ⊎ (end ≤ j) → j ≤ k
        by j a t (inl l) = f.greatest j l (and_parts (both j) (not (gone j)) t).0
        by j a t (inr l) = absurd (both_ways (both j && not (gone j)) (after j l a) t)

    pub last_passed : (k : ℕ) → IsLastBelow both end k → gone k ≡ true → (j : ℕ) → k ≤ j → j < bound → (both j && not (gone j)) ≡ false
    last_passed k f g j a l = by (cases_lt j end) (cases_eq j k)
      where
        by : (j < end) ⊎ (end ≤ j) → (j ≡ k) ⊎ (j ≡ k → ⊥) → (both j && not (gone j)) ≡ false
        by (inr m) q = after j m l
        by (inl m) (inl q) = out j (ap gone q ∙ g)
        by (inl m) (inr q) = and_left (both j) (not (gone j)) (false_from_ne_true (both j) (λ t. let n = f.greatest j m t in q (omega arith)))

    pub last_none : NoneBelow both end → NoneBelow (λ j. both j && not (gone j)) bound
    last_none none j a = by (cases_lt j end)
      where
        by : (j < end) ⊎ (end ≤ j) → (both j && not (gone j)) ≡ false
        by (inl m) = and_left (both j) (not (gone j)) (none j m)
        by (inr m) = after j m a

-- where no item is gone, all are kept
no_column : (words : ℕ) (columns gone : List ℕ) → length gone ≡ 0 → (k : ℕ) → in_columns words columns gone k ≡ false
no_column words columns [] e k = refl
no_column words columns (i ∷ gone) e k = absurd (omega arith)

module _ (list : ItemList) where
  pub first_all : length list.gone.now ≡ 0 → (start : ℕ) (found : Option ℕ)
      → IfSome found (λ k. IsFirstFrom (in_both list.parts.now list.column.now) start k) → IfSome found (λ k. IsFirstFrom (in_list list) start k)
  first_all e start None h = tt
  first_all e start (Some k) h =
      first_kept (in_both list.parts.now list.column.now) (in_columns (length list.column.now) list.columns.now list.gone.now) start start (le_refl start) (λ j a b. absurd (omega arith)) k h
      (no_column (length list.column.now) list.columns.now list.gone.now e k)

  pub none_all : (start : ℕ) → NoneFrom (in_both list.parts.now list.column.now) start → NoneFrom (in_list list) start
  none_all start none =
      first_none (in_both list.parts.now list.column.now) (in_columns (length list.column.now) list.columns.now list.gone.now) start start (le_refl start) (λ j a b. absurd (omega arith)) none

-- *within the column*

pub parts_within : (list : ItemList) → IsReadable list → (k : ℕ) → in_parts list.parts.now k ≡ true → k < 64 * length list.column.now
parts_within list s k t = let r = placed_in 0 (length list.column.now) list.parts.now s.placed k t in let q = r.1 in omega arith

pub both_within : (list : ItemList) → IsReadable list → (k : ℕ) → in_both list.parts.now list.column.now k ≡ true → k < 64 * length list.column.now
both_within list s k t = parts_within list s k (and_parts (in_parts list.parts.now k) (in_row list.column.now k) t).0

pub list_within : (list : ItemList) → IsReadable list → (k : ℕ) → in_list list k ≡ true → k < 64 * length list.column.now
list_within list s k t = both_within list s k (and_parts (in_both list.parts.now list.column.now k) _ t).0

pub places_within : (list : ItemList) → IsReadable list → All (λ part. part.place < length list.column.now) list.parts.now
places_within list s =
    All-from_get_or (λ part. part.place < length list.column.now) list.parts.now (record { word = 0; place = 0 })
    (λ i l. (placed_at 0 (length list.column.now) list.parts.now s.placed i (record { word = 0; place = 0 }) l).0)

-- *how many*

-- how many are above a number
pub above_count : ℕ → List ℕ → ℕ
above_count n xs = length (filter (λ x. nat_lt n x) xs)

pub count_all : (n m : ℕ) (xs : List ℕ) → RisesFrom m xs → n < m → above_count n xs ≡ length xs
unfolding above_count
count_all n m [] rises l = refl
count_all n m (x ∷ xs) rises l = let a = rises.0 in rw (lt-ltb n x (omega arith)) (ap (λ k. suc k) (count_all n (suc x) xs rises.1 (omega arith)))

pub count_over : (n : ℕ) (xs : List ℕ) → ((x : ℕ) → has xs x ≡ true → x ≤ n) → above_count n xs ≡ 0
unfolding above_count
count_over n [] most = refl
count_over n (x ∷ xs) most = rw (le-ltb n x (most x (has_here x xs))) (count_over n xs (λ y m. most y (has_later x xs y m)))

-- one fewer is above the least of those that are above
pub count_step : (n m y : ℕ) (xs : List ℕ) → RisesFrom m xs → has xs y ≡ true → n < y → ((x : ℕ) → has xs x ≡ true → n < x → y ≤ x) → above_count n xs ≡ suc (above_count y xs)
unfolding above_count
count_step n m y [] rises here l least = absurd (cc)
count_step n m y (x ∷ xs) rises here l least =
    by (cases_order x y) (has_cases x xs y here) (λ t. count_step n (suc x) y xs rises.1 t l (λ z h k. least z (has_later x xs z h) k))
  where
    by : (x ≡ y) ⊎ ((x < y) ⊎ (y < x)) → (x ≡ y) ⊎ (has xs y ≡ true) → (has xs y ≡ true → above_count n xs ≡ suc (above_count y xs)) → above_count n (x ∷ xs) ≡ suc (above_count y (x ∷ xs))
    by (inl e) q ih =
        rw (lt-ltb n x (omega arith), le-ltb y x (omega arith))
        (ap (λ k. suc k) (count_all n (suc x) xs rises.1 (omega arith) ∙ sym (count_all y (suc x) xs rises.1 (omega arith))))
    by (inr (inl a)) (inl e) ih = absurd (omega arith)
    by (inr (inl a)) (inr t) ih = go (cases_lt n x)
      where
        go : (n < x) ⊎ (x ≤ n) → above_count n (x ∷ xs) ≡ suc (above_count y (x ∷ xs))
        go (inl b) = let c = least x (has_here x xs) b in absurd (omega arith)
        go (inr b) = rw (le-ltb n x b, le-ltb y x (omega arith)) (ih t)
    by (inr (inr a)) (inl e) ih = absurd (omega arith)
    by (inr (inr a)) (inr t) ih = let r = rises_member (suc x) y xs rises.1 t in absurd (omega arith)

module _ (xs : List ℕ) (list : ItemList) (is : IsListOf xs list) where
  member_at : (y : ℕ) → has xs y ≡ true → (1 ≤ y) × (in_list list (y - 1) ≡ true)
  member_at y m = let l = rises_member 1 y xs is.rises m in let e : y - 1 + 1 ≡ y = omega arith in (l, is.are (y - 1) ∙ ap (has xs) e ∙ m)

  pub counted_first : (start k : ℕ) → IsFirstFrom (in_list list) start k → above_count start xs ≡ suc (above_count (k + 1) xs)
  counted_first start k f =
      count_step start 1 (k + 1) xs is.rises (sym (is.are k) ∙ f.passes) (let a = f.from in omega arith)
      (λ x m l. let r = member_at x m in let s = r.0 in let t = f.least (x - 1) (omega arith) r.1 in omega arith)

  pub counted_none : (start : ℕ) → NoneFrom (in_list list) start → above_count start xs ≡ 0
  counted_none start none = count_over start xs (λ x m. by x m (cases_lt start x))
    where
      by : (x : ℕ) → has xs x ≡ true → (start < x) ⊎ (x ≤ start) → x ≤ start
      by x m (inl l) = let r = member_at x m in absurd (both_ways (in_list list (x - 1)) (none (x - 1) (omega arith)) r.1)
      by x m (inr l) = l

  pub counted_all : above_count 0 xs ≡ length xs
  counted_all = count_all 0 1 xs is.rises (omega arith)
