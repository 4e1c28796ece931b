-- Counts that are added.
use Rattle.std.proofs.Common.{◌≡◌, ℕ, zero, suc, ◌+◌, ◌<◌, List, [], ◌∷◌, ◌++◌, length, drop, max, refl, sym, ◌∙◌, ap, arith, append_assoc}
use Rattle.std.specs.Prelude.{slice_index_or}
use Rattle.std.proofs.Math.Seq.{drop-nil}
use Rattle.part_sums.specs.Answers.{CountsValue, counts_with, no_counts, levels_sum, both_counts}

-- *levels*

pub levels_none : (xs : List ℕ) → levels_sum xs [] ≡ xs
levels_none [] = refl
levels_none (x ∷ xs) = refl

-- the first of the sums that are left, and the others
pub level_peeled : (a b : List ℕ) (k : ℕ) → k < max (length a) (length b)
    → levels_sum (drop k a) (drop k b) ≡ (slice_index_or a k 0 + slice_index_or b k 0) ∷ levels_sum (drop (suc k) a) (drop (suc k) b)
level_peeled [] [] k l = absurd (omega (arith, l))
level_peeled [] (y ∷ ys) zero l = let e : 0 + y ≡ y = omega arith in rw e refl
level_peeled (x ∷ xs) [] zero l = let e : x + 0 ≡ x = omega arith in rw e (ap (λ t. x ∷ t) (sym (levels_none xs)))
level_peeled (x ∷ xs) (y ∷ ys) zero l = refl
level_peeled [] (y ∷ ys) (suc k) l = rw (drop-nil k) at (level_peeled [] ys k (omega (arith, l)))
level_peeled (x ∷ xs) [] (suc k) l = rw (drop-nil k) at (level_peeled xs [] k (omega (arith, l)))
level_peeled (x ∷ xs) (y ∷ ys) (suc k) l = level_peeled xs ys k (omega (arith, l))

-- a loop that has added the levels below k adds the next
pub level_more : (a b old new : List ℕ) (k n : ℕ) → k < max (length a) (length b) → old ++ levels_sum (drop k a) (drop k b) ≡ levels_sum a b
    → n ≡ slice_index_or a k 0 + slice_index_or b k 0 → new ≡ old ++ n ∷ [] → new ++ levels_sum (drop (k + 1) a) (drop (k + 1) b) ≡ levels_sum a b
level_more a b old new k n l so_far e f =
    let next : suc k ≡ k + 1 = omega arith in
    let rest = levels_sum (drop (k + 1) a) (drop (k + 1) b) in
    let peeled : levels_sum (drop k a) (drop k b) ≡ n ∷ rest = rw (← next, e) (level_peeled a b k l) in
    ap (λ xs. xs ++ rest) f ∙ append_assoc old (n ∷ []) rest ∙ ap (λ xs. old ++ xs) (sym peeled) ∙ so_far

pub levels_assoc : (xs ys zs : List ℕ) → levels_sum (levels_sum xs ys) zs ≡ levels_sum xs (levels_sum ys zs)
levels_assoc [] ys zs = refl
levels_assoc (x ∷ xs) [] zs = refl
levels_assoc (x ∷ xs) (y ∷ ys) [] = refl
levels_assoc (x ∷ xs) (y ∷ ys) (z ∷ zs) = let e : (x + y) + z ≡ x + (y + z) = omega arith in rw (e, levels_assoc xs ys zs) refl

-- *counts*

pub same_counts : (v w s t : ℕ) (xs ys : List ℕ) → v ≡ w → s ≡ t → xs ≡ ys → counts_with v s xs ≡ counts_with w t ys
same_counts v w s t xs ys e f g = rw (e, f, g) refl

pub both_assoc : (a b c : CountsValue) → both_counts (both_counts a b) c ≡ both_counts a (both_counts b c)
both_assoc a b c = same_counts _ _ _ _ _ _ (omega arith) (omega arith) (levels_assoc a.levels b.levels c.levels)

pub none_before : (c : CountsValue) → both_counts no_counts c ≡ c
none_before c = same_counts _ _ _ _ _ _ (omega arith) (omega arith) refl

pub none_after : (c : CountsValue) → both_counts c no_counts ≡ c
none_after c = same_counts _ _ _ _ _ _ (omega arith) (omega arith) (levels_none c.levels)
