-- A list of one list.
use Rattle.std.proofs.Common.{◌≡◌, ℕ, List, [], ◌∷◌, length, slice_index_or, ap, arith}

pub one_list : (xs : List (List ℕ)) (ys : List ℕ) → length xs ≡ 1 → slice_index_or xs 0 [] ≡ ys → xs ≡ ys ∷ []
one_list [] ys l e = absurd (omega arith)
one_list (x ∷ []) ys l e = ap (λ (z : List ℕ). z ∷ []) e
one_list (x ∷ y ∷ zs) ys l e = absurd (omega arith)
