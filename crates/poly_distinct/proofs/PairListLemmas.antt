-- Lists of pairs: their members, that none comes twice, and how many they are.
use Rattle.std.proofs.Common.{◌≡◌, ℕ, List, [], ◌∷◌, map, flat_map, length, sum_by, sym, ap, subst, subst₂, ◌∙◌}
use Rattle.std.proofs.lemmas.List.{length-map}
use Rattle.std.proofs.lemmas.List.Concat.{length-flat_map}
use Rattle.poly_cells.specs.Sets.{IsIn}
use Rattle.poly_cells.proofs.SetLemmas.{in_map, in_from_map}
use Rattle.poly_cells.proofs.MemberLemmas.{in_flat_map, in_from_flat_map, same_function}
use Rattle.poly_place.proofs.DistinctLemmas.{IsDistinct, distinct_append}

-- each of these with each of what a function makes of it
abbrev pub pairs_of : {X Y : Type 0} → (X → List Y) → List X → List (X × Y)
pairs_of f xs = flat_map (λ x. map (λ o. (x, o)) (f x)) xs

module _ {X Y : Type 0} (f : X → List Y) where
  abbrev pub with : X → Y → X × Y
  with x y = (x, y)

  pub in_from_pairs : (xs : List X) (w : X × Y) → IsIn w (pairs_of f xs) → IsIn w.0 xs × IsIn w.1 (f w.0)
  in_from_pairs xs w i =
      let x = in_from_flat_map (λ (x : X). map (with x) (f x)) w xs i in
      let o = in_from_map (with x.0) w (f x.0) x.2 in
      let e : w.0 ≡ x.0 = ap (λ (y : X × Y). y.0) o.2 in
      let g : w.1 ≡ o.0 = ap (λ (y : X × Y). y.1) o.2 in
      (subst (λ (y : X). IsIn y xs) (sym e) x.1, subst₂ (λ (k : Y) (y : X). IsIn k (f y)) (sym g) (sym e) o.1)

  pub in_pairs : (xs : List X) (x : X) (o : Y) → IsIn x xs → IsIn o (f x) → IsIn (with x o) (pairs_of f xs)
  in_pairs xs x o i j = in_flat_map (λ (y : X). map (with y) (f y)) (with x o) x xs i (in_map (with x) o (f x) j)

  distinct_with : (x : X) (os : List Y) → IsDistinct os → IsDistinct (map (with x) os)
  distinct_with x [] d = tt
  distinct_with x (o ∷ os) d = ((λ i. let n = in_from_map (with x) (with x o) os i in d.0 (subst (λ (k : Y). IsIn k os) (sym (ap (λ (y : X × Y). y.1) n.2)) n.1)), distinct_with x os d.1)

  pub distinct_pairs : (xs : List X) → ((x : X) → IsDistinct (f x)) → IsDistinct xs → IsDistinct (pairs_of f xs)
  distinct_pairs [] each d = tt
  distinct_pairs (x ∷ xs) each d =
      distinct_append (map (with x) (f x)) (pairs_of f xs) (distinct_with x (f x) (each x)) (distinct_pairs xs each d.1)
      (λ w i j.
      let o = in_from_map (with x) w (f x) i in
      d.0 (subst (λ (y : X). IsIn y xs) (ap (λ (y : X × Y). y.0) o.2) (in_from_pairs xs w j).0))

  pub length_pairs : (xs : List X) → length (pairs_of f xs) ≡ sum_by (λ x. length (f x)) xs
  length_pairs xs =
      length-flat_map (λ (x : X). map (with x) (f x)) xs
      ∙ ap (λ (g : X → ℕ). sum_by g xs) (same_function (λ (x : X). length (map (with x) (f x))) (λ (x : X). length (f x)) (λ x. length-map (f x) (with x)))
