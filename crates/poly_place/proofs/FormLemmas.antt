-- Two lists of parts have one form exactly where they part the cells alike, empty cells in the same places.
use Rattle.std.proofs.Common.{◌≡◌, ℕ, ◌+◌, ◌==◌, List, [], ◌∷◌, map, Bool, cond, inl, inr, refl, sym, ap, ap₂, ◌∙◌, eqb-true, eq-eqb, get_or}
use Rattle.poly_cells.specs.Sets.{IsIn}
use Rattle.poly_cells.proofs.SetLemmas.{in_map}
use Rattle.poly_place.specs.Forms.{first_form}
use Rattle.poly_place.specs.Chosen.{place_in}
use Rattle.std.specs.Cmp.{nat_eq_equiv, both_ways as same_tests}
use Rattle.poly_cells.proofs.MemberLemmas.{same_at, same_map, first_at, first_within}
use mathlib.Core.List.{map-map}
use Rattle.std.proofs.lemmas.List.Sums.{passes_at_first}
use Rattle.std.specs.List.{position_or_len}

-- the two number the cells alike, 0 at the same cells
pub record PartAlike {V : Type 0} (cells : List V) (f g : V → ℕ) : Type 0 where
  pub empty : (v : V) → IsIn v cells → (f v == 0) ≡ (g v == 0)
  pub parts : (v w : V) → IsIn v cells → IsIn w cells → (f v == f w) ≡ (g v == g w)

-- ---- alike, so of one form

places_same : {V : Type 0} (f g : V → ℕ) (v : V) (vs : List V) → ((w : V) → IsIn w vs → (f w == f v) ≡ (g w == g v)) → place_in (map f vs) (f v) ≡ place_in (map g vs) (g v)
places_same f g v [] same = refl
places_same f g v (w ∷ ws) same =
    ap₂ (λ (b : Bool) (k : ℕ). cond b 0 (1 + k)) (same w (inl refl)) (places_same f g v ws (λ x i. same x (inr i)))

first_same : {V : Type 0} (cells : List V) (f g : V → ℕ) → PartAlike cells f g → (v : V) → IsIn v cells → place_in (0 ∷ map f cells) (f v) ≡ place_in (0 ∷ map g cells) (g v)
first_same cells f g alike v i =
    ap₂ (λ (b : Bool) (k : ℕ). cond b 0 (1 + k)) (nat_eq_equiv.symm 0 (f v) ∙ alike.empty v i ∙ nat_eq_equiv.symm (g v) 0)
    (places_same f g v cells (λ w j. alike.parts w v j i))

pub same_form : {V : Type 0} (cells : List V) (f g : V → ℕ) → PartAlike cells f g → first_form (map f cells) ≡ first_form (map g cells)
unfolding first_form
same_form cells f g alike =
    map-map (place_in (0 ∷ map f cells)) f cells ∙ same_map _ _ cells (first_same cells f g alike) ∙ sym (map-map (place_in (0 ∷ map g cells)) g cells)

-- ---- of one form, so alike

place_is : (xs : List ℕ) (x : ℕ) → place_in xs x ≡ position_or_len (λ y. y == x) xs
place_is xs x = first_at (λ y. y == x) (λ ys. place_in ys x) refl (λ y ys. refl) xs

-- a place tells the number
pub place_tells : (xs : List ℕ) (x y : ℕ) → IsIn x xs → IsIn y xs → place_in xs x ≡ place_in xs y → x ≡ y
place_tells xs x y i j h =
    let here = eqb-true _ x (passes_at_first (λ z. z == x) xs 0 (first_within (λ z. z == x) xs x i (eq-eqb x x refl))) in
    let there = eqb-true _ y (passes_at_first (λ z. z == y) xs 0 (first_within (λ z. z == y) xs y j (eq-eqb y y refl))) in
    sym here ∙ ap (λ k. get_or xs k 0) (sym (place_is xs x) ∙ h ∙ place_is xs y) ∙ there

pub alike_form : {V : Type 0} (cells : List V) (f g : V → ℕ) → first_form (map f cells) ≡ first_form (map g cells) → PartAlike cells f g
unfolding first_form
alike_form {V} cells f g h = record {
  empty = λ v i. same_tests (f v == 0) (g v == 0)
      (λ t. eq-eqb (g v) 0 (place_tells (0 ∷ map g cells) (g v) 0 (among g v i) (inl refl) (sym (at v i) ∙ ap (place_in (0 ∷ map f cells)) (eqb-true (f v) 0 t))))
      (λ t. eq-eqb (f v) 0 (place_tells (0 ∷ map f cells) (f v) 0 (among f v i) (inl refl) (at v i ∙ ap (place_in (0 ∷ map g cells)) (eqb-true (g v) 0 t))));
  parts = λ v w i j. same_tests (f v == f w) (g v == g w)
      (λ t. eq-eqb (g v) (g w) (place_tells (0 ∷ map g cells) (g v) (g w) (among g v i) (among g w j) (sym (at v i) ∙ ap (place_in (0 ∷ map f cells)) (eqb-true (f v) (f w) t) ∙ at w j)))
      (λ t. eq-eqb (f v) (f w) (place_tells (0 ∷ map f cells) (f v) (f w) (among f v i) (among f w j) (at v i ∙ ap (place_in (0 ∷ map g cells)) (eqb-true (g v) (g w) t) ∙ sym (at w j))));
}
  where
    at : (v : V) → IsIn v cells → place_in (0 ∷ map f cells) (f v) ≡ place_in (0 ∷ map g cells) (g v)
    at = same_at _ _ cells (sym (map-map (place_in (0 ∷ map f cells)) f cells) ∙ h ∙ map-map (place_in (0 ∷ map g cells)) g cells)

    among : (k : V → ℕ) (v : V) → IsIn v cells → IsIn (k v) (0 ∷ map k cells)
    among k v i = inr (in_map k v cells i)
