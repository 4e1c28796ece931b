-- The least corner of a set of cells: how it grows by one cell, and that it is the least.
use Rattle.std.proofs.Common.{◌≡◌, ℕ, ◌+◌, ◌<◌, ◌≤◌, min, List, [], ◌∷◌, ◌++◌, length, get_or, take, ◌⊎◌, inl, inr, refl, sym, ap, subst, ◌∙◌, arith}
use Rattle.poly_cells.specs.Coordinates.{Coordinates, coordinates, IsInGrid}
use Rattle.poly_cells.specs.Sets.{IsIn}
use Rattle.poly_cells.specs.Shapes.{AllInGrid, least, corner}
use Rattle.poly_cells.proofs.CoordinateLemmas.{same_coordinates}
use Rattle.poly_cells.proofs.SetLemmas.{in_append_cases, take_next}

-- ---- a loop's step

least-push : (part : Coordinates → ℕ) (vs : List Coordinates) (v : Coordinates) → least part (vs ++ v ∷ []) ≡ min (least part vs) (part v)
least-push part [] v = omega arith
least-push part (w ∷ ws) v = omega (arith, least-push part ws v)

corner-push : (vs : List Coordinates) (v : Coordinates) (x y z : ℕ) → coordinates x y z ≡ corner vs → corner (vs ++ v ∷ []) ≡ coordinates (min x v.x) (min y v.y) (min z v.z)
corner-push vs v x y z h =
    same_coordinates _ _ _ _ _ _
    (least-push (λ w. w.x) vs v ∙ ap (λ (w : Coordinates). min w.x v.x) (sym h))
    (least-push (λ w. w.y) vs v ∙ ap (λ (w : Coordinates). min w.y v.y) (sym h))
    (least-push (λ w. w.z) vs v ∙ ap (λ (w : Coordinates). min w.z v.z) (sym h))

pub corner_more : (vs : List Coordinates) (i : ℕ) (v : Coordinates) (x y z : ℕ) → i < length vs → v ≡ get_or vs i v → coordinates x y z ≡ corner (take i vs)
    → coordinates (min x v.x) (min y v.y) (min z v.z) ≡ corner (take (i + 1) vs)
corner_more vs i v x y z lt is h =
    sym (ap corner (take_next vs i v lt is) ∙ corner-push (take i vs) v x y z h)

AllInGrid-push : (vs : List Coordinates) (v : Coordinates) → AllInGrid vs → IsInGrid v → AllInGrid (vs ++ v ∷ [])
AllInGrid-push vs v all here w i =
    elim (in_append_cases w vs (v ∷ []) i) [ inl l ↦ all w l | inr r ↦ elim r [ inl e ↦ subst IsInGrid (sym e) here | inr f ↦ absurd f ] ]

pub limits_more : (vs : List Coordinates) (i : ℕ) (v : Coordinates) → i < length vs → v ≡ get_or vs i v → AllInGrid (take i vs) → IsInGrid v → AllInGrid (take (i + 1) vs)
limits_more vs i v lt is all here =
    subst AllInGrid (sym (take_next vs i v lt is)) (AllInGrid-push (take i vs) v all here)

-- ---- the corner is below each cell, and each of its coordinates is reached

pub least_below : (part : Coordinates → ℕ) (vs : List Coordinates) (v : Coordinates) → IsIn v vs → least part vs ≤ part v
least_below part [] v i = absurd i
least_below part (w ∷ ws) v i =
    elim i [ inl e ↦ let same = ap part e in omega arith | inr r ↦ let h = least_below part ws v r in omega arith ]

min_cases : (a b : ℕ) → (min a b ≡ a) ⊎ (min a b ≡ b)
min_cases a b = grind arith

pub least_reached : (part : Coordinates → ℕ) (vs : List Coordinates) → 0 < length vs → ((v : Coordinates) → IsIn v vs → part v ≤ 31) → (v : Coordinates) × IsIn v vs × (part v ≡ least part vs)
least_reached part [] some limits = absurd (omega arith)
least_reached part (w ∷ []) some limits = let h = limits w (inl refl) in (w, inl refl, omega arith)
least_reached part (w ∷ u ∷ us) some limits =
    let rest = least_reached part (u ∷ us) (omega arith) (λ v i. limits v (inr i)) in
    elim (min_cases (part w) (least part (u ∷ us))) [ inl e ↦ (w, inl refl, sym e) | inr e ↦ (rest.0, inr rest.1, rest.2 ∙ sym e) ]
