-- The order of sets of cells is a total order, and where it says Equal the sets are the same.
use Rattle.std.proofs.Common.{◌≡◌, List, [], ◌∷◌, refl, ap₂, Ordering}
use Rattle.std.specs.Cmp.{IsTotalOrder}
use Rattle.std.specs.Cmp.Lexicographic.{pointwise, lists_ties}
use Rattle.std.specs.Ordering.{eq_by_cmp}
use Rattle.std.specs.Cmp.Lexicographic.{slice_cmp}
use Rattle.std.proofs.lemmas.Cmp.{lists_total}
use Rattle.poly_cells.specs.Coordinates.{Coordinates, coordinates_cmp}
use Rattle.poly_cells.specs.Sets.{IsExact}
use Rattle.poly_cells.proofs.CoordinateLemmas.{coordinates_total, coordinates_exact, coordinates_ties, first_equal}
use Rattle.poly_cells.specs.CellTests.{is_same}
use Rattle.poly_place.specs.Placements.{cells_cmp}

pub cells_total : IsTotalOrder cells_cmp
cells_total = lists_total coordinates_total

-- lists of things with an exact order have one
pub lists_exact : {K : Type 0} {R : K → K → Ordering} → IsExact R → IsExact (slice_cmp R)
lists_exact exact [] [] h = refl
lists_exact exact [] (y ∷ ys) h = cc
lists_exact exact (x ∷ xs) [] h = cc
lists_exact {K} {R} exact (x ∷ xs) (y ∷ ys) h =
    let parts = first_equal (R x y) (slice_cmp R xs ys) h in
    ap₂ (λ (v : K) (vs : List K). v ∷ vs) (exact x y parts.0) (lists_exact exact xs ys parts.1)

pub cells_exact : IsExact cells_cmp
cells_exact = lists_exact coordinates_exact

-- `==` of two sets agrees with the order
pub cells_ties : (xs ys : List Coordinates) → pointwise is_same xs ys ≡ eq_by_cmp cells_cmp xs ys
cells_ties = lists_ties coordinates_cmp coordinates_ties
