-- The order of cells is a total order, and where it says Equal the cells are the same.
use Rattle.std.proofs.Common.{◌≡◌, ℕ, ◌==◌, ◌&&◌, refl, ap, ap₂, ◌∙◌, Ordering, Equal, nat_cmp, is_eq, arith, Decides, eqb-true, eq-eqb}
use Rattle.std.proofs.lemmas.Bool.{and_parts, and_from}
use Rattle.std.specs.Cmp.{IsTotalOrder, tied_then}
use Rattle.std.specs.Ordering.{ordering_then, eq_by_cmp}
use Rattle.std.proofs.lemmas.Cmp.{on_total, then_total, nat_cmp_total}
use Rattle.std.proofs.lemmas.Bool.Decides.{nat_tests}
use Rattle.poly_cells.specs.Coordinates.{Coordinates, coordinates, coordinates_cmp}
use Rattle.poly_cells.specs.Sets.{IsExact}

pub coordinates_total : IsTotalOrder coordinates_cmp
coordinates_total =
    then_total (on_total (λ (v : Coordinates). v.x) nat_cmp_total) (then_total (on_total (λ (v : Coordinates). v.y) nat_cmp_total) (on_total (λ (v : Coordinates). v.z) nat_cmp_total))

pub first_equal : (a b : Ordering) → ordering_then a b ≡ Equal → (a ≡ Equal) × (b ≡ Equal)
first_equal Equal b h = (refl, h)
first_equal _ b h = cc

nat_exact : (m n : ℕ) → nat_cmp m n ≡ Equal → m ≡ n
nat_exact m n h = grind (arith, nat_tests)

pub same_coordinates : (a b c d e f : ℕ) → a ≡ d → b ≡ e → c ≡ f → coordinates a b c ≡ coordinates d e f
same_coordinates a b c d e f p q r = cc

pub coordinates_exact : IsExact coordinates_cmp
coordinates_exact v w h =
    let x = first_equal (nat_cmp v.x w.x) (ordering_then (nat_cmp v.y w.y) (nat_cmp v.z w.z)) h in
    let yz = first_equal (nat_cmp v.y w.y) (nat_cmp v.z w.z) x.1 in
    same_coordinates v.x v.y v.z w.x w.y w.z (nat_exact v.x w.x x.0) (nat_exact v.y w.y yz.0) (nat_exact v.z w.z yz.1)

nat_ties : (m n : ℕ) → (m == n) ≡ is_eq (nat_cmp m n)
nat_ties m n = grind (arith, nat_tests)

-- `==` of two cells says whether they are the same
pub is_same_Decides : (v w : Coordinates) → Decides ((v.x == w.x) && ((v.y == w.y) && (v.z == w.z))) (v ≡ w)
is_same_Decides v w = (
  (λ t.
      let first = and_parts (v.x == w.x) ((v.y == w.y) && (v.z == w.z)) t in
      let rest = and_parts (v.y == w.y) (v.z == w.z) first.1 in
      same_coordinates v.x v.y v.z w.x w.y w.z (eqb-true v.x w.x first.0) (eqb-true v.y w.y rest.0) (eqb-true v.z w.z rest.1)),
  (λ e. and_from (v.x == w.x) ((v.y == w.y) && (v.z == w.z)) (eq-eqb v.x w.x (ap (λ (u : Coordinates). u.x) e))
      (and_from (v.y == w.y) (v.z == w.z) (eq-eqb v.y w.y (ap (λ (u : Coordinates). u.y) e)) (eq-eqb v.z w.z (ap (λ (u : Coordinates). u.z) e)))),
)

-- `==` of two cells agrees with the order
pub coordinates_ties : (v w : Coordinates) → ((v.x == w.x) && ((v.y == w.y) && (v.z == w.z))) ≡ eq_by_cmp coordinates_cmp v w
coordinates_ties v w =
    ap₂ (λ a b. a && b) (nat_ties v.x w.x)
    (ap₂ (λ a b. a && b) (nat_ties v.y w.y) (nat_ties v.z w.z) ∙ tied_then (nat_cmp v.y w.y) (nat_cmp v.z w.z))
    ∙ tied_then (nat_cmp v.x w.x) (ordering_then (nat_cmp v.y w.y) (nat_cmp v.z w.z))
