-- Normal and turned forms are shapes: they rise, have a cell and stay within the limits.
use Rattle.std.proofs.Common.{◌≡◌, ℕ, ◌-◌, ◌<◌, ◌≤◌, List, map, length, refl, sym, ap₂, subst, ◌∙◌, arith, nat_cmp}
use Rattle.std.proofs.lemmas.Bool.Decides.{nat_tests}
use Rattle.std.specs.Ordering.{ordering_then}
use Rattle.std.specs.List.Sorted.{IsStrictlySortedBy}
use Rattle.poly_cells.specs.Coordinates.{Coordinates, IsInGrid, coordinates_cmp}
use Rattle.poly_cells.specs.Turns.{turn}
use Rattle.poly_cells.specs.Shapes.{AllInGrid, IsShape, corner, moved_back, normal, turned}
use Rattle.poly_cells.proofs.CoordinateLemmas.{coordinates_total}
use Rattle.poly_cells.proofs.SetLemmas.{in_map, in_from_map, in_order_rises, rising_map}
use Rattle.poly_cells.proofs.CornerLemmas.{least_below}
use Rattle.poly_cells.proofs.ImageLemmas.{some_from_in, in_from_some, turned_set, turned_set_some, turned_set_limits}

less_back : (k m n : ℕ) → k ≤ m → k ≤ n → nat_cmp (m - k) (n - k) ≡ nat_cmp m n
less_back k m n p q = grind (arith, nat_tests)

cmp_back : (k v w : Coordinates) → k.x ≤ v.x → k.x ≤ w.x → k.y ≤ v.y → k.y ≤ w.y → k.z ≤ v.z → k.z ≤ w.z → coordinates_cmp (moved_back k v) (moved_back k w) ≡ coordinates_cmp v w
cmp_back k v w a b c d e f =
    ap₂ ordering_then (less_back k.x v.x w.x a b) (ap₂ ordering_then (less_back k.y v.y w.y c d) (less_back k.z v.z w.z e f))

pub normal_rises : (vs : List Coordinates) → IsStrictlySortedBy coordinates_cmp vs → IsStrictlySortedBy coordinates_cmp (normal vs)
unfolding normal
normal_rises vs h =
    rising_map (moved_back (corner vs)) coordinates_cmp coordinates_cmp vs
    (λ v w i j l. cmp_back (corner vs) v w
    (least_below (λ u. u.x) vs v i) (least_below (λ u. u.x) vs w j) (least_below (λ u. u.y) vs v i) (least_below (λ u. u.y) vs w j) (least_below (λ u. u.z) vs v i) (least_below (λ u. u.z) vs w j) ∙ l)
    h

pub normal_some : (vs : List Coordinates) → 0 < length vs → 0 < length (normal vs)
unfolding normal
normal_some vs some = let one = in_from_some vs some in some_from_in (moved_back (corner vs) one.0) (map (moved_back (corner vs)) vs) (in_map (moved_back (corner vs)) one.0 vs one.1)

back_in : (k v : Coordinates) → IsInGrid v → IsInGrid (moved_back k v)
back_in k v h = record { x_in = let p = h.x_in in omega arith; y_in = let p = h.y_in in omega arith; z_in = let p = h.z_in in omega arith }

pub normal_limits : (vs : List Coordinates) → AllInGrid vs → AllInGrid (normal vs)
unfolding normal
normal_limits vs limits w i =
    let from = in_from_map (moved_back (corner vs)) w vs i in
    subst IsInGrid (sym from.2) (back_in (corner vs) from.0 (limits from.0 from.1))

pub normal_is_shape : (vs : List Coordinates) → IsShape vs → IsShape (normal vs)
normal_is_shape vs s = record { some = normal_some vs s.some; rises = normal_rises vs s.rises; limits = normal_limits vs s.limits }

pub turned_set_is_shape : (n : ℕ) (vs : List Coordinates) → 0 < length vs → AllInGrid vs → IsShape (turned_set n vs)
turned_set_is_shape n vs some limits = record {
  some = turned_set_some n vs some;
  rises = in_order_rises coordinates_total (map (turn n) vs);
  limits = turned_set_limits n vs limits;
}

pub turned_is_shape : (n : ℕ) (vs : List Coordinates) → 0 < length vs → AllInGrid vs → IsShape (turned n vs)
unfolding turned
turned_is_shape n vs some limits = normal_is_shape (turned_set n vs) (turned_set_is_shape n vs some limits)

pub turned_from_set : (n : ℕ) (vs : List Coordinates) → normal (turned_set n vs) ≡ turned n vs
unfolding turned
turned_from_set n vs = refl
