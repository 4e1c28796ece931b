-- A product of matrices acts as one matrix after the other, on integer points.
use Rattle.std.proofs.Common.{◌≡◌, ℕ, Bool, true, false, cond, ◌==◌, ℤ, refl, sym}
use Rattle.std.proofs.Math.IntN.{neg_ℤ-neg_ℤ}
use Rattle.poly_cells.specs.Points.{Point, point_at}
use Rattle.poly_cells.specs.Symmetries.{pick, Matrix, signed, sent}
use Rattle.poly_cells.specs.Products.{differ, from_at, minus_at, product}

-- points with equal coordinates are equal
pub same_point : (a b c d e f : ℤ) → a ≡ d → b ≡ e → c ≡ f → point_at a b c ≡ point_at d e f
same_point a b c d e f p q r = cc

signs : (s t : Bool) (c : ℤ) → signed (differ s t) c ≡ signed s (signed t c)
signs false t c = refl
signs true false c = refl
signs true true c = sym (neg_ℤ-neg_ℤ c)

row_by_tests : (first second s : Bool) (n : Matrix) (v : Point)
    → signed (differ s (cond first n.minus_x (cond second n.minus_y n.minus_z))) (pick (cond first n.from_x (cond second n.from_y n.from_z)) v.x v.y v.z)
    ≡ signed s (cond first (sent n v).x (cond second (sent n v).y (sent n v).z))
row_by_tests true second s n v = signs s n.minus_x (pick n.from_x v.x v.y v.z)
row_by_tests false true s n v = signs s n.minus_y (pick n.from_y v.x v.y v.z)
row_by_tests false false s n v = signs s n.minus_z (pick n.from_z v.x v.y v.z)

row : (f : ℕ) (s : Bool) (n : Matrix) (v : Point)
    → signed (differ s (minus_at n f)) (pick (from_at n f) v.x v.y v.z) ≡ signed s (pick f (sent n v).x (sent n v).y (sent n v).z)
row f s n v = row_by_tests (f == 0) (f == 1) s n v

pub sent_product : (m n : Matrix) (v : Point) → sent (product m n) v ≡ sent m (sent n v)
sent_product m n v =
    same_point _ _ _ _ _ _ (row m.from_x m.minus_x n v) (row m.from_y m.minus_y n v) (row m.from_z m.minus_z n v)
