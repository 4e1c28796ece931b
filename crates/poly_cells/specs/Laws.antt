-- What the laws say: the symmetries are a group, the rotations a part of it, and turned shapes are images of sets.
use Rattle.std.specs.Prelude.{◌≡◌, ℕ, ◌<◌, ◌↔◌, pos, List, length}
use Rattle.std.specs.List.Sorted.{IsStrictlyIncreasing}
use Rattle.poly_cells.specs.Coordinates.{Coordinates, IsInGrid}
use Rattle.poly_cells.specs.Points.{Point, point_at, point, translated}
use Rattle.poly_cells.specs.Symmetries.{Matrix, IsSignedPermutation, matrix, sent, sent_by, IsComposed, row_times, determinant, rotations}
use Rattle.poly_cells.specs.Turns.{turn}
use Rattle.poly_cells.specs.Sets.{IsIn}
use Rattle.poly_cells.specs.Shapes.{AllInGrid, normal, turned}
use Rattle.poly_cells.specs.Images.{IsTurned, IsNormal}

-- the 48 numbers stand for exactly the signed permutation matrices, which act on points as matrices do
pub record AreMatrices : Type 0 where
  pub each : (n : ℕ) → n < 48 → IsSignedPermutation (matrix n)
  pub every : (m : Matrix) → IsSignedPermutation m → (n : ℕ) × (n < 48) × (matrix n ≡ m)
  pub acts : (m : Matrix) → IsSignedPermutation m → (v : Point) → sent m v ≡ point_at (row_times m 0 v) (row_times m 1 v) (row_times m 2 v)

-- composition is a function, closed and associative, with the neutral element 0 and with inverses
pub record IsGroup : Type 0 where
  pub distinct : (a b : ℕ) → a < 48 → b < 48 → ((v : Point) → sent_by a v ≡ sent_by b v) → a ≡ b
  pub once : (a b c d : ℕ) → c < 48 → d < 48 → IsComposed a b c → IsComposed a b d → c ≡ d
  pub closed : (a b : ℕ) → a < 48 → b < 48 → (c : ℕ) × (c < 48) × IsComposed a b c
  pub associative : (a b c ab bc x y : ℕ) → x < 48 → y < 48 → IsComposed a b ab → IsComposed b c bc
      → IsComposed ab c x → IsComposed a bc y → x ≡ y
  pub neutral : (v : Point) → sent_by 0 v ≡ v
  pub inverse : (a : ℕ) → a < 48 → (b : ℕ) × (b < 48) × IsComposed a b 0 × IsComposed b a 0

-- the rotations are the 24 symmetries of determinant 1, and composition and inverse stay among them
pub record AreRotations : Type 0 where
  pub exactly : (n : ℕ) → IsIn n rotations ↔ ((n < 48) × (determinant (matrix n) ≡ pos 1))
  pub count : length rotations ≡ 24
  pub rises : IsStrictlyIncreasing rotations
  pub closed : (a b c : ℕ) → IsIn a rotations → IsIn b rotations → c < 48 → IsComposed a b c → IsIn c rotations
  pub inverse : (a b : ℕ) → IsIn a rotations → b < 48 → IsComposed a b 0 → IsIn b rotations

-- turning by 31 - c is the matrix and then a translation, which depends on the symmetry alone
abbrev pub AgreesWithMatrix : Type 0
AgreesWithMatrix = (n : ℕ) → (d : Point) × ((v : Coordinates) → IsInGrid v → point (turn n v) ≡ translated d (sent_by n (point v)))

-- a set of cells has one turned form and one normal form, which are its image and itself, with the least corner at 0 0 0
pub record AreImages : Type 0 where
  pub turns : (n : ℕ) (vs : List Coordinates) → 0 < length vs → AllInGrid vs → IsTurned n vs (turned n vs)
  pub settles : (vs : List Coordinates) → 0 < length vs → AllInGrid vs → IsNormal vs (normal vs)
