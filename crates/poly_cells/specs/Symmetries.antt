-- The 48 symmetries of the cube: the signed permutation matrices over the integers, their numbers, and the rotations among them.
--
-- Example: symmetry 8 sends (x, y, z) to (x, z, y), and symmetry 9, which is rotation 4, sends it to (x, z, -y)
-- (proofs/SymmetryExamples.antt).
use Rattle.std.specs.Prelude.{◌≡◌, ◌≢◌, ℕ, ◌≤◌, ◌/◌, ◌%◌, Bool, cond, ◌==◌, List, [], ◌∷◌, slice_index, slice_index_or, ℤ, pos, neg_ℤ, ◌+ℤ◌, ◌-ℤ◌, ◌*ℤ◌}
use Rattle.std.specs.List.{filter, range_with_len}
use Rattle.std.specs.Ordering.{int_eq}
use Rattle.poly_cells.specs.Points.{Point, point_at}

-- the first, second or third of three, by its place 0, 1 or 2
abbrev pub pick : {C : Type 0} → ℕ → C → C → C → C
pick k x y z = cond (k == 0) x (cond (k == 1) y z)

-- a signed permutation matrix: the place from which each coordinate of the result is taken, and whether with a minus sign
pub record Matrix : Type 0 where
  pub from_x : ℕ
  pub from_y : ℕ
  pub from_z : ℕ
  pub minus_x : Bool
  pub minus_y : Bool
  pub minus_z : Bool

-- plus or minus c
abbrev pub signed : Bool → ℤ → ℤ
signed minus c = cond minus (neg_ℤ c) c

-- each of the three places is taken once
pub record IsSignedPermutation (m : Matrix) : Type 0 where
  pub x_in : m.from_x ≤ 2
  pub y_in : m.from_y ≤ 2
  pub z_in : m.from_z ≤ 2
  pub x_not_y : m.from_x ≢ m.from_y
  pub y_not_z : m.from_y ≢ m.from_z
  pub x_not_z : m.from_x ≢ m.from_z

-- the point to which the matrix sends v: each coordinate is plus or minus one of v's
abbrev pub sent : Matrix → Point → Point
sent m v =
    point_at (signed m.minus_x (pick m.from_x v.x v.y v.z)) (signed m.minus_y (pick m.from_y v.x v.y v.z))
    (signed m.minus_z (pick m.from_z v.x v.y v.z))

-- the permutations of three places, in the order of their numbers
abbrev pub permutations : List (List ℕ)
permutations =
    (0 ∷ 1 ∷ 2 ∷ []) ∷ (0 ∷ 2 ∷ 1 ∷ []) ∷ (1 ∷ 0 ∷ 2 ∷ []) ∷ (1 ∷ 2 ∷ 0 ∷ []) ∷ (2 ∷ 0 ∷ 1 ∷ []) ∷ (2 ∷ 1 ∷ 0 ∷ []) ∷ []

-- the permutation numbered p
abbrev pub permutation : ℕ → List ℕ
permutation p = slice_index_or permutations p []

-- the matrix numbered n: 8 times its permutation's number, and 4, 2 and 1 for the minus signs of x, y and z
unfoldable pub matrix : ℕ → Matrix
matrix n = record {
  from_x = slice_index (permutation (n / 8)) 0;
  from_y = slice_index (permutation (n / 8)) 1;
  from_z = slice_index (permutation (n / 8)) 2;
  minus_x = n / 4 % 2 == 1;
  minus_y = n / 2 % 2 == 1;
  minus_z = n % 2 == 1;
}

-- the point to which symmetry n sends v
abbrev pub sent_by : ℕ → Point → Point
sent_by n v = sent (matrix n) v

-- symmetry c is b and then a
abbrev pub IsComposed : ℕ → ℕ → ℕ → Type 0
IsComposed a b c = (v : Point) → sent_by c v ≡ sent_by a (sent_by b v)

-- the number in row k and column j of the matrix
abbrev pub entry : Matrix → ℕ → ℕ → ℤ
entry m k j =
    cond (pick k m.from_x m.from_y m.from_z == j) (signed (pick k m.minus_x m.minus_y m.minus_z) (pos 1)) (pos 0)

-- row k of the matrix times v
abbrev pub row_times : Matrix → ℕ → Point → ℤ
row_times m k v = entry m k 0 *ℤ v.x +ℤ entry m k 1 *ℤ v.y +ℤ entry m k 2 *ℤ v.z

-- the matrix's determinant, by its first row
abbrev pub determinant : Matrix → ℤ
determinant m =
    entry m 0 0 *ℤ (entry m 1 1 *ℤ entry m 2 2 -ℤ entry m 1 2 *ℤ entry m 2 1)
    -ℤ entry m 0 1 *ℤ (entry m 1 0 *ℤ entry m 2 2 -ℤ entry m 1 2 *ℤ entry m 2 0)
    +ℤ entry m 0 2 *ℤ (entry m 1 0 *ℤ entry m 2 1 -ℤ entry m 1 1 *ℤ entry m 2 0)

-- symmetry n has determinant 1
unfoldable pub is_rotation : ℕ → Bool
is_rotation n = int_eq (determinant (matrix n)) (pos 1)

-- the rotations' numbers among the symmetries, rising: rotation r is the one at place r
unfoldable pub rotations : List ℕ
rotations = filter is_rotation (range_with_len 0 48)
