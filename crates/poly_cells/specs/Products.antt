-- How the code computes with matrices: products, inverses and numbers. Contracts of private functions cite these words.
--
-- Example: a quarter turn about x, symmetry 9, twice is symmetry 3, and its inverse is symmetry 10
-- (proofs/SymmetryExamples.antt).
use Rattle.std.specs.Prelude.{ℕ, ◌+◌, ◌*◌, Bool, cond, not, ◌||◌, ◌==◌, nat_lt}
use Rattle.std.specs.Int.{from_bool}
use Rattle.poly_cells.specs.Symmetries.{pick, Matrix, matrix}

-- one of the two, and not both
abbrev pub differ : Bool → Bool → Bool
differ a b = cond a (not b) b

-- from which place row k takes its coordinate
abbrev pub from_at : Matrix → ℕ → ℕ
from_at m k = pick k m.from_x m.from_y m.from_z

-- whether row k has a minus sign
abbrev pub minus_at : Matrix → ℕ → Bool
minus_at m k = pick k m.minus_x m.minus_y m.minus_z

-- the matrix of n and then m
abbrev pub product : Matrix → Matrix → Matrix
product m n = record {
  from_x = from_at n m.from_x;
  from_y = from_at n m.from_y;
  from_z = from_at n m.from_z;
  minus_x = differ m.minus_x (minus_at n m.from_x);
  minus_y = differ m.minus_y (minus_at n m.from_y);
  minus_z = differ m.minus_z (minus_at n m.from_z);
}

-- the row that takes its coordinate from place j
abbrev pub row_from : Matrix → ℕ → ℕ
row_from m j = cond (m.from_x == j) 0 (cond (m.from_y == j) 1 2)

-- rows and columns exchanged, which is the inverse
abbrev pub transposed : Matrix → Matrix
transposed m = record {
  from_x = row_from m 0;
  from_y = row_from m 1;
  from_z = row_from m 2;
  minus_x = minus_at m (row_from m 0);
  minus_y = minus_at m (row_from m 1);
  minus_z = minus_at m (row_from m 2);
}

-- the number of a signed permutation matrix
abbrev pub matrix_number : Matrix → ℕ
matrix_number m =
    8 * (2 * m.from_x + from_bool (nat_lt m.from_z m.from_y)) + 4 * from_bool m.minus_x + 2 * from_bool m.minus_y + from_bool m.minus_z

-- the number of b and then a
unfoldable pub composed : ℕ → ℕ → ℕ
composed a b = matrix_number (product (matrix a) (matrix b))

-- the number of the inverse
unfoldable pub inverse_of : ℕ → ℕ
inverse_of a = matrix_number (transposed (matrix a))

-- the permutation numbered p exchanges an odd number of coordinates
abbrev pub is_odd : ℕ → Bool
is_odd p = (p == 1) || (p == 2) || (p == 5)
