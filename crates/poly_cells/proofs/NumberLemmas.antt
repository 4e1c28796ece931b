-- The numbers 0 to 47 stand for all signed permutation matrices, each of which acts as its entries say.
use Rattle.std.proofs.Common.{◌≡◌, ◌≢◌, ℕ, ◌<◌, ◌≤◌, Bool, true, false, cond, not, ◌&&◌, ◌||◌, ◌==◌, nat_lt, nat_le, ℤ, pos, ◌+ℤ◌, ◌*ℤ◌, ◌⊎◌, inl, inr, refl, sym, subst, arith, ltb-true, leb-true, eqb-true}
use Rattle.std.proofs.lemmas.Int.{ints}
use Rattle.std.proofs.lemmas.Bool.{and_parts, or_cases, eqb-false, not-true}
use Rattle.poly_cells.specs.Points.{Point, point_at}
use Rattle.poly_cells.specs.Symmetries.{pick, Matrix, IsSignedPermutation, matrix, signed, sent, row_times}
use Rattle.poly_cells.specs.Products.{matrix_number}
use Rattle.poly_cells.specs.Laws.{AreMatrices}
use Rattle.poly_cells.proofs.Tables.{all_below, all_at}
use Rattle.poly_cells.proofs.MatrixLemmas.{same_point}
use Rattle.poly_cells.proofs.SymmetryTables.{of_parts, same_matrix, same_matrices}

-- ---- each number stands for a signed permutation

abbrev is_permutation : ℕ → ℕ → ℕ → Bool
is_permutation a b c = (nat_le a 2 && (nat_le b 2 && nat_le c 2)) && (not (a == b) && (not (b == c) && not (a == c)))

differ_from : (a b : ℕ) → not (a == b) ≡ true → a ≢ b
differ_from a b h e = eqb-false a b (not-true (a == b) h) e

signed_permutation : (m : Matrix) → is_permutation m.from_x m.from_y m.from_z ≡ true → IsSignedPermutation m
signed_permutation m h =
    let halves = and_parts _ _ h in
    let first = and_parts _ _ halves.0 in
    let first' = and_parts _ _ first.1 in
    let second = and_parts _ _ halves.1 in
    let second' = and_parts _ _ second.1 in
    record {
      x_in = leb-true _ _ first.0;
      y_in = leb-true _ _ first'.0;
      z_in = leb-true _ _ first'.1;
      x_not_y = differ_from _ _ second.0;
      y_not_z = differ_from _ _ second'.0;
      x_not_z = differ_from _ _ second'.1;
    }

all_signed : all_below 48 (λ n. is_permutation (matrix n).from_x (matrix n).from_y (matrix n).from_z) ≡ true
unfolding matrix
all_signed = refl

each : (n : ℕ) → n < 48 → IsSignedPermutation (matrix n)
each n ln = signed_permutation (matrix n) (all_at 48 (λ n. is_permutation (matrix n).from_x (matrix n).from_y (matrix n).from_z) all_signed n ln)

-- ---- each signed permutation has a number

abbrev numbered : ℕ → ℕ → ℕ → Bool → Bool → Bool → Bool
numbered a b c d e f = nat_lt (matrix_number (of_parts a b c d e f)) 48 && same_matrix (matrix (matrix_number (of_parts a b c d e f))) (of_parts a b c d e f)

abbrev both : (Bool → Bool) → Bool
both p = p true && p false

at_one : (p : Bool → Bool) (b : Bool) → both p ≡ true → p b ≡ true
at_one p true h = (and_parts (p true) (p false) h).0
at_one p false h = (and_parts (p true) (p false) h).1

abbrev at_signs : ℕ → ℕ → ℕ → Bool
at_signs a b c = both (λ d. both (λ e. both (λ f. numbered a b c d e f)))

abbrev checked : ℕ → ℕ → ℕ → Bool
checked a b c = ((a == b) || ((b == c) || (a == c))) || at_signs a b c

all_checked : all_below 3 (λ a. all_below 3 (λ b. all_below 3 (λ c. checked a b c))) ≡ true
unfolding matrix
all_checked = refl

at_each : (a b c : ℕ) (d e f : Bool) → at_signs a b c ≡ true → numbered a b c d e f ≡ true
at_each a b c d e f h =
    at_one (λ f. numbered a b c d e f) f (at_one (λ e. both (λ f. numbered a b c d e f)) e (at_one (λ d. both (λ e. both (λ f. numbered a b c d e f))) d h))

no_clash : (a b c : ℕ) → a ≢ b → b ≢ c → a ≢ c → checked a b c ≡ true → at_signs a b c ≡ true
no_clash a b c p q r h =
    elim (or_cases ((a == b) || ((b == c) || (a == c))) (at_signs a b c) h) [
      | inl same ↦ elim (or_cases (a == b) ((b == c) || (a == c)) same) [
        | inl e ↦ absurd (p (eqb-true a b e))
        | inr rest ↦ elim (or_cases (b == c) (a == c) rest) [ inl e ↦ absurd (q (eqb-true b c e)) | inr e ↦ absurd (r (eqb-true a c e)) ]
      ]
      | inr signs ↦ signs
    ]

has_number : (m : Matrix) → IsSignedPermutation m → numbered m.from_x m.from_y m.from_z m.minus_x m.minus_y m.minus_z ≡ true
has_number m s =
    let x = s.x_in in
    let y = s.y_in in
    let z = s.z_in in
    let at_x = all_at 3 (λ a. all_below 3 (λ b. all_below 3 (λ c. checked a b c))) all_checked m.from_x (omega arith) in
    let at_y = all_at 3 (λ b. all_below 3 (λ c. checked m.from_x b c)) at_x m.from_y (omega arith) in
    let at_z = all_at 3 (λ c. checked m.from_x m.from_y c) at_y m.from_z (omega arith) in
    at_each _ _ _ m.minus_x m.minus_y m.minus_z (no_clash _ _ _ s.x_not_y s.y_not_z s.x_not_z at_z)

every : (m : Matrix) → IsSignedPermutation m → (n : ℕ) × (n < 48) × (matrix n ≡ m)
every m s =
    let both = and_parts _ _ (has_number m s) in
    (matrix_number m, ltb-true _ _ both.0, same_matrices _ _ both.1)

-- ---- the entries act

three : (f : ℕ) → f ≤ 2 → (f ≡ 0) ⊎ ((f ≡ 1) ⊎ (f ≡ 2))
three f h = grind arith

abbrev spread : ℕ → Bool → Point → ℤ
spread f minus v =
    cond (f == 0) (signed minus (pos 1)) (pos 0) *ℤ v.x +ℤ cond (f == 1) (signed minus (pos 1)) (pos 0) *ℤ v.y +ℤ cond (f == 2) (signed minus (pos 1)) (pos 0) *ℤ v.z

first_only : (minus : Bool) (x y z : ℤ) → signed minus x ≡ signed minus (pos 1) *ℤ x +ℤ pos 0 *ℤ y +ℤ pos 0 *ℤ z
first_only false x y z = omega (arith, ints)
first_only true x y z = omega (arith, ints)

second_only : (minus : Bool) (x y z : ℤ) → signed minus y ≡ pos 0 *ℤ x +ℤ signed minus (pos 1) *ℤ y +ℤ pos 0 *ℤ z
second_only false x y z = omega (arith, ints)
second_only true x y z = omega (arith, ints)

third_only : (minus : Bool) (x y z : ℤ) → signed minus z ≡ pos 0 *ℤ x +ℤ pos 0 *ℤ y +ℤ signed minus (pos 1) *ℤ z
third_only false x y z = omega (arith, ints)
third_only true x y z = omega (arith, ints)

row_acts : (f : ℕ) (minus : Bool) (v : Point) → f ≤ 2 → signed minus (pick f v.x v.y v.z) ≡ spread f minus v
row_acts f minus v h =
    elim (three f h) [
      | inl e ↦ subst (λ (k : ℕ). signed minus (pick k v.x v.y v.z) ≡ spread k minus v) (sym e) (first_only minus v.x v.y v.z)
      | inr other ↦ elim other [
        | inl e ↦ subst (λ (k : ℕ). signed minus (pick k v.x v.y v.z) ≡ spread k minus v) (sym e) (second_only minus v.x v.y v.z)
        | inr e ↦ subst (λ (k : ℕ). signed minus (pick k v.x v.y v.z) ≡ spread k minus v) (sym e) (third_only minus v.x v.y v.z)
      ]
    ]

acts : (m : Matrix) → IsSignedPermutation m → (v : Point) → sent m v ≡ point_at (row_times m 0 v) (row_times m 1 v) (row_times m 2 v)
acts m s v =
    same_point _ _ _ _ _ _ (row_acts m.from_x m.minus_x v s.x_in) (row_acts m.from_y m.minus_y v s.y_in) (row_acts m.from_z m.minus_z v s.z_in)

pub are_matrices : AreMatrices
are_matrices = record { each = each; every = every; acts = acts }
