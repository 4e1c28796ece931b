-- What is computed once for all 48 symmetries: their products, inverses and numbers, and which of them are rotations.
use Rattle.std.proofs.Common.{◌≡◌, ℕ, ◌+◌, ◌-◌, ◌*◌, ◌/◌, ◌%◌, ◌<◌, Bool, true, false, not, ◌&&◌, ◌||◌, ◌==◌, nat_lt, pos, nat_abs, int_lt, refl, sym, ap, ap₂, subst, ◌∙◌, slice_index, eqb-true, ltb-true}
use Rattle.std.proofs.lemmas.Bool.{and_parts, not_from_true}
use mathlib.Core.Bool.{beq}
use Rattle.poly_cells.specs.Points.{Point, point_at}
use Rattle.poly_cells.specs.Symmetries.{Matrix, matrix, sent, sent_by, IsComposed, is_rotation, rotations, permutation}
use Rattle.poly_cells.specs.Products.{product, composed, inverse_of, matrix_number, is_odd}
use Rattle.poly_cells.proofs.Tables.{all_below, all_at, pairs}
use Rattle.poly_cells.proofs.MatrixLemmas.{sent_product}

same_bools : (a b : Bool) → beq a b ≡ true → a ≡ b
same_bools true true h = refl
same_bools true false h = cc
same_bools false true h = cc
same_bools false false h = refl

-- ---- products

abbrev pub same_matrix : Matrix → Matrix → Bool
same_matrix m n =
    ((m.from_x == n.from_x) && ((m.from_y == n.from_y) && (m.from_z == n.from_z)))
    && (beq m.minus_x n.minus_x && (beq m.minus_y n.minus_y && beq m.minus_z n.minus_z))

abbrev pub of_parts : ℕ → ℕ → ℕ → Bool → Bool → Bool → Matrix
of_parts a b c d e f = record { from_x = a; from_y = b; from_z = c; minus_x = d; minus_y = e; minus_z = f }

parts : (a b c : ℕ) (d e f : Bool) (a' b' c' : ℕ) (d' e' f' : Bool) → a ≡ a' → b ≡ b' → c ≡ c' → d ≡ d' → e ≡ e' → f ≡ f'
    → of_parts a b c d e f ≡ of_parts a' b' c' d' e' f'
parts a b c d e f a' b' c' d' e' f' p q r s t u = cc

pub same_matrices : (m n : Matrix) → same_matrix m n ≡ true → m ≡ n
same_matrices m n h =
    let halves = and_parts _ _ h in
    let froms = and_parts _ _ halves.0 in
    let froms' = and_parts _ _ froms.1 in
    let minus = and_parts _ _ halves.1 in
    let minus' = and_parts _ _ minus.1 in
    parts _ _ _ _ _ _ _ _ _ _ _ _ (eqb-true _ _ froms.0) (eqb-true _ _ froms'.0) (eqb-true _ _ froms'.1)
    (same_bools _ _ minus.0) (same_bools _ _ minus'.0) (same_bools _ _ minus'.1)

abbrev check_product : ℕ → ℕ → Bool
check_product a b = nat_lt (composed a b) 48 && same_matrix (matrix (composed a b)) (product (matrix a) (matrix b))

all_products : all_below 48 (λ a. all_below 48 (λ b. check_product a b)) ≡ true
unfolding matrix composed
all_products = refl

pub composed_in : (a b : ℕ) → a < 48 → b < 48 → composed a b < 48
composed_in a b la lb =
    ltb-true _ _ (and_parts _ _ (pairs 48 check_product all_products a b la lb)).0

pub composed_matrix : (a b : ℕ) → a < 48 → b < 48 → matrix (composed a b) ≡ product (matrix a) (matrix b)
composed_matrix a b la lb =
    same_matrices _ _ (and_parts _ _ (pairs 48 check_product all_products a b la lb)).1

pub is_composed : (a b : ℕ) → a < 48 → b < 48 → IsComposed a b (composed a b)
is_composed a b la lb v =
    ap (λ m. sent m v) (composed_matrix a b la lb) ∙ sent_product (matrix a) (matrix b) v

-- ---- the neutral symmetry and inverses

pub neutral : (v : Point) → sent_by 0 v ≡ v
unfolding matrix
neutral v = refl

abbrev check_inverse : ℕ → Bool
check_inverse a = nat_lt (inverse_of a) 48 && ((composed a (inverse_of a) == 0) && (composed (inverse_of a) a == 0))

all_inverses : all_below 48 check_inverse ≡ true
unfolding matrix composed inverse_of
all_inverses = refl

pub inverse_in : (a : ℕ) → a < 48 → inverse_of a < 48
inverse_in a la = ltb-true _ _ (and_parts _ _ (all_at 48 check_inverse all_inverses a la)).0

pub inverse_behind : (a : ℕ) → a < 48 → composed a (inverse_of a) ≡ 0
inverse_behind a la = eqb-true _ _ (and_parts _ _ (and_parts _ _ (all_at 48 check_inverse all_inverses a la)).1).0

pub inverse_before : (a : ℕ) → a < 48 → composed (inverse_of a) a ≡ 0
inverse_before a la = eqb-true _ _ (and_parts _ _ (and_parts _ _ (all_at 48 check_inverse all_inverses a la)).1).1

pub undone_behind : (a : ℕ) → a < 48 → IsComposed a (inverse_of a) 0
undone_behind a la = subst (λ c. IsComposed a (inverse_of a) c) (inverse_behind a la) (is_composed a (inverse_of a) la (inverse_in a la))

pub undone_before : (a : ℕ) → a < 48 → IsComposed (inverse_of a) a 0
undone_before a la = subst (λ c. IsComposed (inverse_of a) a c) (inverse_before a la) (is_composed (inverse_of a) a (inverse_in a la) la)

-- ---- a symmetry is known by where it sends one point

abbrev pub probe : Point
probe = point_at (pos 1) (pos 2) (pos 3)

abbrev pub number_from : Point → ℕ
number_from p = matrix_number (of_parts (nat_abs p.x - 1) (nat_abs p.y - 1) (nat_abs p.z - 1) (int_lt p.x (pos 0)) (int_lt p.y (pos 0)) (int_lt p.z (pos 0)))

all_numbers : all_below 48 (λ n. number_from (sent_by n probe) == n) ≡ true
unfolding matrix
all_numbers = refl

pub number_of_probe : (n : ℕ) → n < 48 → number_from (sent_by n probe) ≡ n
number_of_probe n ln = eqb-true _ _ (all_at 48 (λ n. number_from (sent_by n probe) == n) all_numbers n ln)

pub faithful : (a b : ℕ) → a < 48 → b < 48 → sent_by a probe ≡ sent_by b probe → a ≡ b
faithful a b la lb h = sym (number_of_probe a la) ∙ ap number_from h ∙ number_of_probe b lb

-- ---- rotations

all_closed : all_below 48 (λ a. all_below 48 (λ b. beq (is_rotation (composed a b)) (beq (is_rotation a) (is_rotation b)))) ≡ true
unfolding matrix composed is_rotation
all_closed = refl

pub rotation_composed : (a b : ℕ) → a < 48 → b < 48 → is_rotation a ≡ true → is_rotation b ≡ true → is_rotation (composed a b) ≡ true
rotation_composed a b la lb ra rb = same_bools _ _ (pairs 48 (λ a b. beq (is_rotation (composed a b)) (beq (is_rotation a) (is_rotation b))) all_closed a b la lb) ∙ ap₂ beq ra rb

all_undone : all_below 48 (λ a. beq (is_rotation (inverse_of a)) (is_rotation a)) ≡ true
unfolding matrix inverse_of is_rotation
all_undone = refl

pub rotation_inverse : (a : ℕ) → a < 48 → is_rotation a ≡ true → is_rotation (inverse_of a) ≡ true
rotation_inverse a la ra = same_bools _ _ (all_at 48 (λ a. beq (is_rotation (inverse_of a)) (is_rotation a)) all_undone a la) ∙ ra

other : (a b : Bool) → a ≡ false → (a || b) ≡ true → b ≡ true
other true b p h = cc
other false b p h = h

-- rotation n / 2 is n, where n is a rotation
all_placed : all_below 48 (λ n. not (is_rotation n) || (slice_index rotations (n / 2) == n)) ≡ true
unfolding matrix is_rotation rotations
all_placed = refl

pub rotation_at_half : (n : ℕ) → n < 48 → is_rotation n ≡ true → slice_index rotations (n / 2) ≡ n
rotation_at_half n ln r = eqb-true _ _ (other _ _ (not_from_true _ r) (all_at 48 (λ n. not (is_rotation n) || (slice_index rotations (n / 2) == n)) all_placed n ln))

-- one of each pair of numbers is a rotation
all_pairs : all_below 24 (λ r. is_rotation (2 * r) || is_rotation (2 * r + 1)) ≡ true
unfolding matrix is_rotation
all_pairs = refl

pub odd_rotation : (r : ℕ) → r < 24 → is_rotation (2 * r) ≡ false → is_rotation (2 * r + 1) ≡ true
odd_rotation r lr f = other _ _ f (all_at 24 (λ r. is_rotation (2 * r) || is_rotation (2 * r + 1)) all_pairs r lr)

-- the parity by which the code tells the rotations: of the permutation and of the minus signs
abbrev parity : Bool → Matrix → Bool
parity odd m = not (not (beq (not (beq (not (beq odd m.minus_x)) m.minus_y)) m.minus_z))

all_parities : all_below 48 (λ n. beq (parity (is_odd (n / 8)) (matrix n)) (is_rotation n)) ≡ true
unfolding matrix is_rotation
all_parities = refl

pub parity_is : (n : ℕ) (m : Matrix) (odd : Bool) → n < 48 → odd ≡ is_odd (n / 8) → m ≡ matrix n → parity odd m ≡ is_rotation n
parity_is n m odd ln e is =
    ap₂ parity e is ∙ same_bools _ _ (all_at 48 (λ n. beq (parity (is_odd (n / 8)) (matrix n)) (is_rotation n)) all_parities n ln)

-- ---- the matrix of a number, by the permutation's number

pub matrix_at : (n p : ℕ) → n / 8 ≡ p
    → of_parts (slice_index (permutation p) 0) (slice_index (permutation p) 1) (slice_index (permutation p) 2) (n / 4 % 2 == 1) (n / 2 % 2 == 1) (n % 2 == 1) ≡ matrix n
unfolding matrix
matrix_at n p e =
    ap (λ q. of_parts (slice_index (permutation q) 0) (slice_index (permutation q) 1) (slice_index (permutation q) 2) (n / 4 % 2 == 1) (n / 2 % 2 == 1) (n % 2 == 1)) (sym e)

pub matrix_from : (n m p : ℕ) (t : ℕ × ℕ × ℕ) → n ≡ m → n / 8 ≡ p → t ≡ (slice_index (permutation p) 0, slice_index (permutation p) 1, slice_index (permutation p) 2)
    → of_parts t.0 t.1 t.2 (n / 4 % 2 == 1) (n / 2 % 2 == 1) (n % 2 == 1) ≡ matrix m
matrix_from n m p t same e is =
    subst (λ (u : ℕ × ℕ × ℕ). of_parts u.0 u.1 u.2 (n / 4 % 2 == 1) (n / 2 % 2 == 1) (n % 2 == 1) ≡ matrix m) (sym is)
    (matrix_at n p e ∙ ap matrix same)
