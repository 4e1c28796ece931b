-- The orthogonal matrices of integers are the signed permutation matrices.
use Rattle.std.proofs.Common.{◌≡◌, ◌≢◌, ◌<◌, ◌≤◌, ℕ, zero, suc, ◌+◌, ◌*◌, ◌-◌, ◌==◌, ◌&&◌, ◌⊎◌, Bool, true, false, cond, inl, inr, refl, sym, ap, ap₂, ◌∙◌, arith, ℤ, pos, negsuc, ◌+ℤ◌, ◌*ℤ◌}
use Rattle.std.proofs.lemmas.Int.{ints}
use Rattle.std.proofs.lemmas.Bool.{and_parts}
use Rattle.std.proofs.lemmas.Bool.Decides.{Decides-int_eq}
use Rattle.std.proofs.Math.Nat.{le-mul_of_pos_right}
use Rattle.std.specs.Ordering.{int_eq}
use Rattle.poly_cells.specs.Points.{Point, point_at}
use Rattle.poly_cells.specs.Symmetries.{Matrix, IsSignedPermutation, matrix, signed, entry}
use Rattle.poly_cells.proofs.Tables.{all_below, all_at}
use Rattle.polylab_engine.specs.Matrices.{IntegerMatrix, dot, IsOrthogonal}

-- ---- the squares of integers

at_least : (k : ℕ) → 2 ≤ suc (suc k) * suc (suc k)
at_least k = let l = le-mul_of_pos_right {m = suc (suc k)} (suc (suc k)) (omega arith) in omega (arith, l)

abbrev IsUnit : ℤ → Type 0
IsUnit n = (minus : Bool) × (n ≡ signed minus (pos 1))

square : (n : ℤ) → (n ≡ pos 0) ⊎ (IsUnit n ⊎ ((k : ℕ) × (n *ℤ n ≡ pos (k + 2))))
square (pos zero) = inl refl
square (pos (suc zero)) = inr (inl (false, refl))
square (pos (suc (suc k))) = let l = at_least k in inr (inr (suc (suc k) * suc (suc k) - 2, ap pos (omega (arith, l))))
square (negsuc zero) = inr (inl (true, refl))
square (negsuc (suc k)) = let l = at_least k in inr (inr (suc (suc k) * suc (suc k) - 2, ap pos (omega (arith, l))))

unit_square : (n : ℤ) → IsUnit n → n *ℤ n ≡ pos 1
unit_square n (false, e) = ap (λ m. m *ℤ m) e
unit_square n (true, e) = ap (λ m. m *ℤ m) e

zero_square : (n : ℤ) → n ≡ pos 0 → n *ℤ n ≡ pos 0
zero_square n e = ap (λ m. m *ℤ m) e

not_less : (n : ℤ) → (k : ℕ) × (n *ℤ n ≡ pos k)
not_less n =
    elim (square n) [
      | inl e ↦ (0, zero_square n e)
      | inr other ↦ elim other [ inl u ↦ (1, unit_square n u) | inr more ↦ (more.0 + 2, more.1) ]
    ]

-- ---- a row

abbrev unit : ℕ → Bool → Point
unit f minus = point_at (cond (f == 0) (signed minus (pos 1)) (pos 0)) (cond (f == 1) (signed minus (pos 1)) (pos 0)) (cond (f == 2) (signed minus (pos 1)) (pos 0))

abbrev IsRow : Point → Type 0
IsRow u = (f : ℕ) × (minus : Bool) × (f ≤ 2) × (u ≡ unit f minus)

-- of three squares whose sum is 1 one is 1
past : (a b c : ℤ) (k i j : ℕ) → a ≡ pos (k + 2) → b ≡ pos i → c ≡ pos j → a +ℤ b +ℤ c ≡ pos 1 → ⊥
past a b c k i j p q r e = omega (arith, ints, p, q, r, e)

two_ones : (a b c : ℤ) (j : ℕ) → a ≡ pos 1 → b ≡ pos 1 → c ≡ pos j → a +ℤ b +ℤ c ≡ pos 1 → ⊥
two_ones a b c j p q r e = omega (arith, ints, p, q, r, e)

no_ones : (a b c : ℤ) → a ≡ pos 0 → b ≡ pos 0 → c ≡ pos 0 → a +ℤ b +ℤ c ≡ pos 1 → ⊥
no_ones a b c p q r e = omega (arith, ints, p, q, r, e)

first_turned : (a b c : ℤ) → a +ℤ b +ℤ c ≡ pos 1 → b +ℤ a +ℤ c ≡ pos 1
first_turned a b c e = omega (arith, ints, e)

last_turned : (a b c : ℤ) → a +ℤ b +ℤ c ≡ pos 1 → c +ℤ a +ℤ b ≡ pos 1
last_turned a b c e = omega (arith, ints, e)

abbrev sq : ℤ → ℤ
sq n = n *ℤ n

abbrev Kind : ℤ → Type 0
Kind n = (n ≡ pos 0) ⊎ (IsUnit n ⊎ ((k : ℕ) × (n *ℤ n ≡ pos (k + 2))))

module _ (u : Point) (e : dot u u ≡ pos 1) where
  whole : (x y z : ℤ) → u.x ≡ x → u.y ≡ y → u.z ≡ z → u ≡ point_at x y z
  whole x y z p q r = λ i. point_at (p i) (q i) (r i)

  by : Kind u.x → Kind u.y → Kind u.z → IsRow u
  by (inr (inr more)) y z =
      absurd (past (sq u.x) (sq u.y) (sq u.z) more.0 (not_less u.y).0 (not_less u.z).0 more.1 (not_less u.y).1 (not_less u.z).1 e)
  by x (inr (inr more)) z =
      absurd (past (sq u.y) (sq u.x) (sq u.z) more.0 (not_less u.x).0 (not_less u.z).0 more.1 (not_less u.x).1 (not_less u.z).1 (first_turned (sq u.x) (sq u.y) (sq u.z) e))
  by x y (inr (inr more)) =
      absurd (past (sq u.z) (sq u.x) (sq u.y) more.0 (not_less u.x).0 (not_less u.y).0 more.1 (not_less u.x).1 (not_less u.y).1 (last_turned (sq u.x) (sq u.y) (sq u.z) e))
  by (inl p) (inl q) (inl r) = absurd (no_ones (sq u.x) (sq u.y) (sq u.z) (zero_square u.x p) (zero_square u.y q) (zero_square u.z r) e)
  by (inr (inl p)) (inl q) (inl r) = (0, p.0, omega arith, whole (signed p.0 (pos 1)) (pos 0) (pos 0) p.1 q r)
  by (inl p) (inr (inl q)) (inl r) = (1, q.0, omega arith, whole (pos 0) (signed q.0 (pos 1)) (pos 0) p q.1 r)
  by (inl p) (inl q) (inr (inl r)) = (2, r.0, omega arith, whole (pos 0) (pos 0) (signed r.0 (pos 1)) p q r.1)
  by (inr (inl p)) (inr (inl q)) z =
      absurd (two_ones (sq u.x) (sq u.y) (sq u.z) (not_less u.z).0 (unit_square u.x p) (unit_square u.y q) (not_less u.z).1 e)
  by x (inr (inl q)) (inr (inl r)) =
      absurd (two_ones (sq u.y) (sq u.z) (sq u.x) (not_less u.x).0 (unit_square u.y q) (unit_square u.z r) (not_less u.x).1 (last_turned (sq u.z) (sq u.x) (sq u.y) (last_turned (sq u.x) (sq u.y) (sq u.z) e)))
  by (inr (inl p)) y (inr (inl r)) =
      absurd (two_ones (sq u.z) (sq u.x) (sq u.y) (not_less u.y).0 (unit_square u.z r) (unit_square u.x p) (not_less u.y).1 (last_turned (sq u.x) (sq u.y) (sq u.z) e))

  row_is : IsRow u
  row_is = by (square u.x) (square u.y) (square u.z)

-- ---- the rows of a signed permutation

abbrev row : Matrix → ℕ → Point
row m k = point_at (entry m k 0) (entry m k 1) (entry m k 2)

abbrev pub rows_of : Matrix → IntegerMatrix
rows_of m = record { first = row m 0; second = row m 1; third = row m 2 }

-- two rows with the same place aren't at right angles
not_same : (f : ℕ) (b c : Bool) → f ≤ 2 → dot (unit f b) (unit f c) ≡ pos 0 → ⊥
not_same zero false false h e = cc
not_same zero false true h e = cc
not_same zero true false h e = cc
not_same zero true true h e = cc
not_same (suc zero) false false h e = cc
not_same (suc zero) false true h e = cc
not_same (suc zero) true false h e = cc
not_same (suc zero) true true h e = cc
not_same (suc (suc zero)) false false h e = cc
not_same (suc (suc zero)) false true h e = cc
not_same (suc (suc zero)) true false h e = cc
not_same (suc (suc zero)) true true h e = cc
not_same (suc (suc (suc f))) b c h e = omega (arith, h)

differ : (u v : Point) (p : IsRow u) (q : IsRow v) → dot u v ≡ pos 0 → p.0 ≢ q.0
differ u v p q e same =
    let first : dot (unit p.0 p.1) (unit q.0 q.1) ≡ pos 0 = sym (ap₂ dot p.3 q.3) ∙ e in
    not_same p.0 p.1 q.1 p.2 (ap (λ f. dot (unit p.0 p.1) (unit f q.1)) same ∙ first)

pub to_permutation : (m : IntegerMatrix) → IsOrthogonal m → (p : Matrix) × IsSignedPermutation p × (rows_of p ≡ m)
to_permutation m o =
    let x = row_is m.first o.one in
    let y = row_is m.second o.two in
    let z = row_is m.third o.three in
    let p : Matrix = record { from_x = x.0; from_y = y.0; from_z = z.0; minus_x = x.1; minus_y = y.1; minus_z = z.1 } in (
      p,
      record {
        x_in = x.2;
        y_in = y.2;
        z_in = z.2;
        x_not_y = differ m.first m.second x y o.one_two;
        y_not_z = differ m.second m.third y z o.two_three;
        x_not_z = differ m.first m.third x z o.one_three;
      },
      (λ i. record { first = sym x.3 i; second = sym y.3 i; third = sym z.3 i }),
    )

is_orthogonal : IntegerMatrix → Bool
is_orthogonal m =
    int_eq (dot m.first m.first) (pos 1) && (int_eq (dot m.second m.second) (pos 1) && (int_eq (dot m.third m.third) (pos 1)
    && (int_eq (dot m.first m.second) (pos 0) && (int_eq (dot m.second m.third) (pos 0) && int_eq (dot m.first m.third) (pos 0)))))

orthogonal_from : (m : IntegerMatrix) → is_orthogonal m ≡ true → IsOrthogonal m
unfolding is_orthogonal
orthogonal_from m h =
    let a = and_parts _ _ h in
    let b = and_parts _ _ a.1 in
    let c = and_parts _ _ b.1 in
    let d = and_parts _ _ c.1 in
    let e = and_parts _ _ d.1 in
    record {
      one = (Decides-int_eq _ _).0 a.0;
      two = (Decides-int_eq _ _).0 b.0;
      three = (Decides-int_eq _ _).0 c.0;
      one_two = (Decides-int_eq _ _).0 d.0;
      two_three = (Decides-int_eq _ _).0 e.0;
      one_three = (Decides-int_eq _ _).0 e.1;
    }

each_is : all_below 48 (λ n. is_orthogonal (rows_of (matrix n))) ≡ true
unfolding is_orthogonal matrix
each_is = refl

pub each_orthogonal : (n : ℕ) → n < 48 → IsOrthogonal (rows_of (matrix n))
each_orthogonal n lt = orthogonal_from (rows_of (matrix n)) (all_at 48 (λ k. is_orthogonal (rows_of (matrix k))) each_is n lt)
