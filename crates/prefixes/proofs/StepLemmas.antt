-- Lists of numbers that are compared many at a time, with a bit for each two that differ.
use Rattle.std.proofs.Common.{◌≡◌, ℕ, ◌+◌, ◌-◌, ◌*◌, ◌%◌, ◌^◌, ◌≤◌, ◌==◌, ◌⊎◌, ◌∙◌, Bool, true, false, not, cond, List, [], ◌∷◌, ◌++◌, length, map, take, drop}
use Rattle.std.proofs.Common.{refl, sym, ap, ap₂, inl, inr, arith, take-add}
use Rattle.std.proofs.lemmas.Bool.Decides.{eqb_tells}
use Rattle.std.proofs.lemmas.List.{length-drop, drop-drop, drop-take}
use Rattle.std.proofs.lemmas.Simd.{tops_compared, mask_l-mod, length-zip2}
use lib.Lanes.{mask_l, top, zip2}
use mir.Syntax.{Width}
use mir.Val.{bits, hbits}

-- where no bit is set
pub none_differ : (xs ys : List ℕ) → length xs ≡ length ys → mask_l (zip2 (λ (a b : ℕ). not (a == b)) xs ys) ≡ 0 → xs ≡ ys
none_differ [] [] l e = refl
none_differ [] (y ∷ ys) l e = absurd (omega arith)
none_differ (x ∷ xs) [] l e = absurd (omega arith)
none_differ (x ∷ xs) (y ∷ ys) l e = step (none_differ xs ys (omega arith)) (eqb_tells x y)
  where
    step : (mask_l (zip2 (λ (a b : ℕ). not (a == b)) xs ys) ≡ 0 → xs ≡ ys)
        → (((x == y) ≡ true) × (x ≡ y)) ⊎ (((x == y) ≡ false) × (x ≡ y → ⊥)) → x ∷ xs ≡ y ∷ ys
    step rest (inl t) =
        let f : cond {A = ℕ} (not (x == y)) 1 0 ≡ 0 = ap (λ c. cond {A = ℕ} (not c) 1 0) t.0 in
        ap₂ (λ (z : ℕ) (zs : List ℕ). z ∷ zs) t.1 (rest (omega (arith, e, f)))
    step rest (inr t) =
        let f : cond {A = ℕ} (not (x == y)) 1 0 ≡ 1 = ap (λ c. cond {A = ℕ} (not c) 1 0) t.0 in
        absurd (omega (arith, e, f))

-- where nothing differs
differ_none : (xs : List ℕ) → mask_l (zip2 (λ (a b : ℕ). not (a == b)) xs xs) ≡ 0
differ_none [] = refl
differ_none (x ∷ xs) = step (differ_none xs) (eqb_tells x x)
  where
    step : mask_l (zip2 (λ (a b : ℕ). not (a == b)) xs xs) ≡ 0 → (((x == x) ≡ true) × (x ≡ x)) ⊎ (((x == x) ≡ false) × (x ≡ x → ⊥))
        → mask_l (zip2 (λ (a b : ℕ). not (a == b)) (x ∷ xs) (x ∷ xs)) ≡ 0
    step rest (inl t) =
        let f : cond {A = ℕ} (not (x == x)) 1 0 ≡ 0 = ap (λ c. cond {A = ℕ} (not c) 1 0) t.0 in omega (arith, f, rest)
    step rest (inr t) = absurd (t.1 refl)

-- two steps of 64 numbers for which a comparison tells no difference
pub same_step : (w : Width) (xs ys : List ℕ) → length xs ≡ 64 → length ys ≡ 64
    → mask_l (map (top (hbits w)) (zip2 (λ (a b : ℕ). cond (not (a == b)) (2 ^ bits w - 1) 0) xs ys)) % 18446744073709551616 ≡ 0 → xs ≡ ys
same_step w xs ys l m e =
    let differ = zip2 (λ (a b : ℕ). not (a == b)) xs ys in
    let long = length-zip2 (λ (a b : ℕ). not (a == b)) xs ys (l ∙ sym m) in
    let told = ap (λ bs. mask_l bs % 18446744073709551616) (tops_compared w (λ (a b : ℕ). not (a == b)) xs ys) in
    none_differ xs ys (l ∙ sym m) (sym (mask_l-mod differ 64 (omega (arith, long, l))) ∙ sym told ∙ e)

-- and where they are the same it tells none
pub no_step_differs : (w : Width) (xs ys : List ℕ) → length xs ≡ 64 → length ys ≡ 64 → xs ≡ ys
    → mask_l (map (top (hbits w)) (zip2 (λ (a b : ℕ). cond (not (a == b)) (2 ^ bits w - 1) 0) xs ys)) % 18446744073709551616 ≡ 0
no_step_differs w xs ys l m e =
    ap (λ bs. mask_l bs % 18446744073709551616) (tops_compared w (λ (a b : ℕ). not (a == b)) xs ys)
    ∙ ap (λ (n : ℕ). n % 18446744073709551616)
    (ap (λ (zs : List ℕ). mask_l (zip2 (λ (a b : ℕ). not (a == b)) xs zs)) (sym e) ∙ differ_none xs)

-- so many first numbers are the same, and what is left then
pub record AreAlike (n : ℕ) (one other left against : List ℕ) : Type 0 where
  pub same : take n one ≡ take n other
  pub within : n ≤ length one
  pub within_other : n ≤ length other
  pub left_is : left ≡ drop n one
  pub against_is : against ≡ drop n other

-- if more were the same, so were the first ones of what is left
pub alike_behind : (n m : ℕ) (one other left against : List ℕ) → AreAlike n one other left against → take (n + m) one ≡ take (n + m) other
    → take m left ≡ take m against
alike_behind n m one other left against a e =
    ap (take m) a.left_is ∙ sym (drop-take n m one) ∙ ap (drop n) e ∙ drop-take n m other ∙ ap (take m) (sym a.against_is)

-- so many more
pub alike_more : (n m : ℕ) (one other left against rest other_rest : List ℕ) → AreAlike n one other left against → m ≤ length left
    → m ≤ length against → take m left ≡ take m against → rest ≡ drop m left → other_rest ≡ drop m against
    → AreAlike (n + m) one other rest other_rest
alike_more n m one other left against rest other_rest a p q s r t =
    let b = a.within in let c = a.within_other in
    let d = ap length a.left_is in let e = ap length a.against_is in
    let f = length-drop n one in let g = length-drop n other in
    let next : take m (drop n one) ≡ take m (drop n other) = ap (take m) (sym a.left_is) ∙ s ∙ ap (take m) a.against_is in
    record {
      same = take-add n m one ∙ (λ j. a.same j ++ next j) ∙ sym (take-add n m other);
      within = omega (arith, p, b, d, f);
      within_other = omega (arith, q, c, e, g);
      left_is = r ∙ ap (drop m) a.left_is ∙ drop-drop m n one;
      against_is = t ∙ ap (drop m) a.against_is ∙ drop-drop m n other;
    }
