-- A list without the zeros at its end.
use Rattle.std.proofs.Common.{◌≡◌, ℕ, zero, suc, ◌-◌, ◌<◌, ◌==◌, true, false, ◌⊎◌, inl, inr, Option, option_to_list, append-nil, length-append, List, [], ◌∷◌, ◌++◌, length, replicate, Some, None, slice_get, refl, sym, ap, ◌∙◌, arith}
use Rattle.std.proofs.lemmas.Bool.Decides.{eqb_tells}
use Rattle.x_steps.specs.Levels.{without_last_zeros, before_counts}
use Rattle.x_steps.proofs.Neighbours.{split_last_cases}

differs : (a b : ℕ) → (a ≡ b → ⊥) → (a == b) ≡ false
differs a b h = elim (eqb_tells a b) [ inl e ↦ absurd (h e.1) | inr e ↦ e.0 ]

-- a zero at the end goes
pub zero_goes : (xs : List ℕ) → without_last_zeros (xs ++ 0 ∷ []) ≡ without_last_zeros xs
unfolding without_last_zeros
zero_goes [] = refl
zero_goes (x ∷ xs) = ap (before_counts x) (zero_goes xs)

-- another number at the end stays
pub last_stays : (xs : List ℕ) (y : ℕ) → (y ≡ 0 → ⊥) → without_last_zeros (xs ++ y ∷ []) ≡ xs ++ y ∷ []
unfolding without_last_zeros
last_stays [] y h = rw (differs y 0 h) refl
last_stays (x ∷ []) y h = rw (differs y 0 h) refl
last_stays (x ∷ z ∷ xs) y h = ap (before_counts x) (last_stays (z ∷ xs) y h)

none_left : without_last_zeros [] ≡ []
unfolding without_last_zeros
none_left = refl

last_get : (ys : List ℕ) (y : ℕ) → slice_get (ys ++ y ∷ []) (length (ys ++ y ∷ []) - 1) ≡ Some y
last_get [] y = refl
last_get (x ∷ ys) y =
    let n : length ((x ∷ ys) ++ y ∷ []) - 1 ≡ suc (length (ys ++ y ∷ []) - 1) = omega (arith, length-append ys (y ∷ [])) in
    rw n (last_get ys y)

-- where the last is a zero, the list without it has the same numbers before the zeros at its end
pub zero_taken : (xs new : List ℕ) (r : Option ℕ) → slice_get xs (length xs - 1) ≡ Some 0 → xs ≡ new ++ option_to_list r → without_last_zeros new ≡ without_last_zeros xs
zero_taken xs new None h e = ap without_last_zeros (sym (append-nil new) ∙ sym e)
zero_taken xs new (Some y) h e =
    let last : Some y ≡ Some 0 = sym (last_get new y) ∙ ap (λ l. slice_get l (length l - 1)) (sym e) ∙ h in
    let zero : y ≡ 0 = cc in
    sym (ap without_last_zeros (e ∙ ap (λ z. new ++ z ∷ []) zero) ∙ zero_goes new)

-- where it is none, none is at the end
pub no_zero_left : (xs : List ℕ) → (slice_get xs (length xs - 1) ≡ Some 0 → ⊥) → without_last_zeros xs ≡ xs
no_zero_left xs h = from (split_last_cases xs) where
  from : (xs ≡ []) ⊎ ((ys : List ℕ) × (y : ℕ) × (xs ≡ ys ++ y ∷ [])) → without_last_zeros xs ≡ xs
  from (inl e) = rw e none_left
  from (inr w) =
      let stays = last_stays w.0 w.1 (λ zero. h (ap (λ l. slice_get l (length l - 1)) w.2 ∙ last_get w.0 w.1 ∙ ap Some zero)) in rw w.2 stays

-- what was cut are zeros
pub zeros_cut : (xs : List ℕ) → (n : ℕ) × (xs ≡ without_last_zeros xs ++ replicate n 0)
unfolding without_last_zeros
zeros_cut [] = (0, refl)
zeros_cut (x ∷ xs) = step (zeros_cut xs) (without_last_zeros xs) refl
  where
    step : ((n : ℕ) × (xs ≡ without_last_zeros xs ++ replicate n 0)) → (cut : List ℕ) → without_last_zeros xs ≡ cut → (n : ℕ) × (x ∷ xs ≡ before_counts x cut ++ replicate n 0)
    step ih [] e = alone (eqb_tells x 0)
      where
        rest : xs ≡ replicate ih.0 0
        rest = ih.1 ∙ ap (λ l. l ++ replicate ih.0 0) e

        alone : (((x == 0) ≡ true) × (x ≡ 0)) ⊎ (((x == 0) ≡ false) × (x ≡ 0 → ⊥)) → (n : ℕ) × (x ∷ xs ≡ before_counts x [] ++ replicate n 0)
        alone (inl h) = (suc ih.0, rw h.1 (ap (λ l. 0 ∷ l) rest))
        alone (inr h) = (ih.0, rw h.0 (ap (λ l. x ∷ l) rest))
    step ih (y ∷ ys) e = (ih.0, ap (λ l. x ∷ l) (ih.1 ∙ ap (λ l. l ++ replicate ih.0 0) e))

-- and what is left ends with a count above 0
pub last_counts : (xs ys : List ℕ) (y : ℕ) → without_last_zeros xs ≡ ys ++ y ∷ [] → 0 < y
unfolding without_last_zeros
last_counts [] ys y e = let n = ap (length {A = ℕ}) e in let m = length-append ys (y ∷ []) in absurd (omega arith)
last_counts (x ∷ xs) ys y e = step (λ zs. last_counts xs zs y) (without_last_zeros xs) refl ys e
  where
    step : ((zs : List ℕ) → without_last_zeros xs ≡ zs ++ y ∷ [] → 0 < y) → (cut : List ℕ) → without_last_zeros xs ≡ cut → (ys : List ℕ) → before_counts x cut ≡ ys ++ y ∷ [] → 0 < y
    step ih [] f ys e = alone (eqb_tells x 0) ys e
      where
        alone : (((x == 0) ≡ true) × (x ≡ 0)) ⊎ (((x == 0) ≡ false) × (x ≡ 0 → ⊥)) → (ys : List ℕ) → before_counts x [] ≡ ys ++ y ∷ [] → 0 < y
        alone (inl h) ys e = let g : [] ≡ ys ++ y ∷ [] = rw h.0 at e in let n = ap (length {A = ℕ}) g in let m = length-append ys (y ∷ []) in absurd (omega arith)
        alone (inr h) [] e = let g : x ∷ [] ≡ y ∷ [] = rw h.0 at e in let same : x ≡ y = cc in above x y same h.1
          where
            above : (x y : ℕ) → x ≡ y → (x ≡ 0 → ⊥) → 0 < y
            above zero y e h = absurd (h refl)
            above (suc x) y e h = omega arith
        alone (inr h) (z ∷ zs) e = let g : x ∷ [] ≡ z ∷ (zs ++ y ∷ []) = rw h.0 at e in let n = ap (length {A = ℕ}) g in let m = length-append zs (y ∷ []) in absurd (omega arith)
    step ih (c ∷ cs) f [] e = let n = ap (length {A = ℕ}) e in absurd (omega arith)
    step ih (c ∷ cs) f (z ∷ zs) e = ih zs (f ∙ (let g : c ∷ cs ≡ zs ++ y ∷ [] = cc in g))
