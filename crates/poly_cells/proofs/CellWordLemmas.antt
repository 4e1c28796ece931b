-- A cell has one word.
use Rattle.std.proofs.Common.{◌≡◌, ◌≤◌, ℕ, ◌+◌, ◌-◌, List, [], ◌∷◌, Bool, true, false, cond, ◌&&◌, nat_lt, nat_le, Option, Some, None, refl, ap, ◌∙◌, subst, arith, lt-ltb, le-leb, ltb-true, leb-true, ltb-false}
use Rattle.std.proofs.lemmas.Bool.{and_parts, and_from, cond_both}
use Rattle.std.proofs.lemmas.Bool.Decides.{nat_tests}
use Rattle.std.proofs.lemmas.Option.{same_Some, none-some}
use Rattle.poly_cells.specs.Coordinates.{Coordinates, coordinates}
use Rattle.poly_cells.specs.CellTests.{is_in_grid}
use Rattle.poly_cells.specs.CellWords.{symbol, cell_word, coordinate, cell_at, cell_of}

symbol_again : (n : ℕ) → n ≤ 31 → coordinate (symbol n) ≡ Some n
symbol_again n h = by_size (nat_lt n 10) refl
  where
    by_size : (b : Bool) → nat_lt n 10 ≡ b → coordinate (symbol n) ≡ Some n
    by_size true e =
        let l = ltb-true n 10 e in
        let a : nat_le 48 (48 + n) ≡ true = le-leb 48 (48 + n) (omega arith) in
        let b : nat_le (48 + n) 57 ≡ true = le-leb (48 + n) 57 (omega arith) in
        let m : 48 + n - 48 ≡ n = omega arith in
        rw (e, a, b, m) refl
    by_size false e =
        let l = ltb-false n 10 e in
        let a : nat_le (87 + n) 57 ≡ false = grind (arith, nat_tests) in
        let b : nat_le 97 (87 + n) ≡ true = le-leb 97 (87 + n) (omega arith) in
        let d : nat_le (87 + n) 118 ≡ true = le-leb (87 + n) 118 (omega arith) in
        let f : nat_le 48 (87 + n) ≡ true = le-leb 48 (87 + n) (omega arith) in
        let m : 87 + n - 87 ≡ n = omega arith in
        rw (e, f, a, b, d, m) refl

-- what is found for b is the coordinate that it stands for
abbrev IsSymbol : ℕ → ℕ → Option ℕ → Type 0
IsSymbol b n found = found ≡ Some n → (n ≤ 31) × (b ≡ symbol n)

symbol_is : (b n : ℕ) → coordinate b ≡ Some n → (n ≤ 31) × (b ≡ symbol n)
symbol_is b n h = cond_both (nat_le 48 b && nat_le b 57) (Some (b - 48)) (cond (nat_le 97 b && nat_le b 118) (Some (b - 87)) None) (IsSymbol b n) digit (λ _. cond_both (nat_le 97 b && nat_le b 118) (Some (b - 87)) None (IsSymbol b n) letter (λ _ e. absurd (none-some n e))) h
  where
    digit : (nat_le 48 b && nat_le b 57) ≡ true → IsSymbol b n (Some (b - 48))
    digit t e =
        let p = and_parts (nat_le 48 b) (nat_le b 57) t in
        let x = leb-true 48 b p.0 in
        let y = leb-true b 57 p.1 in
        let m : b - 48 ≡ n = same_Some (b - 48) n e in
        let f : nat_lt n 10 ≡ true = lt-ltb n 10 (omega arith) in
        (omega arith, rw f (omega arith))

    letter : (nat_le 97 b && nat_le b 118) ≡ true → IsSymbol b n (Some (b - 87))
    letter t e =
        let p = and_parts (nat_le 97 b) (nat_le b 118) t in
        let x = leb-true 97 b p.0 in
        let y = leb-true b 118 p.1 in
        let m : b - 87 ≡ n = same_Some (b - 87) n e in
        let f : nat_lt n 10 ≡ false = grind (arith, nat_tests) in
        (omega arith, rw f (omega arith))

pub cell_again : (c : Coordinates) → is_in_grid c ≡ true → cell_of (cell_word c) ≡ Some c
cell_again c h =
    let p = and_parts (nat_le c.x 31) (nat_le c.y 31 && nat_le c.z 31) h in
    let q = and_parts (nat_le c.y 31) (nat_le c.z 31) p.1 in
    rw (symbol_again c.x (leb-true c.x 31 p.0), symbol_again c.y (leb-true c.y 31 q.0), symbol_again c.z (leb-true c.z 31 q.1)) refl

three_symbols : (x y z : ℕ) (c : Coordinates) (a b d : Option ℕ) → coordinate x ≡ a → coordinate y ≡ b → coordinate z ≡ d → cell_at a b d ≡ Some c → (is_in_grid c ≡ true) × (x ∷ y ∷ z ∷ [] ≡ cell_word c)
three_symbols x y z c None b d e f g h = absurd (none-some c h)
three_symbols x y z c (Some i) None d e f g h = absurd (none-some c h)
three_symbols x y z c (Some i) (Some j) None e f g h = absurd (none-some c h)
three_symbols x y z c (Some i) (Some j) (Some k) e f g h =
    let p = symbol_is x i e in
    let q = symbol_is y j f in
    let r = symbol_is z k g in
    let m : coordinates i j k ≡ c = same_Some (coordinates i j k) c h in
    let is : is_in_grid (coordinates i j k) ≡ true = and_from _ _ (le-leb i 31 p.0) (and_from _ _ (le-leb j 31 q.0) (le-leb k 31 r.0)) in
    let w : x ∷ y ∷ z ∷ [] ≡ cell_word (coordinates i j k) = rw (p.1, q.1, r.1) refl in
    (subst (λ v. is_in_grid v ≡ true) m is, w ∙ ap cell_word m)

pub cell_is : (word : List ℕ) (c : Coordinates) → cell_of word ≡ Some c → (is_in_grid c ≡ true) × (word ≡ cell_word c)
cell_is [] c h = absurd (none-some c h)
cell_is (x ∷ []) c h = absurd (none-some c h)
cell_is (x ∷ y ∷ []) c h = absurd (none-some c h)
cell_is (x ∷ y ∷ z ∷ []) c h = three_symbols x y z c (coordinate x) (coordinate y) (coordinate z) refl refl refl h
cell_is (x ∷ y ∷ z ∷ w ∷ ws) c h = absurd (none-some c h)
