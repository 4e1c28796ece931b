-- Nodes of the way up, neighbours and levels, one by one.
use Rattle.std.proofs.Common.{ap₂, ◌≡◌, ℕ, zero, suc, ◌+◌, ◌-◌, ◌*◌, ◌^◌, ◌<◌, ◌≤◌, ◌/◌, ◌%◌, ◌==◌, List, [], ◌∷◌, ◌++◌, map, length, get_or, take, Bool, true, false, cond, not, nat_le, refl, sym, ap, subst, ◌∙◌, arith, append_assoc, le-leb}
use Rattle.std.specs.List.{position_or_len, range_with_len}
use Rattle.std.proofs.Math.Nat.{pow-suc}
use Rattle.std.proofs.lemmas.Bool.Decides.{nat_tests}
use Rattle.poly_place.specs.Packings.{neighbours, levels_for}
use Rattle.std.proofs.lemmas.Bool.{cond-true, cond-false}
use Rattle.poly_place.specs.Turns.{from_right, from_left}

one_less : (k i : ℕ) → i < k → k - i ≡ suc (k - (i + 1))
one_less k i lt = omega arith

-- one level more, whose node is added or passed over as a test says; what a way of so many levels has is a function of both
module _ (way : ℕ → ℕ → List ℕ) (test : ℕ → Bool) (step : (k n : ℕ) → way (suc k) n ≡ cond (test n) (n / 2 ∷ way k (n / 2)) (way k (n / 2))) where
  added : (f : ℕ → ℕ) (k i n : ℕ) (old new all : List ℕ) → i < k → test n ≡ true → new ≡ old ++ f (n / 2) ∷ [] → old ++ map f (way (k - i) n) ≡ all
      → new ++ map f (way (k - (i + 1)) (n / 2)) ≡ all
  added f k i n old new all lt t is so =
      ap (λ (xs : List ℕ). xs ++ map f (way (k - (i + 1)) (n / 2))) is
      ∙ append_assoc old (f (n / 2) ∷ []) (map f (way (k - (i + 1)) (n / 2)))
      ∙ ap (λ (ns : List ℕ). old ++ map f ns) (sym (ap (λ (j : ℕ). way j n) (one_less k i lt) ∙ step (k - (i + 1)) n ∙ cond-true (test n) _ _ t))
      ∙ so

  passed : (f : ℕ → ℕ) (k i n : ℕ) (old new all : List ℕ) → i < k → test n ≡ false → new ≡ old → old ++ map f (way (k - i) n) ≡ all
      → new ++ map f (way (k - (i + 1)) (n / 2)) ≡ all
  passed f k i n old new all lt t is so =
      ap (λ (xs : List ℕ). xs ++ map f (way (k - (i + 1)) (n / 2))) is
      ∙ ap (λ (ns : List ℕ). old ++ map f ns) (sym (ap (λ (j : ℕ). way j n) (one_less k i lt) ∙ step (k - (i + 1)) n ∙ cond-false (test n) _ _ t))
      ∙ so

right_step : (k n : ℕ) → from_right (suc k) n ≡ cond (n % 2 == 1) (n / 2 ∷ from_right k (n / 2)) (from_right k (n / 2))
right_step k n = refl

left_step : (k n : ℕ) → from_left (suc k) n ≡ cond (n % 2 == 0) (n / 2 ∷ from_left k (n / 2)) (from_left k (n / 2))
left_step k n = refl

pub right_added : (f : ℕ → ℕ) (k i n : ℕ) (old new all : List ℕ) → i < k → (n % 2 == 1) ≡ true → new ≡ old ++ f (n / 2) ∷ [] → old ++ map f (from_right (k - i) n) ≡ all → new ++ map f (from_right (k - (i + 1)) (n / 2)) ≡ all
right_added = added from_right (λ n. n % 2 == 1) right_step

pub right_passed : (f : ℕ → ℕ) (k i n : ℕ) (old new all : List ℕ) → i < k → (n % 2 == 1) ≡ false → new ≡ old → old ++ map f (from_right (k - i) n) ≡ all → new ++ map f (from_right (k - (i + 1)) (n / 2)) ≡ all
right_passed = passed from_right (λ n. n % 2 == 1) right_step

pub left_added : (f : ℕ → ℕ) (k i n : ℕ) (old new all : List ℕ) → i < k → (n % 2 == 0) ≡ true → new ≡ old ++ f (n / 2) ∷ [] → old ++ map f (from_left (k - i) n) ≡ all → new ++ map f (from_left (k - (i + 1)) (n / 2)) ≡ all
left_added = added from_left (λ n. n % 2 == 0) left_step

pub left_passed : (f : ℕ → ℕ) (k i n : ℕ) (old new all : List ℕ) → i < k → (n % 2 == 0) ≡ false → new ≡ old → old ++ map f (from_left (k - i) n) ≡ all → new ++ map f (from_left (k - (i + 1)) (n / 2)) ≡ all
left_passed = passed from_left (λ n. n % 2 == 0) left_step

-- ---- neighbours that are added one by one

two_more : (ns : List ℕ) (k d e : ℕ) → suc k < length ns → neighbours (take (suc (suc k)) ns) ≡ neighbours (take (suc k) ns) ++ (get_or ns k d, get_or ns (suc k) e) ∷ []
two_more [] k d e lt = absurd (omega arith)
two_more (a ∷ []) k d e lt = absurd (omega arith)
two_more (a ∷ b ∷ ns) zero d e lt = refl
two_more (a ∷ b ∷ ns) (suc k) d e lt = ap (λ (qs : List (ℕ × ℕ)). (a, b) ∷ qs) (two_more (b ∷ ns) k d e (omega arith))

pub neighbours_more : (ns : List ℕ) (i d e : ℕ) → 0 < i → i < length ns → neighbours (take (i + 1) ns) ≡ neighbours (take i ns) ++ (get_or ns (i - 1) d, get_or ns i e) ∷ []
neighbours_more ns zero d e some lt = absurd (omega arith)
neighbours_more ns (suc k) d e some lt =
    let one : suc k + 1 ≡ suc (suc k) = omega arith in
    let other : k ≡ suc k - 1 = omega arith in
    ap (λ (j : ℕ). neighbours (take j ns)) one ∙ two_more ns k d e lt ∙ ap (λ (j : ℕ). neighbours (take (suc k) ns) ++ (get_or ns j d, get_or ns (suc k) e) ∷ []) other

pub neighbours_push : (ns : List ℕ) (i a b : ℕ) (start before after : List (ℕ × ℕ)) → 0 < i → i < length ns → a ≡ get_or ns (i - 1) a → b ≡ get_or ns i b → after ≡ before ++ (a, b) ∷ []
    → before ≡ start ++ neighbours (take i ns) → after ≡ start ++ neighbours (take (i + 1) ns)
neighbours_push ns i a b start before after some lt first second push so =
    push ∙ ap (λ (qs : List (ℕ × ℕ)). qs ++ (a, b) ∷ []) so ∙ append_assoc start (neighbours (take i ns)) ((a, b) ∷ [])
    ∙ ap (λ (qs : List (ℕ × ℕ)). start ++ qs) (ap₂ (λ (x y : ℕ). neighbours (take i ns) ++ (x, y) ∷ []) first second ∙ sym (neighbours_more ns i a b some lt))

-- ---- levels that are tried one by one

-- the first level from this one on that has leaves enough
abbrev pub level_from : ℕ → ℕ → ℕ
level_from n level = level + position_or_len (λ (k : ℕ). nat_le n (2 ^ k)) (range_with_len level (12 - level))

pub level_first : (n : ℕ) → level_from n 0 ≡ levels_for n
unfolding levels_for
level_first n = none_before (position_or_len (λ (k : ℕ). nat_le n (2 ^ k)) (range_with_len 0 12))
  where
    none_before : (a : ℕ) → 0 + a ≡ a
    none_before a = omega arith

pub level_found : (n level leaves : ℕ) → level < 12 → leaves ≡ 2 ^ level → n ≤ leaves → level_from n level ≡ level
level_found n level leaves lt is le =
    let test = λ (k : ℕ). nat_le n (2 ^ k) in
    let t : test level ≡ true = le-leb n (2 ^ level) (subst (λ (m : ℕ). n ≤ m) is le) in
    ap (λ (m : ℕ). level + position_or_len test (range_with_len level m)) (one_less 12 level lt)
    ∙ ap (λ (b : Bool). level + cond (not b) (1 + position_or_len test (range_with_len (level + 1) (12 - (level + 1)))) 0) t
    ∙ none_more level
  where
    none_more : (a : ℕ) → a + 0 ≡ a
    none_more a = omega arith

pub level_passed : (n level leaves : ℕ) → level < 12 → leaves ≡ 2 ^ level → leaves < n → level_from n (level + 1) ≡ level_from n level
level_passed n level leaves lt is more =
    let test = λ (k : ℕ). nat_le n (2 ^ k) in
    let f : test level ≡ false = not_below n (2 ^ level) (subst (λ (m : ℕ). m < n) is more) in
    sym (ap (λ (m : ℕ). level + position_or_len test (range_with_len level m)) (one_less 12 level lt)
    ∙ ap (λ (b : Bool). level + cond (not b) (1 + position_or_len test (range_with_len (level + 1) (12 - (level + 1)))) 0) f
    ∙ moved_over level (position_or_len test (range_with_len (level + 1) (12 - (level + 1)))))
  where
    not_below : (a b : ℕ) → b < a → nat_le a b ≡ false
    not_below a b h = grind (arith, nat_tests)

    moved_over : (a b : ℕ) → a + (1 + b) ≡ a + 1 + b
    moved_over a b = omega arith

pub level_last : (n level : ℕ) → level ≡ 12 → level_from n level ≡ 12
level_last n level is = ap (level_from n) is

pub leaves_double : (level leaves : ℕ) → leaves ≡ 2 ^ level → leaves * 2 ≡ 2 ^ (level + 1)
leaves_double level leaves is = ap (λ (m : ℕ). m * 2) is ∙ sym (pow-suc 2 level) ∙ ap (λ (k : ℕ). 2 ^ k) (omega arith)
