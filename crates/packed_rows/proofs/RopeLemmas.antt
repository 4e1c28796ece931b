-- Bytes that are compared part by part.
use Rattle.std.proofs.Common.{◌≡◌, ◌≢◌, ◌↔◌, ◌==◌, Bool, true, false, not, bytes_eq, IsTrue, ℕ, ◌<◌, ◌≤◌, List, [], ◌∷◌, ◌++◌, length, take, drop, MatchOption, Option, Some, None, refl, sym, ap, ◌∙◌, subst, arith, length-append, append_assoc}
use Rattle.std.proofs.lemmas.Bool.Decides.{nat_tests}
use Rattle.std.specs.Cmp.Lexicographic.{bytes_decides}
use Rattle.std.proofs.lemmas.List.{append_cancel_left, take-append-le, take-append-drop}
use Rattle.std.proofs.Math.Seq.{take-append_seam}
use Rattle.std.specs.List.{flat_map}
use Rattle.packed_rows.specs.Numbers.{bytes_of, numbers_of, after_first, IsSpelled}
use Rattle.packed_rows.proofs.NumberLemmas.{none, whole_none, spelled_rest}

-- ---- tests

pub is_zero : (n : ℕ) → true ≡ (n == 0) → n ≡ 0
is_zero n e = grind (arith, nat_tests)

pub is_some : (n : ℕ) → false ≡ (n == 0) → 0 < n
is_some n e = grind (arith, nat_tests)

not_true : (b : Bool) → false ≡ not b → b ≡ true
not_true true e = refl
not_true false e = e

not_false : (b : Bool) → true ≡ not b → b ≡ false
not_false true e = e
not_false false e = refl

pub same_bytes : (xs ys : List ℕ) → false ≡ not (bytes_eq xs ys) → xs ≡ ys
same_bytes xs ys e = (bytes_decides xs ys).0 (not_true (bytes_eq xs ys) e)

pub other_bytes : (xs ys : List ℕ) → true ≡ not (bytes_eq xs ys) → xs ≢ ys
other_bytes xs ys e same = let t = (bytes_decides xs ys).1 same in let f = not_false (bytes_eq xs ys) e in cc

-- ---- parts

pub no_bytes : (xs : List ℕ) → length xs ≤ 0 → xs ≡ []
no_bytes [] l = refl
no_bytes (x ∷ xs) l = absurd (omega arith)

-- nothing left, where more is asked for
pub ends_short : (rope left rest : List ℕ) → rope ≡ [] → 0 < length left → rope ≡ left ++ rest → ⊥
ends_short rope left rest e l h = let a = ap length h in let b = ap length e in let m = length-append left rest in absurd (omega arith)

-- the rope's next part is the first of what is asked for
pub part_is : (rope left rest part new : List ℕ) → rope ≡ part ++ new → length part ≤ length left → rope ≡ left ++ rest → part ≡ take (length part) left
part_is rope left rest part new e l h =
    sym (take-append_seam part new) ∙ ap (take (length part)) (sym e ∙ h) ∙ take-append-le (length part) left rest l

-- where it is, the same is asked for behind it
pub part_left : (rope left part new : List ℕ) (n : ℕ) (rest : List ℕ) → rope ≡ part ++ new → part ≡ take n left → rope ≡ left ++ rest → new ≡ drop n left ++ rest
part_left rope left part new n rest e p h =
    append_cancel_left part new (drop n left ++ rest)
    (sym e ∙ h ∙ ap (λ xs. xs ++ rest) (sym (take-append-drop n left)) ∙ append_assoc (take n left) (drop n left) rest
    ∙ ap (λ xs. xs ++ (drop n left ++ rest)) (sym p))

pub part_back : (rope left part new : List ℕ) (n : ℕ) (rest : List ℕ) → rope ≡ part ++ new → part ≡ take n left → new ≡ drop n left ++ rest → rope ≡ left ++ rest
part_back rope left part new n rest e p h =
    e ∙ (λ j. p j ++ h j) ∙ sym (append_assoc (take n left) (drop n left) rest) ∙ ap (λ xs. xs ++ rest) (take-append-drop n left)

-- a number is taken from bytes that are spelled
pub spelled_next : (r : Option ℕ) (old new : List ℕ) → IsSpelled old
    → MatchOption r (numbers_of old ≡ []) (λ n. (numbers_of old ≡ n ∷ numbers_of new) × (new ≡ after_first old))
    → length new ≤ length old → IsSpelled new
spelled_next None old new s m l =
    let e = s ∙ ap (flat_map bytes_of) m in
    let n : length old ≡ 0 = ap length e in
    subst IsSpelled (sym (no_bytes new (omega arith))) whole_none.spelled
spelled_next (Some n) old new s m l = spelled_rest old new n s m.0 m.1

pub spelled_none : (bytes : List ℕ) → IsSpelled bytes → numbers_of bytes ≡ [] → bytes ≡ []
spelled_none bytes s e = s ∙ ap (flat_map bytes_of) e

-- no byte is at the head just where no number is left
pub no_number : (r : Bool) (bytes part new : List ℕ) → IsSpelled bytes → bytes ≡ part ++ new → (length part ≡ 0 → bytes ≡ []) → r ≡ (length part == 0)
    → IsTrue r ↔ (numbers_of bytes ≡ [])
no_number r bytes part new s e h t = (
  λ y. ap numbers_of (h (is_zero (length part) (sym y ∙ t))) ∙ none,
  λ y. let n = ap length (sym e ∙ spelled_none bytes s y) in let m = length-append part new in
      let z : length part ≡ 0 = omega arith in t ∙ zero_test (length part) z,
)
  where
    zero_test : (n : ℕ) → n ≡ 0 → (n == 0) ≡ true
    zero_test n z = grind (arith, nat_tests)
