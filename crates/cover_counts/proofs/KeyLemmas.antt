-- Keys of sets of covered items.
use Rattle.std.proofs.Common.{◌≡◌, ℕ, suc, ◌+◌, ◌-◌, ◌<◌, ◌≤◌, ◌==◌, ◌⊎◌, ◌||◌, true, false, All, List, [], ◌∷◌, ◌++◌, length, Option, Some, None, Result, Ok, Err, IfOk, IfSome, refl, sym, ap, ap₂, ◌∙◌, inl, inr, arith, Bool}
use Rattle.std.specs.Global.{Vec}
use Rattle.std.specs.Result.{result_ok}
use Rattle.std.specs.List.{list_any}
use Rattle.std.proofs.lemmas.Bool.{cases_Bool, cases_eq, eq-eqb, ne_eqb, both_ways, false_from_ne_true}
use Rattle.shared_words.specs.Lists.{has}
use Rattle.cover_problem.specs.Problem.{ProblemValue, option_at}
use Rattle.cover_problem.specs.Covering.{choice}
use Rattle.cover_problem.specs.Path.{others, taken, IsChoice}
use Rattle.cover_problem.proofs.MemberLemmas.{has-append, has_cases}
use Rattle.cover_problem.proofs.PathLemmas.{choice_has, others_in, others_has}
use Rattle.cover_bits.specs.Parts.{in_row}
use Rattle.kept_counts.specs.Below.{CoverTheSameOf}
use Rattle.cover_counts.specs.Keys.{IsKeyOf}

-- the bit k is set if the item k + 1 is in the list
pub bits_are : (n k : ℕ) (c : List ℕ) → All (λ i. (0 < i) × (i ≤ n)) c → list_any (λ i. k == i - 1) c ≡ has c (k + 1)
bits_are n k [] a = refl
bits_are n k (i ∷ c) a = ap₂ (λ (x y : Bool). x || y) (step (a 0 0 (omega arith)).0 (cases_eq k (i - 1))) (bits_are n k c (λ j d l. a (suc j) d (omega (arith, l))))
  where
    step : 0 < i → (k ≡ i - 1) ⊎ (k ≡ i - 1 → ⊥) → (k == i - 1) ≡ (i == k + 1)
    step some (inl e) = eq-eqb k (i - 1) e ∙ sym (eq-eqb i (k + 1) (omega (arith, e, some)))
    step some (inr d) = ne_eqb k (i - 1) d ∙ sym (ne_eqb i (k + 1) (λ e. d (omega (arith, e))))

-- the bits of more items were set
pub key_more : (n : ℕ) (c more old new : List ℕ) → All (λ i. (0 < i) × (i ≤ n)) more → IsKeyOf n c old → length new ≡ length old
    → ((k : ℕ) → in_row new k ≡ (in_row old k || list_any (λ i. k == i - 1) more)) → IsKeyOf n (c ++ more) new
key_more n c more old new a key e each = record {
  long = e ∙ key.long;
  bits = λ k l. each k ∙ ap₂ (λ (x y : Bool). x || y) (key.bits k l) (bits_are n k more a) ∙ sym (has-append c more (k + 1));
}

-- an item and the others of its option are the option's
others_are : (i : ℕ) (option : List ℕ) (x : ℕ) → has option i ≡ true → has (i ∷ others i option) x ≡ has option x
others_are i option x h = step (cases_Bool (has option x))
  where
    back : (i ≡ x) ⊎ (has (others i option) x ≡ true) → has option x ≡ true
    back (inl e) = rw e at h
    back (inr m) = others_in i option x h m

    step : (has option x ≡ true) ⊎ (has option x ≡ false) → has (i ∷ others i option) x ≡ has option x
    step (inl m) = others_has i option x m h ∙ sym m
    step (inr n) = false_from_ne_true (has (i ∷ others i option) x) (λ m. both_ways (has option x) n (back (has_cases i (others i option) x m))) ∙ sym n

-- the key of a set with the items of an option is that of the set below the option
key_taken : (p : ProblemValue) (c : List ℕ) (o n : ℕ) (key : List ℕ) → IsChoice p c o → IsKeyOf n (c ++ option_at p o) key → IsKeyOf n (taken p c o) key
unfolding taken
key_taken p c o n key is k = record {
  long = k.long;
  bits = λ j l.
      k.bits j l ∙ has-append c (option_at p o) (j + 1) ∙ ap (λ (b : Bool). has c (j + 1) || b) (sym (others_are (choice p c) (option_at p o) (j + 1) (choice_has p c o is).item))
      ∙ sym (has-append c (choice p c ∷ others (choice p c) (option_at p o)) (j + 1));
}

-- a key that was made is one
pub ok_key : {E : Type 0} (n : ℕ) (c : List ℕ) (r : Result (Vec ℕ) E) → IfOk r (λ k. IsKeyOf n c k.items) → IfSome (result_ok r) (λ k. IsKeyOf n c k.items)
ok_key n c (Ok key) k = k
ok_key n c (Err e) k = tt

-- the key that was made for the items of an option is that of the set below the option
pub option_key : (p : ProblemValue) (c option : List ℕ) (o n : ℕ) (old new : Option (Vec ℕ)) → IsChoice p c o → n ≡ length p.names → option ≡ option_at p o → IfSome old (λ k. IsKeyOf (length p.names) c k.items)
    → (IfSome old (λ k. IsKeyOf n c k.items) → IfSome new (λ k. IsKeyOf n (c ++ option) k.items)) → IfSome new (λ k. IsKeyOf (length p.names) (taken p c o) k.items)
option_key p c option o n old new is e f k made = below new (rw (e, f) at (made (rw e k)))
  where
    below : (new : Option (Vec ℕ)) → IfSome new (λ k. IsKeyOf (length p.names) (c ++ option_at p o) k.items) → IfSome new (λ k. IsKeyOf (length p.names) (taken p c o) k.items)
    below None h = tt
    below (Some key) h = key_taken p c o (length p.names) key.items is h

-- lists with one key cover the same items
pub same_key : (n : ℕ) (c d key : List ℕ) → IsKeyOf n c key → IsKeyOf n d key → CoverTheSameOf n c d
same_key n c d key a b i some within =
    let e : (i - 1) + 1 ≡ i = omega (arith, some) in
    ap (has c) (sym e) ∙ sym (a.bits (i - 1) (omega (arith, some, within))) ∙ b.bits (i - 1) (omega (arith, some, within)) ∙ ap (has d) e
