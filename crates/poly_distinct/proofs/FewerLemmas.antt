-- A problem with some of its options alone is a problem.
use Rattle.std.proofs.Common.{◌≡◌, ℕ, suc, ◌+◌, ◌-◌, ◌<◌, ◌≤◌, nat_le, ◌&&◌, true, List, [], ◌∷◌, map, length, get_or, sum_by, ◌⊎◌, inl, inr, refl, ap, ap₂, subst, ◌∙◌, arith, leb-true, le-leb}
use Rattle.std.specs.List.{list_all}
use Rattle.std.proofs.lemmas.Bool.{and_parts, and_from}
use Rattle.std.proofs.lemmas.List.{length-map}
use Rattle.std.proofs.lemmas.List.Sums.{sum_by-cons}
use Rattle.std.specs.Prelude.{Ok}
use Rattle.cover_problem.specs.Validation.{problem_from}
use Rattle.shared_words.specs.Lists.{RisesFrom}
use Rattle.cover_problem.proofs.ProblemLemmas.{made_again}
use Rattle.cover_problem.specs.Problem.{ProblemValue, IsProblem, option_at, is_option}
use Rattle.poly_distinct.specs.Fewer.{with_options, AreNumbersTo}
use Rattle.cover_problem.proofs.HolderLemmas.{option_here}
use Rattle.cover_problem.proofs.NumberLemmas.{rises_weaker}

-- rising numbers that end before n are at most n less what they begin with
few_rising : (m n : ℕ) (kept : List ℕ) → RisesFrom m kept → ((k : ℕ) → k < length kept → get_or kept k 0 < n) → m ≤ n → length kept + m ≤ n
few_rising m n [] r h le = omega (arith, le)
few_rising m n (x ∷ xs) r h le =
    let here = h 0 (omega arith) in
    let rest = few_rising (suc x) n xs r.1 (λ k lt. h (suc k) (omega (arith, lt))) (omega (arith, here)) in
    let low = r.0 in
    omega (arith, rest, low)

cases_at : (m o : ℕ) → m ≤ o → (o ≡ m) ⊎ (suc m ≤ o)
cases_at m o h = grind arith

-- numbers past the first option
past_first : (x : List ℕ) (xs : List (List ℕ)) (m : ℕ) (os : List ℕ) → RisesFrom (suc m) os → map (λ o. get_or (x ∷ xs) (o - m) []) os ≡ map (λ o. get_or xs (o - suc m) []) os
past_first x xs m [] r = refl
past_first x xs m (o ∷ os) r =
    let low = r.0 in
    ap₂ (λ (y : List ℕ) (ys : List (List ℕ)). y ∷ ys)
    (ap (λ (k : ℕ). get_or (x ∷ xs) k []) (let e : o - m ≡ suc (o - suc m) = omega (arith, low) in e))
    (past_first x xs m os (rises_weaker (suc m) (suc o) os (omega (arith, low)) r.1))

-- together they have no more than all have
sum_rising : (xs : List (List ℕ)) (m : ℕ) (kept : List ℕ) → RisesFrom m kept → ((k : ℕ) → k < length kept → get_or kept k 0 < m + length xs)
    → sum_by length (map (λ o. get_or xs (o - m) []) kept) ≤ sum_by length xs
sum_rising xs m [] r h = omega arith
sum_rising [] m (o ∷ os) r h = let a = h 0 (omega arith) in let b = r.0 in absurd (omega (arith, a, b))
sum_rising (x ∷ xs) m (o ∷ os) r h =
    let whole = sum_by-cons (λ (ys : List ℕ). length ys) x xs in
    elim (cases_at m o r.0) [
      | inl e ↦
          let rises = subst (λ (k : ℕ). RisesFrom (suc k) os) e r.1 in
          let rest = sum_rising xs (suc m) os rises (λ k lt. let b = h (suc k) (omega (arith, lt)) in omega (arith, b)) in
          let one = sum_by-cons (λ (ys : List ℕ). length ys) (get_or (x ∷ xs) (o - m) []) (map (λ o. get_or (x ∷ xs) (o - m) []) os) in
          let first = ap (λ (k : ℕ). length (get_or (x ∷ xs) k [])) (let g : o - m ≡ 0 = omega (arith, e) in g) in
          let others = ap (λ (ys : List (List ℕ)). sum_by length ys) (past_first x xs m os rises) in
          omega (arith, whole, one, first, others, rest)
      | inr past ↦
          let rises : RisesFrom (suc m) (o ∷ os) = (past, r.1) in
          let rest = sum_rising xs (suc m) (o ∷ os) rises (λ k lt. let b = h k lt in omega (arith, b)) in
          let same = ap (λ (ys : List (List ℕ)). sum_by length ys) (past_first x xs m (o ∷ os) rises) in
          omega (arith, whole, same, rest)
    ]

all_options : (p : ProblemValue) → IsProblem p → (kept : List ℕ) → ((k : ℕ) → k < length kept → (0 < get_or kept k 0) × (get_or kept k 0 ≤ length p.options))
    → list_all (is_option (length p.names)) (map (option_at p) kept) ≡ true
all_options p sound [] h = refl
all_options p sound (o ∷ os) h =
    let one = h 0 (omega arith) in
    let a = one.0 in
    let b = one.1 in
    and_from _ _ (option_here p sound o (omega (arith, a)) (omega (arith, b))) (all_options p sound os (λ k lt. h (suc k) (omega (arith, lt))))

-- it is a problem
pub fewer_is_problem : (p : ProblemValue) (kept : List ℕ) → IsProblem p → AreNumbersTo (length p.options) kept → RisesFrom 1 kept → IsProblem (with_options p kept)
fewer_is_problem p kept sound h r = record {
  some = sound.some;
  within = sound.within;
  named = sound.named;
  new = sound.new;
  options_are = all_options p sound kept h;
  small =
      let a = and_parts (nat_le (length p.names) 65535 && nat_le (length p.options) 262143) (nat_le (length p.names + sum_by length p.options + length p.options + 2) 8388608) sound.small in
      let b = and_parts (nat_le (length p.names) 65535) (nat_le (length p.options) 262143) a.0 in
      let few = few_rising 1 (length p.options + 1) kept r (λ k lt. let c = (h k lt).1 in omega (arith, c)) (omega arith) in
      let sum = sum_rising p.options 1 kept r (λ k lt. let c = (h k lt).1 in omega (arith, c)) in
      let long = length-map kept (option_at p) in
      let most = leb-true (length p.options) 262143 b.1 in
      let entries = leb-true (length p.names + sum_by length p.options + length p.options + 2) 8388608 a.1 in
      and_from _ _ (and_from _ _ b.0 (le-leb (length (map (option_at p) kept)) 262143 (omega (arith, few, long, most))))
      (le-leb (length p.names + sum_by length (map (option_at p) kept) + length (map (option_at p) kept) + 2) 8388608 (omega (arith, few, sum, long, entries)));
}

-- and its parts make it
pub fewer_made : (p : ProblemValue) (kept : List ℕ) → IsProblem p → AreNumbersTo (length p.options) kept → RisesFrom 1 kept
    → (names : List (List ℕ)) (primary : ℕ) (options : List (List ℕ)) → names ≡ p.names → primary ≡ p.primary → options ≡ map (option_at p) kept
    → problem_from names primary options ≡ Ok (with_options p kept)
fewer_made p kept sound h r names primary options n m o =
    ap₂ (λ (xs : List (List ℕ)) (k : ℕ). problem_from xs k options) n m ∙ ap (problem_from p.names p.primary) o
    ∙ made_again (with_options p kept) (fewer_is_problem p kept sound h r)
