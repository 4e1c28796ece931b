-- What the search adds below a path.
use Rattle.std.proofs.Common.{Result, Ok, Err, OnOk, ◌*◌, ◌^◌, arith, ◌≡◌, ◌<◌, ℕ, zero, suc, ◌+◌, List, [], length, sum_by, refl, sym, ap, ◌∙◌}
use Rattle.cover_problem.specs.Problem.{ProblemValue}
use Rattle.cover_problem.specs.Covering.{active, remaining, choice}
use Rattle.cover_problem.specs.Path.{taken}
use Rattle.kept_counts.specs.Below.{tried_options, states_below, visits_below}
use Rattle.kept_counts.proofs.BelowLemmas.{choices_none, choices_some, visits_none, visits_some}
use Rattle.cover_counts.specs.declared.below.Below.{Below}
use Rattle.cover_counts.specs.Levels.{level, lower, at_first, count_at, AddsLower}
use Rattle.cover_counts.specs.Below.{states_at, Gains, GainsAt, CountsBelow}

pub same_lower : (n : ℕ) (f g : ℕ → ℕ) → ((k : ℕ) → f k ≡ g k) → (k : ℕ) → lower n f k ≡ lower n g k
same_lower zero f g e k = e k
same_lower (suc n) f g e zero = refl
same_lower (suc n) f g e (suc k) = same_lower n f g e k

-- if no choice is left, one X2 state lies below and nothing else
alone : (p : ProblemValue) (c : List ℕ) → tried_options p c ≡ [] → (k : ℕ) → at_first k ≡ states_below p k c
alone p c e zero = refl
alone p c e (suc k) = sym (ap (sum_by (λ o. states_below p k (taken p c o))) e)

same_gains : (old new : Below) (v w : ℕ) (f g : ℕ → ℕ) → Gains old new v f → v ≡ w → ((k : ℕ) → f k ≡ g k) → Gains old new w g
same_gains old new v w f g a e same = record {
  visited = a.visited ∙ ap (λ n. old.visits + n) e;
  at = λ k. a.at k ∙ ap (λ n. states_at old k + n) (same_lower 1 f g same k);
}

-- what a visit adds
pub visit_gains : (p : ProblemValue) (c : List ℕ) (old new : Below) → length (active p c) ≡ 0 → Gains old new 1 at_first → Gains old new (visits_below p c) (λ k. states_below p k c)
visit_gains p c old new e a = same_gains old new 1 (visits_below p c) at_first (λ k. states_below p k c) a (sym (visits_none p c e)) (alone p c (choices_none p c e))

-- what a dead end adds
pub end_gains : (p : ProblemValue) (c : List ℕ) (old new : Below) → 0 < length (active p c) → remaining p c (choice p c) ≡ [] → Gains old new 0 at_first → Gains old new (visits_below p c) (λ k. states_below p k c)
end_gains p c old new l e a =
    let none : tried_options p c ≡ [] = choices_some p c l ∙ e in
    same_gains old new 0 (visits_below p c) at_first (λ k. states_below p k c) a (sym (visits_some p c l ∙ ap (sum_by (λ o. visits_below p (taken p c o))) none)) (alone p c none)

-- what known counts add
pub known_gains : (p : ProblemValue) (c : List ℕ) (old new b : Below) → CountsBelow p c b → Gains old new b.visits (states_at b) → Gains old new (visits_below p c) (λ k. states_below p k c)
known_gains p c old new b k a = same_gains old new b.visits (visits_below p c) (states_at b) (λ k. states_below p k c) a k.visited k.at

-- the parts below 2^64 and those above are added apart
lower_parts : (n : ℕ) (f g : ℕ → ℕ) (k : ℕ) → lower n (λ j. f j + 2 ^ 64 * g j) k ≡ lower n f k + 2 ^ 64 * lower n g k
lower_parts zero f g k = refl
lower_parts (suc n) f g zero = omega arith
lower_parts (suc n) f g (suc k) = lower_parts n f g k

pub gains_ok : {X E : Type 0} (n : ℕ) (old new b : Below) (longer between : List ℕ) (r : Result X E) → new.visits ≡ old.visits + b.visits → ((k : ℕ) → level longer k ≡ level old.low.items k)
    → AddsLower n (count_at longer old.high.items) (count_at new.low.items between) (level b.low.items) → OnOk r (AddsLower n (level between) (level new.high.items) (level b.high.items)) → OnOk r (GainsAt n old new b.visits (states_at b))
gains_ok n old new b longer between (Err x) v same low high = tt
gains_ok n old new b longer between (Ok x) v same low high = record {
  visited = v;
  at = λ k.
      let a = same k in
      let l = low k in
      let h = high k in
      let p = lower_parts n (level b.low.items) (level b.high.items) k in
      omega (arith, a, l, h, p);
}
