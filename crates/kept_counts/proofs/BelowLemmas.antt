-- The visits below are those below the choices, and more levels than there are active items tell no more.
use Rattle.std.proofs.Common.{◌≡◌, ℕ, zero, suc, ◌<◌, ◌≤◌, ◌⊎◌, true, List, [], length, sum_by, refl, sym, ◌∙◌, inl, inr, arith, le_refl}
use Rattle.std.proofs.lemmas.Bool.{cases_lt, lt-ltb, le-ltb}
use Rattle.shared_words.specs.Lists.{has}
use Rattle.cover_problem.specs.Problem.{ProblemValue}
use Rattle.cover_problem.specs.Covering.{active, remaining, choice}
use Rattle.cover_problem.specs.Path.{taken, IsChoice}
use Rattle.cover_problem.proofs.PathLemmas.{choice_falls}
use Rattle.kept_counts.specs.Below.{tried_options, visits_within, visits_below}
use Rattle.kept_counts.proofs.SumLemmas.{sum_on}

module _ (p : ProblemValue) where
  pub choices_none : (c : List ℕ) → length (active p c) ≡ 0 → tried_options p c ≡ []
  unfolding tried_options
  choices_none c e = rw (le-ltb 0 (length (active p c)) (omega (arith, e))) refl

  pub choices_some : (c : List ℕ) → 0 < length (active p c) → tried_options p c ≡ remaining p c (choice p c)
  unfolding tried_options
  choices_some c l = rw (lt-ltb 0 (length (active p c)) l) refl

  pub choices_are : (c : List ℕ) (o : ℕ) → 0 < length (active p c) → has (tried_options p c) o ≡ true → IsChoice p c o
  choices_are c o l h = record { active = l; left = rw (choices_some c l) at h }

  pub within_none : (n : ℕ) (c : List ℕ) → length (active p c) ≡ 0 → visits_within p n c ≡ 1
  within_none zero c e = refl
  within_none (suc n) c e = rw (le-ltb 0 (length (active p c)) (omega (arith, e))) refl

  pub within_some : (n : ℕ) (c : List ℕ) → 0 < length (active p c) → visits_within p (suc n) c ≡ sum_by (λ o. visits_within p n (taken p c o)) (tried_options p c)
  within_some n c l = rw (lt-ltb 0 (length (active p c)) l) refl

  -- enough levels
  pub within_enough : (m n : ℕ) (c : List ℕ) → length (active p c) ≤ m → length (active p c) ≤ n → visits_within p m c ≡ visits_within p n c
  within_enough zero n c a b = sym (within_none n c (omega (arith, a)))
  within_enough (suc m) zero c a b = within_none (suc m) c (omega (arith, b))
  within_enough (suc m) (suc n) c a b = step (cases_lt 0 (length (active p c))) (within_enough m n)
    where
      step : (0 < length (active p c)) ⊎ (length (active p c) ≤ 0) → ((d : List ℕ) → length (active p d) ≤ m → length (active p d) ≤ n → visits_within p m d ≡ visits_within p n d) → visits_within p (suc m) c ≡ visits_within p (suc n) c
      step (inr z) ih = within_none (suc m) c (omega (arith, z)) ∙ sym (within_none (suc n) c (omega (arith, z)))
      step (inl l) ih =
          within_some m c l
          ∙ sum_on (λ o. visits_within p m (taken p c o)) (λ o. visits_within p n (taken p c o)) (tried_options p c)
          (λ o h. let f = choice_falls p c o (choices_are c o l h) in ih (taken p c o) (omega (arith, f, a)) (omega (arith, f, b)))
          ∙ sym (within_some n c l)

  pub visits_enough : (n : ℕ) (c : List ℕ) → length (active p c) ≤ n → visits_within p n c ≡ visits_below p c
  unfolding visits_below
  visits_enough n c l = within_enough n (length (active p c)) c l (le_refl (length (active p c)))

  pub visits_none : (c : List ℕ) → length (active p c) ≡ 0 → visits_below p c ≡ 1
  unfolding visits_below
  visits_none c e = within_none (length (active p c)) c e

  pub visits_some : (c : List ℕ) → 0 < length (active p c) → visits_below p c ≡ sum_by (λ o. visits_below p (taken p c o)) (tried_options p c)
  visits_some c l =
      sym (visits_enough (suc (length (active p c))) c (omega arith)) ∙ within_some (length (active p c)) c l
      ∙ sum_on (λ o. visits_within p (length (active p c)) (taken p c o)) (λ o. visits_below p (taken p c o)) (tried_options p c)
      (λ o h. let f = choice_falls p c o (choices_are c o l h) in visits_enough (length (active p c)) (taken p c o) (omega (arith, f)))
