-- What an exact cover is: a set of options, with no search in the definition.
-- TAOCP volume 4B, section 7.2.2.1.
--
-- Example: the options 1, 4 and 5 of the small problem (c e, a d f, b g) are its exact cover.
-- proofs/CoverExamples.antt computes it.
use Rattle.std.specs.Prelude.{ℕ, ◌<◌, ◌≤◌, ◌≡◌, Bool, true, length}
use Rattle.shared_words.specs.Lists.{has}
use Rattle.cover_problem.specs.Problem.{ProblemValue, option_at}

-- A set of options, given as a test on their numbers: each primary item is in exactly one of them, each other item in at
-- most one, and each of them has a primary item.
pub record IsExactCover (p : ProblemValue) (set : ℕ → Bool) : Type 0 where
  pub options : (o : ℕ) → set o ≡ true → (0 < o) × (o ≤ length p.options)
  pub covers : (i : ℕ) → 0 < i → i ≤ p.primary → (o : ℕ) × (set o ≡ true) × (has (option_at p o) i ≡ true)
  pub once : (i a b : ℕ) → set a ≡ true → set b ≡ true → has (option_at p a) i ≡ true → has (option_at p b) i ≡ true → a ≡ b
  pub useful : (o : ℕ) → set o ≡ true → (i : ℕ) × (0 < i) × (i ≤ p.primary) × (has (option_at p o) i ≡ true)
