-- Path order, and how far two paths are the same (`IsShared`).
--
-- Example: the paths 2 3 and 2 share one choice (computed in proofs/StepExamples.antt).
use Rattle.std.specs.Prelude.{ℕ, ◌<◌, ◌≤◌, ◌≡◌, ◌≢◌, ◌⊎◌, List, [], ◌∷◌, length, take, slice_index_or}

-- one of the paths
abbrev pub IsIn : List ℕ → List (List ℕ) → Type 0
IsIn q [] = ⊥
IsIn q (x ∷ xs) = (q ≡ x) ⊎ IsIn q xs

-- by the first difference of option numbers; a beginning comes first
abbrev pub PathLess : List ℕ → List ℕ → Type 0
PathLess q [] = ⊥
PathLess [] (y ∷ r) = Unit {0}
PathLess (x ∷ q) (y ∷ r) = (x < y) ⊎ ((x ≡ y) × PathLess q r)

-- path q comes before each of these paths
abbrev pub AllAfter : List ℕ → List (List ℕ) → Type 0
AllAfter q [] = Unit {0}
AllAfter q (x ∷ xs) = PathLess q x × AllAfter q xs

-- each path comes before all later ones
abbrev pub PathsRise : List (List ℕ) → Type 0
PathsRise [] = Unit {0}
PathsRise (x ∷ xs) = AllAfter x xs × PathsRise xs

-- the first n choices are the same, and then one path ends or the next choices differ
pub record IsShared (q r : List ℕ) (n : ℕ) : Type 0 where
  pub within : n ≤ length q
  pub within_other : n ≤ length r
  pub same : take n q ≡ take n r
  pub differs : n < length q → n < length r → slice_index_or q n 0 ≢ slice_index_or r n 0
