-- What a cache keeps, by the keys of sets of covered items.
use Rattle.std.specs.Prelude.{ℕ, List, [], ◌∷◌, Option, Some, None, length}
use Rattle.cover_problem.specs.Problem.{ProblemValue}
use Rattle.cover_problem.specs.Table.{IsCoveredList}
use Rattle.cover_counts.specs.declared.below.Below.{Below}
use Rattle.cover_counts.specs.declared.cache.Kept.{Kept}
use Rattle.cover_counts.specs.Below.{CountsBelow}
use Rattle.cover_counts.specs.Keys.{IsKeyOf}

-- b counts what lies below each path whose covered items have this key
abbrev pub IsBelowKey : ProblemValue → List ℕ → Below → Type 0
IsBelowKey p key b = (c : List ℕ) → IsCoveredList p c → IsKeyOf (length p.names) c key → CountsBelow p c b

-- a slot is empty, or what it keeps lies below its key
abbrev pub IsSoundSlot : ProblemValue → Option Kept → Type 0
IsSoundSlot p None = Unit {0}
IsSoundSlot p (Some kept) = IsBelowKey p kept.key.items kept.below

-- each slot is sound
abbrev pub AreSoundSlots : ProblemValue → List (Option Kept) → Type 0
AreSoundSlots p [] = Unit {0}
AreSoundSlots p (x ∷ xs) = IsSoundSlot p x × AreSoundSlots p xs

-- slots that are sound for a problem stay sound for it, if b counts what lies below the key
abbrev pub StaySoundWith : List (Option Kept) → List (Option Kept) → List ℕ → Below → Type 0
StaySoundWith old new key b = (p : ProblemValue) → AreSoundSlots p old → IsBelowKey p key b → AreSoundSlots p new
