-- A flag for each item.
use Rattle.std.specs.Prelude.{ℕ, ◌+◌, ◌≤◌, ◌≡◌, Bool, false, not, List, ◌++◌, length, slice_index_or}
use Rattle.std.specs.List.{list_any}
use Rattle.shared_words.specs.Lists.{has}

-- of the items up to n those of the list are flagged
pub record AreFlagsOf (flags : List Bool) (n : ℕ) (c : List ℕ) : Type 0 where
  pub size : length flags ≡ n + 1
  pub flagged : (i : ℕ) → i ≤ n → slice_index_or flags i false ≡ has c i

-- whatever was flagged, these are flagged too
abbrev pub FlagsAlso : List Bool → List Bool → List ℕ → Type 0
FlagsAlso old new items = (n : ℕ) (c : List ℕ) → AreFlagsOf old n c → AreFlagsOf new n (c ++ items)

-- whether none of these items is flagged
abbrev pub none_flagged : List Bool → List ℕ → Bool
none_flagged flags items = not (list_any (λ i. slice_index_or flags i false) items)
