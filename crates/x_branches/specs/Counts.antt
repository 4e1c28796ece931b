-- What counts for each level say at a state, which is counted at the level of its path where its label is X2: they have that level
-- (`HasLevelOf`), can count one more there (`HasRoomFor`), have counted one there (`HasCounted`).
--
-- Example: in the small problem the counts 1 1 0 have the level of X2 below option 4 and can count one more there; the counts 1 0 0
-- have counted none there (computed in proofs/RunnerExamples.antt).
use Rattle.std.specs.Prelude.{ℕ, ◌<◌, ◌≡◌, true, List, length, slice_index}
use Rattle.x_steps.specs.StateValue.{StateValue}
use Rattle.x_steps.specs.Steps.{is_level}
use Rattle.x_branches.specs.Refusals.{most_steps}

-- the counts have the level of a state of X2
abbrev pub HasLevelOf : List ℕ → StateValue → Type 0
HasLevelOf counts s = is_level s.label ≡ true → length s.path < length counts

-- its count can be one more
abbrev pub HasRoomFor : List ℕ → StateValue → Type 0
HasRoomFor counts s = is_level s.label ≡ true → slice_index counts (length s.path) < most_steps

-- its count isn't 0
abbrev pub HasCounted : List ℕ → StateValue → Type 0
HasCounted counts s = is_level s.label ≡ true → 0 < slice_index counts (length s.path)
