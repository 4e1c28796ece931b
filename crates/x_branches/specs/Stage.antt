-- Where states stand at one level of the search, with room for any option number: a device of the comparison, whose contract speaks of the
-- run alone. `many` and `IsWithin` are that room, `digit_of` is a state's digit at a level, and `Shifts` says what the room changes of it.
--
-- Example: in the small problem X5 at option 5 with the path 4 has the digits 18 and 21 at the levels 0 and 1. proofs/RunnerExamples.antt
-- computes it.
use Rattle.std.specs.Prelude.{ℕ, ◌<◌, ◌≤◌, ◌≡◌, ◌+◌, ◌*◌, ◌⊎◌, length, slice_index_or}
use Rattle.cover_problem.specs.Problem.{ProblemValue}
use Rattle.x_steps.specs.declared.state.Cursor.{Cursor}
use Rattle.x_steps.specs.declared.state.Cursor.TheVariants.{At}
use Rattle.x_steps.specs.StateValue.{StateValue}
use Rattle.x_steps.specs.Rank.{digits}

-- more options than a number of 32 bits can name
abbrev pub many : ℕ
many = 4294967296

-- the cursor's option is below that
abbrev pub IsWithin : Cursor → Type 0
IsWithin (At o) = o < many
IsWithin k = Unit {0}

-- a state's digit at a level
abbrev pub digit_of : ProblemValue → StateValue → ℕ → ℕ
digit_of p s level = slice_index_or (digits (length p.options) s.label s.path s.cursor) level 0

-- a digit with room for all numbers, and the one with room for m options: the same up to the last option, and from there on
-- as far from the end
abbrev pub Shifts : ℕ → ℕ → ℕ → Type 0
Shifts m d e = ((d ≡ e) × (d < 4 * many + 5) × (e < 4 * m + 5)) ⊎ ((d + 4 * m ≡ e + 4 * many) × (4 * m + 5 ≤ e))
