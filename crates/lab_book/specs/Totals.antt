-- What all tiles posted, in numbers that are kept, so that no question goes over all of it: how many paths were visited, how many steps were
-- taken, and how many X2 states there are at each level. A `Measure` is one of these; `measured` is what a stretch has of it, `measured_in`
-- what stretches have, `measured_of` what tiles have, and `total` what is kept. `AreTotals` says that the two last are the same, and that what
-- each stretch has is small (`IsSmall`).
--
-- Example: where only the step from X2 to X8 with the path 4 5 1 is posted of the small problem, the totals are 1 visit, 1 step, and
-- 0 0 0 1 X2 states at the levels 0 to 3. proofs/BookExamples.antt computes it.
use Rattle.std.specs.Prelude.{ℕ, ◌+◌, ◌^◌, ◌≡◌, ◌<◌, ◌≤◌, List, All, length, slice_index}
use Rattle.std.specs.List.{sum_by}
use Rattle.x_steps.specs.Run.{steps_between}
use Rattle.x_branches.specs.Stretch.{StretchValue, visits_of_stretch, levels_of_stretch}
use Rattle.lab_book.specs.Tile.{TileValue}

-- what is counted of stretches: the paths that they visit, their steps, or their X2 states at a level
pub data Measure : Type 0 where
  of_visits : Measure
  of_steps : Measure
  of_level : ℕ → Measure

-- how much of it a stretch has
abbrev pub measured : Measure → StretchValue → ℕ
measured of_visits x = length (visits_of_stretch x)
measured of_steps x = steps_between x.problem x.from x.to
measured (of_level level) x = slice_index (levels_of_stretch x) level

-- how much stretches have
abbrev pub measured_in : Measure → List StretchValue → ℕ
measured_in m xs = sum_by (measured m) xs

-- how much the stretches of tiles have
abbrev pub measured_of : Measure → List TileValue → ℕ
measured_of m ts = sum_by (λ (t : TileValue). measured_in m t.stretches) ts

-- what is kept: the levels are as many as one stretch has had
pub record TotalsValue : Type 0 where
  pub visited : ℕ
  pub steps : ℕ
  pub levels : List ℕ

-- the total of a measure
abbrev pub total : TotalsValue → Measure → ℕ
total t of_visits = t.visited
total t of_steps = t.steps
total t (of_level level) = slice_index t.levels level

-- a stretch has less than 2 ^ 64 of each measure, and no more levels than there are totals
pub record IsSmall (levels : ℕ) (x : StretchValue) : Type 0 where
  pub small : (m : Measure) → measured m x < 2 ^ 64
  pub long : length (levels_of_stretch x) ≤ levels

-- the totals of tiles
pub record AreTotals (ts : List TileValue) (totals : TotalsValue) : Type 0 where
  pub small : All (λ (t : TileValue). All (IsSmall (length totals.levels)) t.stretches) ts
  pub sums : (m : Measure) → total totals m ≡ measured_of m ts
