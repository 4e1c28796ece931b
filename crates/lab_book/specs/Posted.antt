-- What was posted of a run, tile by tile: its visits (`stretch_visits`, `posted_visits`), that all of it is (`AllClosed`), and how many
-- stretches (`posted_count`), steps (`stretch_steps`, `posted_steps`) and X2 states at each level it has (`stretch_level`, `posted_level`,
-- `posted_levels`).
--
-- Example: where only the step from X2 to X8 with the path 4 5 1 is posted of the small problem, there is one stretch, of one step, with
-- the visit 4 5 1, and it has 0 0 0 1 X2 states at the levels 0 to 3. proofs/BookExamples.antt computes it.
use Rattle.std.specs.Prelude.{ℕ, ◌+◌, ◌^◌, ◌≡◌, ◌<◌, List, All, length, map, slice_index}
use Rattle.std.specs.List.{flat_map, sum_by}
use Rattle.shared_words.specs.Lists.{numbers}
use Rattle.cover_problem.specs.Problem.{ProblemValue}
use Rattle.x_steps.specs.Levels.{without_last_zeros, trimmed_levels}
use Rattle.x_steps.specs.Run.{level_count, states_between, steps_between, visits_between}
use Rattle.x_branches.specs.Branch.{end_of}
use Rattle.x_branches.specs.Stretch.{StretchValue}
use Rattle.lab_book.specs.declared.status.Status.TheVariants.{Closed}
use Rattle.lab_book.specs.Tile.{TileValue}
use Rattle.lab_book.specs.Book.{BookValue}

-- the paths that stretches visit, in order
abbrev pub stretch_visits : List StretchValue → List (List ℕ)
stretch_visits xs = flat_map (λ (x : StretchValue). visits_between x.problem x.from x.to) xs

-- the paths that the stretches of tiles visit, in order
abbrev pub posted_visits : List TileValue → List (List ℕ)
posted_visits ts = flat_map (λ (t : TileValue). stretch_visits t.stretches) ts

-- all tiles are closed
abbrev pub AllClosed : List TileValue → Type 0
AllClosed ts = All (λ (t : TileValue). t.status ≡ Closed) ts

-- a book is finished: all its tiles are
abbrev pub IsFinished : BookValue → Type 0
IsFinished b = AllClosed b.tiles

-- how many stretches tiles have
abbrev pub posted_count : List TileValue → ℕ
posted_count ts = sum_by (λ (t : TileValue). length t.stretches) ts

-- how many steps stretches have
abbrev pub stretch_steps : List StretchValue → ℕ
stretch_steps xs = sum_by (λ (x : StretchValue). steps_between x.problem x.from x.to) xs

-- and those of tiles
abbrev pub posted_steps : List TileValue → ℕ
posted_steps ts = sum_by (λ (t : TileValue). stretch_steps t.stretches) ts

-- how many X2 states stretches have at a level
abbrev pub stretch_level : List StretchValue → ℕ → ℕ
stretch_level xs level = sum_by (λ (x : StretchValue). level_count (states_between x.problem x.from x.to) level) xs

-- and those of tiles
abbrev pub posted_level : List TileValue → ℕ → ℕ
posted_level ts level = sum_by (λ (t : TileValue). stretch_level t.stretches level) ts

-- how many X2 states the stretches of a problem's tiles have at each level from 0 on, as far as there are any
abbrev pub posted_levels : ProblemValue → List TileValue → List ℕ
posted_levels p ts = without_last_zeros (map (posted_level ts) (numbers (length p.names + 1) 0))

-- the paths that the whole run of a book visits: from its first mark to its branch's end
abbrev pub whole_visits : BookValue → List (List ℕ)
whole_visits b = visits_between b.problem b.first (end_of b.branch.hi)

-- how many steps it has
abbrev pub whole_steps : BookValue → ℕ
whole_steps b = steps_between b.problem b.first (end_of b.branch.hi)

-- how many X2 states it has at each level from 0 on, as far as there are any
abbrev pub whole_levels : BookValue → List ℕ
whole_levels b = trimmed_levels b.problem b.first (end_of b.branch.hi)

-- each of the totals has room for so many more
abbrev pub HaveRoom : List ℕ → ℕ → Type 0
HaveRoom totals more = (level : ℕ) → level < length totals → slice_index totals level + more < 2 ^ 128
