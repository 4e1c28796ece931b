-- A tiling: tiles that part a branch of the run. `AreTiles` says that they meet at cuts, `no_tile` stands where there is none, `tile_at` is
-- the one at a place, `AreNumbered` says what their ids are, and `IsTiling` is all of it.
--
-- Example: the small problem's book parted at the cut 4 has the ids 0 and 1; its second tile has the first mark X5 at option 4, and at the
-- place 2 is no tile. proofs/BookExamples.antt computes it.
use Rattle.std.specs.Prelude.{ℕ, ◌≡◌, ◌<◌, false, Option, Some, None, List, [], ◌∷◌, length, slice_index_or}
use Rattle.cover_problem.specs.Problem.{ProblemValue}
use Rattle.x_steps.specs.StateValue.{StateValue, start}
use Rattle.x_branches.specs.declared.branch.Branch.{Branch}
use Rattle.x_branches.specs.Cut.{CutPath, cut_state}
use Rattle.lab_book.specs.declared.status.Status.TheVariants.{Closed}
use Rattle.lab_book.specs.Tile.{TileValue, IsTile}

-- tiles from one cut up to another, the first with this first mark: each ends at the cut where the next one begins, and the
-- next one's first mark is that cut's state
abbrev pub AreTiles : ProblemValue → Option CutPath → StateValue → List TileValue → Option CutPath → Type 0
AreTiles p lo first [] hi = ⊥
AreTiles p lo first (t ∷ []) hi = (t.branch.lo ≡ lo) × (t.first ≡ first) × IsTile p t × (t.branch.hi ≡ hi)
AreTiles p lo first (t ∷ u ∷ ts) hi =
    (t.branch.lo ≡ lo) × (t.first ≡ first) × IsTile p t × (cut : CutPath) × (t.branch.hi ≡ Some cut)
    × AreTiles p (Some cut) (cut_state cut.path) (u ∷ ts) hi

-- no tile: a closed one without a part of the run
abbrev pub no_tile : TileValue
no_tile = record { id = 0; branch = record { lo = None; hi = None }; status = Closed; stop = false; first = start; stretches = [] }

-- the tile at a place
abbrev pub tile_at : List TileValue → ℕ → TileValue
tile_at ts i = slice_index_or ts i no_tile

-- the ids are the numbers below the number of tiles, each once
pub record AreNumbered (ts : List TileValue) : Type 0 where
  pub below : (i : ℕ) → i < length ts → (tile_at ts i).id < length ts
  pub once : (i j : ℕ) → i < length ts → j < length ts → (tile_at ts i).id ≡ (tile_at ts j).id → i ≡ j

-- tiles that part a branch of the run from a first mark on
pub record IsTiling (p : ProblemValue) (b : Branch) (first : StateValue) (ts : List TileValue) : Type 0 where
  pub tiles : AreTiles p b.lo first ts b.hi
  pub numbered : AreNumbered ts
