-- Two tiles in the place of one, as a split leaves them: in a tiling.
use Rattle.std.proofs.Common.{◌≡◌, Option, Some, ℕ, zero, suc, ◌+◌, ◌<◌, List, [], ◌∷◌, ◌++◌, length, take, drop, refl}
use Rattle.std.proofs.Common.{subst, arith}
use Rattle.cover_problem.specs.Problem.{ProblemValue}
use Rattle.x_steps.specs.StateValue.{StateValue}
use Rattle.x_branches.specs.declared.branch.Branch.{Branch}
use Rattle.x_branches.specs.Cut.{CutPath, cut_state}
use Rattle.lab_book.specs.Tile.{TileValue, IsTile}
use Rattle.lab_book.specs.Tiling.{AreTiles, AreNumbered, IsTiling, tile_at}
use Rattle.lab_book.specs.Book.{head_tile, tail_tile, split_tiles}
use Rattle.lab_book.proofs.InsertLemmas.{two_parts, numbered_two}
use Rattle.lab_book.proofs.SplitLemmas.{tiles_split}

-- a tile may be replaced by two that stand for it, the second with the next id
pub split_tiling : (p : ProblemValue) (b : Branch) (first : StateValue) (ts : List TileValue) (i : ℕ) (c : CutPath) → IsTiling p b first ts
    → i < length ts → IsTile p (head_tile (tile_at ts i) c) → IsTile p (tail_tile (length ts) (tile_at ts i) c)
    → IsTiling p b first (take i ts ++ split_tiles (tile_at ts i) (length ts) c ++ drop (i + 1) ts)
split_tiling p b first ts i c t l head tail =
    let n : i + 1 ≡ suc i = omega arith in
    let tiles : AreTiles p b.lo first (take i ts ++ split_tiles (tile_at ts i) (length ts) c ++ drop (i + 1) ts) b.hi =
    rw n (tiles_split p b.lo first ts b.hi i (length ts) c t.tiles l head tail) in
    record {
      tiles = tiles;
      numbered = subst AreNumbered (two_parts ts i (head_tile (tile_at ts i) c) (tail_tile (length ts) (tile_at ts i) c) l)
          (numbered_two ts i (head_tile (tile_at ts i) c) (tail_tile (length ts) (tile_at ts i) c) l refl refl t.numbered);
    }

-- and where two stand in the place of one, both are tiles
pub both_tiles : (p : ProblemValue) (lo : Option CutPath) (first : StateValue) (ts : List TileValue) (hi : Option CutPath) (i : ℕ)
    (h r : TileValue) → i < length ts → AreTiles p lo first (take i ts ++ (h ∷ r ∷ []) ++ drop (suc i) ts) hi → IsTile p h × IsTile p r
both_tiles p lo first [] hi i h r l a = absurd (omega arith)
both_tiles p lo first (t ∷ []) hi zero h r l a = (a.2, a.5.2)
both_tiles p lo first (t ∷ u ∷ ts) hi zero h r l a = (a.2, a.5.2)
both_tiles p lo first (t ∷ []) hi (suc i) h r l a = absurd (omega arith)
both_tiles p lo first (t ∷ u ∷ ts) hi (suc zero) h r l a =
    both_tiles p (Some a.3) (cut_state a.3.path) (u ∷ ts) hi zero h r (omega arith) a.5
both_tiles p lo first (t ∷ u ∷ ts) hi (suc (suc i)) h r l a =
    both_tiles p (Some a.3) (cut_state a.3.path) (u ∷ ts) hi (suc i) h r (omega arith) a.5
