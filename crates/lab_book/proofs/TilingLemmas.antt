-- A tiling whose tile at one place is changed.
use Rattle.std.proofs.Common.{◌≡◌, ℕ, zero, suc, ◌<◌, ◌⊎◌, ◌==◌, true, false, Option, Some, List, [], ◌∷◌, length, get_or, sym, ap, ◌∙◌}
use Rattle.std.proofs.Common.{inl, inr, arith}
use Rattle.std.proofs.Math.ListN.{set}
use Rattle.std.proofs.lemmas.Bool.Decides.{eqb_tells}
use Rattle.std.proofs.lemmas.List.{length-set, get_or-set_same, get_or-set_other}
use Rattle.cover_problem.specs.Problem.{ProblemValue}
use Rattle.x_steps.specs.StateValue.{StateValue}
use Rattle.x_branches.specs.declared.branch.Branch.{Branch}
use Rattle.x_branches.specs.Cut.{CutPath, cut_state}
use Rattle.lab_book.specs.Tile.{TileValue, IsTile}
use Rattle.lab_book.specs.Tiling.{AreTiles, AreNumbered, IsTiling, no_tile, tile_at}

-- each of them is a tile
pub tile_in : (p : ProblemValue) (lo : Option CutPath) (first : StateValue) (ts : List TileValue) (hi : Option CutPath) (i : ℕ)
    → AreTiles p lo first ts hi → i < length ts → IsTile p (tile_at ts i)
tile_in p lo first [] hi i a l = absurd a
tile_in p lo first (t ∷ []) hi zero a l = a.2
tile_in p lo first (t ∷ []) hi (suc i) a l = absurd (omega arith)
tile_in p lo first (t ∷ u ∷ ts) hi zero a l = a.2
tile_in p lo first (t ∷ u ∷ ts) hi (suc i) a l = tile_in p (Some a.3) (cut_state a.3.path) (u ∷ ts) hi i a.5 (omega arith)

-- a tile with the same branch and first mark in the place of one
tiles_set : (p : ProblemValue) (lo : Option CutPath) (first : StateValue) (ts : List TileValue) (hi : Option CutPath) (i : ℕ)
    (u : TileValue) → AreTiles p lo first ts hi → i < length ts → u.branch ≡ (tile_at ts i).branch → u.first ≡ (tile_at ts i).first
    → IsTile p u → AreTiles p lo first (set ts i u) hi
tiles_set p lo first [] hi i u a l b f k = absurd a
tiles_set p lo first (t ∷ []) hi zero u a l b f k = (ap (λ (c : Branch). c.lo) b ∙ a.0, f ∙ a.1, k, ap (λ (c : Branch). c.hi) b ∙ a.3)
tiles_set p lo first (t ∷ []) hi (suc i) u a l b f k = absurd (omega arith)
tiles_set p lo first (t ∷ v ∷ ts) hi zero u a l b f k =
    (ap (λ (c : Branch). c.lo) b ∙ a.0, f ∙ a.1, k, a.3, ap (λ (c : Branch). c.hi) b ∙ a.4, a.5)
tiles_set p lo first (t ∷ v ∷ ts) hi (suc zero) u a l b f k =
    (a.0, a.1, a.2, a.3, a.4, tiles_set p (Some a.3) (cut_state a.3.path) (v ∷ ts) hi zero u a.5 (omega arith) b f k)
tiles_set p lo first (t ∷ v ∷ ts) hi (suc (suc i)) u a l b f k =
    (a.0, a.1, a.2, a.3, a.4, tiles_set p (Some a.3) (cut_state a.3.path) (v ∷ ts) hi (suc i) u a.5 (omega arith) b f k)

-- the ids stay
pub ids_set : (ts : List TileValue) (i : ℕ) (u : TileValue) → i < length ts → u.id ≡ (tile_at ts i).id → (j : ℕ)
    → (tile_at (set ts i u) j).id ≡ (tile_at ts j).id
ids_set ts i u l e j = step (eqb_tells j i)
  where
    step : (((j == i) ≡ true) × (j ≡ i)) ⊎ (((j == i) ≡ false) × (j ≡ i → ⊥)) → (tile_at (set ts i u) j).id ≡ (tile_at ts j).id
    step (inl h) = rw h.1 (ap (λ (t : TileValue). t.id) (get_or-set_same ts i u no_tile l) ∙ e)
    step (inr h) = ap (λ (t : TileValue). t.id) (get_or-set_other ts i j u no_tile h.1)

pub numbered_set : (ts : List TileValue) (i : ℕ) (u : TileValue) → AreNumbered ts → i < length ts → u.id ≡ (tile_at ts i).id
    → AreNumbered (set ts i u)
numbered_set ts i u n l e =
    let long = length-set ts i u in
    let same = ids_set ts i u l e in
    record {
      below = λ j k. rw (same j, long) (n.below j (let m = long in omega arith));
      once = λ j k a b h. n.once j k (let m = long in omega arith) (let m = long in omega arith) (sym (same j) ∙ h ∙ same k);
    }

pub tiling_set : (p : ProblemValue) (b : Branch) (first : StateValue) (ts : List TileValue) (i : ℕ) (u : TileValue) → IsTiling p b first ts
    → i < length ts → u.id ≡ (tile_at ts i).id → u.branch ≡ (tile_at ts i).branch → u.first ≡ (tile_at ts i).first
    → (IsTile p (tile_at ts i) → IsTile p u) → IsTiling p b first (set ts i u)
tiling_set p b first ts i u t l a c d f = record {
  tiles = tiles_set p b.lo first ts b.hi i u t.tiles l c d (f (tile_in p b.lo first ts b.hi i t.tiles l));
  numbered = numbered_set ts i u t.numbered l a;
}
