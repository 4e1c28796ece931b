-- Which tile a worker has, before and after a tile is changed.
use Rattle.std.proofs.Common.{◌≡◌, ℕ, ◌<◌, ◌⊎◌, ◌==◌, ◌&&◌, Bool, true, false, Option, Some, None, Result, Ok, Err, List, [], ◌∷◌, ◌++◌}
use Rattle.std.proofs.Common.{◌+◌, ◌≤◌, length, take, drop, refl, sym, ap, ap₂, ◌∙◌, subst, inl, inr, arith, eq-eqb}
use Rattle.std.specs.List.{insert}
use Rattle.std.proofs.Math.ListN.{set}
use Rattle.std.proofs.lemmas.Bool.{cases_lt, eqb-true, ne_eqb}
use Rattle.std.proofs.lemmas.Bool.Decides.{eqb_tells}
use Rattle.std.proofs.lemmas.List.{length-set, get_or-set_same, get_or-set_other}
use Rattle.std.proofs.lemmas.List.Edits.{length-insert, get_or-insert_below, get_or-insert_above}
use Rattle.std.proofs.lemmas.List.Quantifiers.{position-Some}
use Rattle.lab_book.specs.declared.status.Status.{Status}
use Rattle.lab_book.specs.declared.status.Status.TheVariants as status
use Rattle.lab_history.specs.declared.grant.Grant.{Grant}
use Rattle.lab_history.specs.declared.fault.BookFault.{BookFault}
use Rattle.lab_book.specs.Tile.{TileValue, is_waiting, is_held, is_free, is_lease}
use Rattle.lab_book.specs.Tiling.{tile_at, no_tile, AreNumbered}
use Rattle.lab_book.specs.Book.{BookValue, Outcome, outcome, lent, tile_place, found, checked, unless, made_at, status_fault, else_fault}
use Rattle.lab_book.proofs.IndexLemmas.{position_at}
use Rattle.lab_book.proofs.InsertLemmas.{two_parts}
use Rattle.lab_world.specs.declared.worker.leases.Wanted.{Wanted}
use Rattle.lab_world.specs.declared.worker.leases.Wanted.TheVariants as wanted
use Rattle.lab_world.specs.Worker.{WorkerValue, IsWorkers, HasTile, is_wanted, lease_call}

-- ---- the place of a tile

-- what is found is a tile with the id, and nothing stands against it
pub found_ok : (ts : List TileValue) (id : ℕ) (check : TileValue → Option BookFault) (i : ℕ) → found ts id check ≡ Ok i
    → (i < length ts) × ((tile_at ts i).id ≡ id) × (check (tile_at ts i) ≡ None)
found_ok ts id check i e = by (tile_place id ts) refl e
  where
    at : (j : ℕ) (d : Option BookFault) → unless j d ≡ Ok i → (j ≡ i) × (d ≡ None)
    at j None e = (cc, refl)
    at j (Some f) e = absurd (cc)

    by : (place : Option ℕ) → tile_place id ts ≡ place → checked ts check place ≡ Ok i
        → (i < length ts) × ((tile_at ts i).id ≡ id) × (check (tile_at ts i) ≡ None)
    by None o e = absurd (cc)
    by (Some j) o e =
        let s = position-Some (λ (t : TileValue). t.id == id) ts j no_tile o in
        let a = at j (check (tile_at ts j)) e in
        subst (λ (k : ℕ). (k < length ts) × ((tile_at ts k).id ≡ id) × (check (tile_at ts k) ≡ None)) a.0 (s.0, eqb-true _ _ s.1, a.1)

-- a tile is the first with its id, since it is the only one
pub placed : (ts : List TileValue) (id k : ℕ) → AreNumbered ts → k < length ts → (tile_at ts k).id ≡ id → tile_place id ts ≡ Some k
placed ts id k n l e =
    position_at (λ (t : TileValue). t.id == id) ts k no_tile l
    (λ j b. ne_eqb (tile_at ts j).id id (λ h. let s = n.once j k (omega arith) l (h ∙ sym e) in omega arith))
    (eq-eqb (tile_at ts k).id id e)

pub found_at : (ts : List TileValue) (id k : ℕ) (check : TileValue → Option BookFault) → AreNumbered ts → k < length ts
    → (tile_at ts k).id ≡ id → found ts id check ≡ unless k (check (tile_at ts k))
found_at ts id k check n l e = ap (checked ts check) (placed ts id k n l e)

-- ---- how a tile stands

-- a tile is leased by its id where it stands as wanted
pub lease_outcome : (b : BookValue) (w : ℕ) (want : Wanted) (id : ℕ)
    → outcome b w (lease_call want id) ≡ made_at b.tiles (lent b w)
    (found b.tiles id (λ (t : TileValue). status_fault (is_wanted want t.status) t))
unfolding outcome
lease_outcome b w wanted.Waiting id = refl
lease_outcome b w wanted.Held id = refl

pub wanted_not_leased : (want : Wanted) (s : Status) (w i : ℕ) → is_wanted want s ≡ true → s ≡ status.Leased w i → ⊥
wanted_not_leased wanted.Waiting s w i e h = let f = ap is_waiting h in absurd (cc)
wanted_not_leased wanted.Held s w i e h = let f = ap is_held h in absurd (cc)

pub free_not_leased : (s : Status) (w i : ℕ) → is_free s ≡ true → s ≡ status.Leased w i → ⊥
free_not_leased s w i e h = let f = ap is_free h in absurd (cc)

-- a tile leased by a lease is leased by it
pub own_lease : (s : Status) (g : Grant) → s ≡ status.Leased g.worker g.index → is_lease s g ≡ true
own_lease s g e = ap (λ (s : Status). is_lease s g) e
    ∙ ap₂ (λ (a b : Bool). a && b) (eq-eqb g.worker g.worker refl) (eq-eqb g.index g.index refl)

-- and by no other worker's
pub other_lease : (s : Status) (g : Grant) (w i : ℕ) → is_lease s g ≡ true → s ≡ status.Leased w i → w ≡ g.worker
other_lease s g w i e h = by (w == g.worker) (i == g.index) refl (sym (ap (λ (s : Status). is_lease s g) h) ∙ e)
  where
    by : (a b : Bool) → (w == g.worker) ≡ a → (a && b) ≡ true → w ≡ g.worker
    by true b h e = eqb-true _ _ h
    by false b h e = absurd (cc)

-- what a test says whose failure is a fault
pub passed : (test : Bool) (f : BookFault) (next : Option BookFault) → else_fault test f next ≡ None → (test ≡ true) × (next ≡ None)
passed true f next e = (refl, e)
passed false f next e = absurd (cc)

-- ---- a worker's tile where one is changed

module _ (ts : List TileValue) (y : WorkerValue) where
  -- one is put in the place of another
  pub kept_set : (i : ℕ) (u : TileValue) → i < length ts → (IsWorkers (tile_at ts i) y → IsWorkers u y) → HasTile ts y
      → HasTile (set ts i u) y
  kept_set i u l f h = step (eqb_tells h.place i)
    where
      step : (((h.place == i) ≡ true) × (h.place ≡ i)) ⊎ (((h.place == i) ≡ false) × (h.place ≡ i → ⊥)) → HasTile (set ts i u) y
      step (inl e) = record {
        place = i;
        within = let m = length-set ts i u in omega arith;
        tile = subst (λ (t : TileValue). IsWorkers t y) (sym (get_or-set_same ts i u no_tile l))
            (f (subst (λ (k : ℕ). IsWorkers (tile_at ts k) y) e.1 h.tile));
      }
      step (inr e) = record {
        place = h.place;
        within = let m = length-set ts i u in let b = h.within in omega arith;
        tile = subst (λ (t : TileValue). IsWorkers t y) (sym (get_or-set_other ts i h.place u no_tile e.1)) h.tile;
      }

  -- what a call makes of the tile that it found
  pub kept_made : (change : ℕ → Outcome) (id : ℕ) (check : TileValue → Option BookFault)
      → ((i : ℕ) → i < length ts → check (tile_at ts i) ≡ None → HasTile (change i).tiles y) → HasTile ts y
      → HasTile (made_at ts change (found ts id check)).tiles y
  kept_made change id check f h = by (found ts id check) refl
    where
      by : (r : Result ℕ BookFault) → found ts id check ≡ r → HasTile (made_at ts change r).tiles y
      by (Ok i) e = let g = found_ok ts id check i e in f i g.0 g.2
      by (Err x) e = h

-- ---- one more tile

-- a tile that is put among others takes none away
kept_insert : (ts : List TileValue) (y : WorkerValue) (k : ℕ) (r : TileValue) → k ≤ length ts → HasTile ts y → HasTile (insert ts k r) y
kept_insert ts y k r l h = step (cases_lt h.place k)
  where
    step : (h.place < k) ⊎ (k ≤ h.place) → HasTile (insert ts k r) y
    step (inl a) = record {
      place = h.place;
      within = let n = length-insert ts k r l in let m = h.within in omega arith;
      tile = subst (λ (t : TileValue). IsWorkers t y) (sym (get_or-insert_below ts k r no_tile h.place a l)) h.tile;
    }
    step (inr a) = record {
      place = h.place + 1;
      within = let n = length-insert ts k r l in let m = h.within in omega arith;
      tile = subst (λ (t : TileValue). IsWorkers t y) (sym (get_or-insert_above ts k r no_tile h.place a l)) h.tile;
    }

-- nor do two that stand for one, where the first of them is the worker's as that one was
pub kept_parted : (ts : List TileValue) (y : WorkerValue) (i : ℕ) (u r : TileValue) → i < length ts → HasTile (set ts i u) y
    → HasTile (take i ts ++ (u ∷ r ∷ []) ++ drop (i + 1) ts) y
kept_parted ts y i u r l h =
    let m = length-set ts i u in
    subst (λ (us : List TileValue). HasTile us y) (two_parts ts i u r l) (kept_insert (set ts i u) y (i + 1) r (omega arith) h)
