-- A tile that is named in a reply isn't closed.
use Rattle.std.proofs.Common.{◌≡◌, ℕ, ◌<◌, ◌⊎◌, ◌==◌, ◌&&◌, Bool, true, false, not, Option, Some, Result, Ok, Err, List, length, refl, sym, ap, ◌∙◌, subst, inl, inr}
use Rattle.std.proofs.Math.ListN.{set}
use Rattle.std.proofs.lemmas.Bool.Decides.{eqb_tells}
use Rattle.std.proofs.lemmas.List.{get_or-set_same, get_or-set_other}
use Rattle.std.proofs.lemmas.List.Quantifiers.{position-Some}
use Rattle.x_steps.specs.StateValue.{StateValue}
use Rattle.lab_book.specs.declared.status.Status.{Status}
use Rattle.lab_book.specs.declared.status.Status.TheVariants.{Closed}
use Rattle.lab_history.specs.declared.fault.BookFault.{BookFault}
use Rattle.lab_history.specs.declared.entry.Call.TheVariants as call
use Rattle.lab_book.specs.Tile.{TileValue, is_closed, asked_status}
use Rattle.lab_book.specs.Tiling.{tile_at, no_tile}
use Rattle.lab_book.specs.Book.{BookValue, outcome, found, made_at, settled, asked_to_stop, put_back, status_fault, mark_fault}
use Rattle.lab_world.proofs.HoldLemmas.{found_ok}
use Rattle.debug_acts.specs.Tiles.{place_at, is_begun_at}

-- the tile that begins at a cut isn't closed
pub begun_is_open : (ts : List TileValue) (lo : Option (List ℕ)) (i : ℕ) → place_at lo ts ≡ Some i → is_closed (tile_at ts i).status ≡ false
begun_is_open ts lo i e =
    let s = position-Some (is_begun_at lo) ts i no_tile e in
    by (is_closed (tile_at ts i).status) _ s.1
  where
    by : (a b : Bool) → (not a && b) ≡ true → a ≡ false
    by false b h = refl
    by true b h = absurd (cc)

-- it stays so where a tile is changed by what closes none
module _ (ts : List TileValue) (change : TileValue → TileValue) (keeps : (t : TileValue) → is_closed t.status ≡ false → is_closed (change t).status ≡ false) (i : ℕ) (here : is_closed (tile_at ts i).status ≡ false) where
  kept_at : (j : ℕ) → j < length ts → is_closed (tile_at (set ts j (change (tile_at ts j))) i).status ≡ false
  kept_at j l = step (eqb_tells i j)
    where
      step : (((i == j) ≡ true) × (i ≡ j)) ⊎ (((i == j) ≡ false) × (i ≡ j → ⊥)) → is_closed (tile_at (set ts j (change (tile_at ts j))) i).status ≡ false
      step (inl e) =
          subst (λ (k : ℕ). is_closed (tile_at (set ts j (change (tile_at ts j))) k).status ≡ false) (sym e.1)
          (ap (λ (t : TileValue). is_closed t.status) (get_or-set_same ts j (change (tile_at ts j)) no_tile l)
          ∙ keeps (tile_at ts j) (subst (λ (k : ℕ). is_closed (tile_at ts k).status ≡ false) e.1 here))
      step (inr e) = ap (λ (t : TileValue). is_closed t.status) (get_or-set_other ts j i (change (tile_at ts j)) no_tile e.1) ∙ here

  kept_found : (b : BookValue) → b.tiles ≡ ts → (id : ℕ) (check : TileValue → Option BookFault) → is_closed (tile_at (made_at ts (settled b change) (found ts id check)).tiles i).status ≡ false
  kept_found b e id check = by (found ts id check) refl
    where
      by : (r : Result ℕ BookFault) → found ts id check ≡ r → is_closed (tile_at (made_at ts (settled b change) r).tiles i).status ≡ false
      by (Ok j) f = rw e (kept_at j (found_ok ts id check j f).0)
      by (Err x) f = here

asked_stays : (s : Status) → is_closed s ≡ false → is_closed (asked_status s) ≡ false
asked_stays Closed e = absurd (cc)
asked_stays _ e = refl

pub hold_keeps : (b : BookValue) (id i : ℕ) → is_closed (tile_at b.tiles i).status ≡ false → is_closed (tile_at (outcome b 0 (call.RequestStop id)).tiles i).status ≡ false
unfolding outcome
hold_keeps b id i here = kept_found b.tiles asked_to_stop (λ t h. asked_stays t.status h) i here b refl id (λ (t : TileValue). status_fault (not (is_closed t.status)) t)

pub put_back_keeps : (b : BookValue) (id : ℕ) (s : StateValue) (i : ℕ) → is_closed (tile_at b.tiles i).status ≡ false → is_closed (tile_at (outcome b 0 (call.PutBack id s)).tiles i).status ≡ false
unfolding outcome
put_back_keeps b id s i here = kept_found b.tiles (put_back s) (λ t h. h) i here b refl id (mark_fault s)
