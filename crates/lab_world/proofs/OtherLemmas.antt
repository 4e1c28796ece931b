-- A call of the book leaves the tiles of the other workers as they are.
use Rattle.std.proofs.Common.{◌≡◌, ℕ, ◌<◌, Bool, not, Option, Some, None, List, length, refl, sym, ap, subst}
use Rattle.std.proofs.Math.ListN.{set}
use Rattle.std.proofs.lemmas.List.Quantifiers.{position-Some}
use Rattle.x_steps.specs.StateValue.{StateValue}
use Rattle.x_branches.specs.Cut.{CutPath}
use Rattle.lab_book.specs.declared.status.Status.TheVariants as status
use Rattle.lab_history.specs.declared.grant.Grant.{Grant}
use Rattle.lab_history.specs.declared.fault.BookFault.{BookFault}
use Rattle.lab_history.specs.declared.entry.Call.TheVariants as call
use Rattle.lab_book.specs.Tile.{TileValue, is_waiting, is_closed, asked_status}
use Rattle.lab_book.specs.Tiling.{tile_at, no_tile}
use Rattle.lab_book.specs.Book.{BookValue, Outcome, outcome, lent, lent_any, first_waiting, posted, split, head_tile, tail_tile, retracted}
use Rattle.lab_book.specs.Book.{settled, freed, closed, put_back, asked_to_stop, status_fault, lease_fault, stretch_fault, cut_fault}
use Rattle.lab_book.specs.Book.{retract_fault, end_fault, mark_fault}
use Rattle.lab_history.specs.declared.ending.Ending.{Ending}
use Rattle.lab_history.specs.declared.ending.Ending.TheVariants as ending
use Rattle.lab_world.specs.declared.worker.leases.Wanted.{Wanted}
use Rattle.lab_world.specs.declared.worker.leases.Wanted.TheVariants as wanted
use Rattle.lab_history.specs.Ending.{call_of_end}
use Rattle.lab_world.specs.Worker.{WorkerValue, IsWorkers, HasTile, is_wanted, lease_call}
use Rattle.lab_world.proofs.HoldLemmas.{kept_set, kept_made, kept_parted, passed, lease_outcome, wanted_not_leased, free_not_leased}
use Rattle.lab_world.proofs.HoldLemmas.{other_lease}

module _ (b : BookValue) (w : ℕ) (y : WorkerValue) (has : HasTile b.tiles y) where
  -- a tile that isn't leased is no worker's, and may change
  where_free : (i : ℕ) (u : TileValue) → i < length b.tiles → ((v k : ℕ) → (tile_at b.tiles i).status ≡ status.Leased v k → ⊥)
      → HasTile (set b.tiles i u) y
  where_free i u l n = kept_set b.tiles y i u l (λ (o : IsWorkers (tile_at b.tiles i) y). absurd (n y.grant.worker y.grant.index o.leased))
      has

  pub lease_leaves : (want : Wanted) (id : ℕ) → HasTile (outcome b w (lease_call want id)).tiles y
  lease_leaves want id =
      subst (λ (o : Outcome). HasTile o.tiles y) (sym (lease_outcome b w want id))
      (kept_made b.tiles y (lent b w) id (λ (t : TileValue). status_fault (is_wanted want t.status) t)
      (λ i l n. where_free i _ l (λ v k e. wanted_not_leased want _ v k (passed _ _ _ n).0 e)) has)

  pub lease_any_leaves : HasTile (outcome b w call.LeaseAny).tiles y
  unfolding outcome
  lease_any_leaves = by (first_waiting b.tiles) refl
    where
      by : (r : Option ℕ) → first_waiting b.tiles ≡ r → HasTile (lent_any b w r).tiles y
      by None e = has
      by (Some i) e =
          let s = position-Some (λ (t : TileValue). is_waiting t.status) b.tiles i no_tile e in
          where_free i _ s.0 (λ v k h. wanted_not_leased wanted.Waiting _ v k s.1 h)

  pub put_back_leaves : (id : ℕ) (s : StateValue) → HasTile (outcome b w (call.PutBack id s)).tiles y
  unfolding outcome
  put_back_leaves id s =
      kept_made b.tiles y (settled b (put_back s)) id (mark_fault s)
      (λ i l n. where_free i _ l (λ v k e. free_not_leased _ v k (passed _ _ _ n).0 e)) has

  pub stop_leaves : (id : ℕ) → HasTile (outcome b w (call.RequestStop id)).tiles y
  unfolding outcome
  stop_leaves id =
      kept_made b.tiles y (settled b asked_to_stop) id (λ (t : TileValue). status_fault (not (is_closed t.status)) t)
      (λ i l n. kept_set b.tiles y i _ l (λ (o : IsWorkers (tile_at b.tiles i) y). record {
        named = o.named;
        leased = ap asked_status o.leased;
        branch = o.branch;
        mark = o.mark;
      }) has) has

  module _ (g : Grant) (other : y.grant.worker ≡ g.worker → ⊥) where
    -- a tile leased by another's lease may change
    where_other : (i : ℕ) (u : TileValue) (next : Option BookFault) → i < length b.tiles → lease_fault g (tile_at b.tiles i) next ≡ None
        → HasTile (set b.tiles i u) y
    where_other i u next l n =
        kept_set b.tiles y i u l (λ (o : IsWorkers (tile_at b.tiles i) y). absurd (other (other_lease _ g _ _ (passed _ _ _ n).0 o.leased)))
        has

    pub post_leaves : (from to : StateValue) (same : Bool) → HasTile (outcome b w (call.Post g from to same)).tiles y
    unfolding outcome
    post_leaves from to same =
        kept_made b.tiles y (posted b from to) g.id (λ (t : TileValue). lease_fault g t (stretch_fault b.problem from to same t))
        (λ i l n. where_other i _ _ l n) has

    pub split_leaves : (path : List ℕ) (same : Bool) → HasTile (outcome b w (call.Split g path same)).tiles y
    unfolding outcome
    split_leaves path same =
        let cut : CutPath = record { problem = b.problem; path = path } in
        kept_made b.tiles y (split b path) g.id (λ (t : TileValue). lease_fault g t (cut_fault b.problem path same t))
        (λ i l n. kept_parted b.tiles y i (head_tile (tile_at b.tiles i) cut) (tail_tile (length b.tiles) (tile_at b.tiles i) cut) l
        (where_other i _ _ l n)) has

    pub retract_leaves : HasTile (outcome b w (call.Retract g)).tiles y
    unfolding outcome
    retract_leaves =
        kept_made b.tiles y (retracted b) g.id (λ (t : TileValue). lease_fault g t (retract_fault t))
        (λ i l n. where_other i _ _ l n) has

    pub end_leaves : (e : Ending) → HasTile (outcome b w (call_of_end e g)).tiles y
    unfolding outcome
    end_leaves ending.Park =
        kept_made b.tiles y (settled b freed) g.id (λ (t : TileValue). lease_fault g t None)
        (λ i l n. where_other i _ _ l n) has
    end_leaves ending.Abandon =
        kept_made b.tiles y (settled b freed) g.id (λ (t : TileValue). lease_fault g t None)
        (λ i l n. where_other i _ _ l n) has
    end_leaves ending.Close =
        kept_made b.tiles y (settled b closed) g.id (λ (t : TileValue). lease_fault g t (end_fault t))
        (λ i l n. where_other i _ _ l n) has
