-- Which tile is leased, and the worker that leases it.
use Rattle.std.proofs.Common.{◌≡◌, ℕ, ◌<◌, ◌==◌, Bool, true, false, Option, Some, None, Result, Ok, Err, List, length, refl, sym, ap, ap₂}
use Rattle.std.proofs.Common.{◌∙◌, subst}
use Rattle.std.specs.Prelude.{IsErr, IfOk}
use Rattle.x_branches.specs.Runner.{RunnerValue, runner_at}
use Rattle.lab_history.specs.declared.grant.Grant.{Grant}
use Rattle.lab_book.specs.declared.lease.Leased.{Leased}
use Rattle.lab_history.specs.declared.fault.BookFault.{BookFault}
use Rattle.lab_history.specs.declared.fault.BookFault.TheVariants.{NotWaiting}
use Rattle.lab_history.specs.declared.entry.Call.{Call}
use Rattle.lab_history.specs.declared.entry.Call.TheVariants as call
use Rattle.lab_book.specs.Tile.{TileValue, mark_of, is_waiting}
use Rattle.lab_book.specs.Tiling.{tile_at, no_tile, IsTiling}
use Rattle.lab_book.specs.Book.{BookValue, Outcome, outcome, book_step, found, checked, unless, tile_place, made_at, lent, lent_any}
use Rattle.lab_book.specs.Book.{first_waiting, status_fault, else_fault}
use Rattle.lab_book.specs.Calls.{Made, leased_reply, any_reply}
use Rattle.std.proofs.lemmas.List.Quantifiers.{position-Some}
use Rattle.lab_book.proofs.CallLemmas.{any_is}
use Rattle.lab_world.specs.declared.worker.leases.Wanted.{Wanted}
use Rattle.lab_world.specs.Worker.{leased_by, WorkerValue, HoldsTile, lent_worker, place_found, is_wanted, wanted_place}
use Rattle.lab_world.specs.Worker.{lease_call}
use Rattle.lab_world.specs.World.{IsSeat}
use Rattle.lab_world.proofs.HoldLemmas.{found_ok, lease_outcome}
use Rattle.lab_world.proofs.OwnLemmas.{lent_to, lent_is}
use Rattle.lab_world.proofs.TurnLemmas.{lease_seat, lease_any_seat}

-- ---- the place of a tile that stands so

module _ (ts : List TileValue) (id : ℕ) (test : TileValue → Bool) where
  abbrev stands_at : Option ℕ
  stands_at = place_found (found ts id (λ (t : TileValue). status_fault (test t) t))

  pub place_some : (i : ℕ) → tile_place id ts ≡ Some i → test (tile_at ts i) ≡ true → stands_at ≡ Some i
  place_some i e h = ap (λ (o : Option ℕ). place_found (checked ts (λ (t : TileValue). status_fault (test t) t) o)) e
      ∙ ap (λ (c : Bool). place_found (unless i (else_fault c NotWaiting None))) h

  pub place_other : (i : ℕ) → tile_place id ts ≡ Some i → test (tile_at ts i) ≡ false → stands_at ≡ None
  place_other i e h = ap (λ (o : Option ℕ). place_found (checked ts (λ (t : TileValue). status_fault (test t) t) o)) e
      ∙ ap (λ (c : Bool). place_found (unless i (else_fault c NotWaiting None))) h

  pub place_none : tile_place id ts ≡ None → stands_at ≡ None
  place_none e = ap (λ (o : Option ℕ). place_found (checked ts (λ (t : TileValue). status_fault (test t) t) o)) e

pub found_is : (r : Result ℕ BookFault) (i : ℕ) → Some i ≡ place_found r → r ≡ Ok i
found_is (Ok j) i e = let h : j ≡ i = cc in ap Ok h
found_is (Err f) i e = absurd (cc)

-- ---- no tile is leased

-- a refusal is no lease
refused_reply : (l : Leased) (b : BookValue) (w : ℕ) (r : Result ℕ BookFault) → None ≡ place_found r
    → leased_reply l ≡ (made_at b.tiles (lent b w) r).reply → ⊥
refused_reply l b w (Ok j) n e = absurd (cc)
refused_reply l b w (Err f) n e = absurd (cc)

module _ (b new : BookValue) (w : ℕ) where
  pub lease_refused : (want : Wanted) (id : ℕ) (r : Result Leased BookFault) → None ≡ wanted_place want b.tiles id
      → IfOk r (λ l. Made b new w (lease_call want id) (leased_reply l)) → IsErr r
  lease_refused want id (Ok l) n m =
      absurd (refused_reply l b w (found b.tiles id (λ (t : TileValue). status_fault (is_wanted want t.status) t)) n
      (m.reply ∙ ap (λ (o : Outcome). o.reply) (lease_outcome b w want id)))
  lease_refused want id (Err f) n m = refl

  none_is : (r : Option Leased) (o : Option ℕ) → None ≡ o → any_reply r ≡ (lent_any b w o).reply → r ≡ None
  none_is None o n e = refl
  none_is (Some l) None n e = absurd (cc)
  none_is (Some l) (Some i) n e = absurd (cc)

  pub none_leased : (r : Option Leased) → None ≡ first_waiting b.tiles → Made b new w call.LeaseAny (any_reply r) → r ≡ None
  unfolding outcome
  none_leased r n m = none_is r (first_waiting b.tiles) n m.reply

  some_is : (r : Option Leased) (o : Option ℕ) (i : ℕ) → Some i ≡ o → any_reply r ≡ (lent_any b w o).reply → r ≡ None → ⊥
  some_is None None i n e h = absurd (cc)
  some_is None (Some j) i n e h = absurd (cc)
  some_is (Some l) o i n e h = absurd (cc)

  pub some_leased : (r : Option Leased) (i : ℕ) → Some i ≡ first_waiting b.tiles → Made b new w call.LeaseAny (any_reply r) → r ≡ None → ⊥
  unfolding outcome
  some_leased r i n m h = some_is r (first_waiting b.tiles) i n m.reply h

-- no tile waits: no worker
pub none_worker : (b : BookValue) (w : ℕ) → None ≡ first_waiting b.tiles → None ≡ leased_by b w call.LeaseAny
unfolding outcome
none_worker b w n = ap (λ (o : Option ℕ). lent_worker b.problem (lent_any b w o).reply) n

-- ---- a tile is leased

-- a place that was found is one of a tile
pub place_within : (ts : List TileValue) (id i : ℕ) → Some i ≡ tile_place id ts → i < length ts
place_within ts id i e = (position-Some (λ (t : TileValue). t.id == id) ts i no_tile (sym e)).0

module _ (b new : BookValue) (w i : ℕ) (tiling : IsTiling b.problem b.branch b.first b.tiles) (l : Leased) (g : Grant) (run : RunnerValue)
    (grant : g ≡ l.lease) (runner : run ≡ runner_at b.problem (tile_at b.tiles i).branch (mark_of (tile_at b.tiles i))) where
  -- the worker is the one of the book's answer
  worker_is : (c : Call) → i < length b.tiles → outcome b w c ≡ lent b w i → leased_reply l ≡ (outcome b w c).reply
      → Some (record { grant = g; runner = run }) ≡ leased_by b w c
  worker_is c within o a =
      let reply : leased_reply l ≡ (lent b w i).reply = a ∙ ap (λ (o : Outcome). o.reply) o in
      let lease : l.lease ≡ record { id = (tile_at b.tiles i).id; worker = w; index = length b.history } = cc in
      let is : record { grant = g; runner = run }
      ≡ lent_to b.problem (tile_at b.tiles i) w (length b.history) =
      ap₂ (λ (g : Grant) (r : RunnerValue). record { grant = g; runner = r }) (grant ∙ lease) runner in
      ap (λ (x : WorkerValue). Some x) is ∙ sym (lent_is b w i tiling within) ∙ sym (ap (λ (o : Outcome). lent_worker b.problem o.reply) o)

  -- and has its tile
  worker_holds : (c : Call) → IsSeat (book_step b w c) w (leased_by b w c) → new ≡ book_step b w c
      → Some (record { grant = g; runner = run }) ≡ leased_by b w c → HoldsTile new (record { grant = g; runner = run })
  worker_holds c p n e = subst (λ (b : BookValue). HoldsTile b (record { grant = g; runner = run })) (sym n)
      (subst (IsSeat (book_step b w c) w) (sym e) p).1

  pub lease_worker : (want : Wanted) (id : ℕ) → Some i ≡ wanted_place want b.tiles id → Made b new w (lease_call want id) (leased_reply l)
      → Some (record { grant = g; runner = run }) ≡ leased_by b w (lease_call want id)
  lease_worker want id e m =
      let check = λ (t : TileValue). status_fault (is_wanted want t.status) t in
      let f = found_is (found b.tiles id check) i e in
      worker_is (lease_call want id) (found_ok b.tiles id check i f).0 (lease_outcome b w want id ∙ ap (made_at b.tiles (lent b w)) f)
      m.reply

  pub lease_holds : (want : Wanted) (id : ℕ) → Some i ≡ wanted_place want b.tiles id → Made b new w (lease_call want id) (leased_reply l)
      → HoldsTile new (record { grant = g; runner = run })
  lease_holds want id e m = worker_holds (lease_call want id) (lease_seat b w tiling want id) m.book (lease_worker want id e m)

  pub any_worker : Some i ≡ first_waiting b.tiles → Made b new w call.LeaseAny (leased_reply l)
      → Some (record { grant = g; runner = run }) ≡ leased_by b w call.LeaseAny
  any_worker e m =
      worker_is call.LeaseAny (position-Some (λ (t : TileValue). is_waiting t.status) b.tiles i no_tile (sym e)).0 (any_is b w (Some i) e)
      m.reply

  pub any_holds : Some i ≡ first_waiting b.tiles → Made b new w call.LeaseAny (leased_reply l)
      → HoldsTile new (record { grant = g; runner = run })
  any_holds e m = worker_holds call.LeaseAny (lease_any_seat b w tiling) m.book (any_worker e m)
