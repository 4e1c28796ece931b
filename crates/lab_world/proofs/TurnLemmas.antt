-- A turn leaves every worker its tile.
use Rattle.std.proofs.Common.{◌≡◌, ℕ, ◌<◌, ◌⊎◌, ◌==◌, Bool, true, false, Option, Some, None, Result, Ok, Err, length, refl, sym, ap, ◌∙◌}
use Rattle.std.proofs.Common.{subst, inl, inr, arith}
use Rattle.std.specs.Prelude.{if◌then◌else◌}
use Rattle.std.proofs.lemmas.Bool.Decides.{eqb_tells}
use Rattle.std.proofs.lemmas.List.{length-set, get_or-set_same, get_or-set_other}
use Rattle.std.proofs.lemmas.List.Quantifiers.{position-Some}
use Rattle.shared_words.specs.Lists.{has}
use Rattle.cover_problem.specs.Problem.{is_same}
use Rattle.x_steps.specs.StateValue.{StateValue}
use Rattle.x_steps.specs.Steps.{next}
use Rattle.x_steps.specs.Before.{prev}
use Rattle.x_branches.specs.Branch.{end_of}
use Rattle.x_branches.specs.Refusals.{most_steps, untried_in}
use Rattle.x_branches.specs.Untried.{with_choice}
use Rattle.x_branches.specs.Runner.{unposted_steps}
use Rattle.lab_history.specs.declared.grant.Grant.{Grant}
use Rattle.lab_book.specs.States.{same_state}
use Rattle.lab_book.specs.Calls.{post_of}
use Rattle.lab_history.specs.declared.fault.BookFault.{BookFault}
use Rattle.lab_history.specs.declared.entry.Call.{Call}
use Rattle.lab_history.specs.declared.entry.Call.TheVariants as call
use Rattle.lab_book.specs.Tile.{TileValue, is_waiting}
use Rattle.lab_book.specs.Tiling.{tile_at, no_tile, IsTiling}
use Rattle.lab_book.specs.Book.{BookValue, Outcome, outcome, book_step, found, made_at, lent, lent_any, first_waiting, status_fault}
use Rattle.lab_world.specs.declared.event.Act.{Act}
use Rattle.lab_world.specs.declared.event.Act.TheVariants.{Step, Back, Lease, LeaseAny, TakeHeld, Post, Split, Retract, Park, Abandon}
use Rattle.lab_world.specs.declared.event.Act.TheVariants.{Close, PutBack, RequestStop}
use Rattle.lab_world.specs.declared.event.WorldEvent.{WorldEvent}
use Rattle.lab_history.specs.declared.ending.Ending.{Ending}
use Rattle.lab_history.specs.declared.ending.Ending.TheVariants as ending
use Rattle.lab_world.specs.declared.worker.leases.Wanted.{Wanted}
use Rattle.lab_world.specs.declared.worker.leases.Wanted.TheVariants as wanted
use Rattle.lab_history.specs.Ending.{call_of_end}
use Rattle.lab_world.specs.Worker.{leased_by, WorkerValue, HasTile, moved_to, unposted, split_call, is_wanted, lease_call}
use Rattle.lab_world.specs.Worker.{after_end, lent_worker}
use Rattle.lab_world.specs.World.{WorldValue, Turn, turn_of, stepped, stepped_back, splitting, retracting, IsSeat, IsWorld, worker_at}
use Rattle.lab_world.specs.World.{world_step}
use Rattle.lab_world.proofs.HoldLemmas.{found_ok, lease_outcome}
use Rattle.lab_world.proofs.OtherLemmas.{lease_leaves, lease_any_leaves, post_leaves, retract_leaves, split_leaves, end_leaves}
use Rattle.lab_world.proofs.OtherLemmas.{put_back_leaves, stop_leaves}
use Rattle.lab_world.proofs.OwnLemmas.{Has, lent_to, lent_is, lent_has, post_has, split_has, retract_has, end_has}

-- ---- what was leased

module _ (b : BookValue) (w : ℕ) (tiling : IsTiling b.problem b.branch b.first b.tiles) where
  -- a tile that is leased is its worker's
  lent_seat : (c : Call) (i : ℕ) → i < length b.tiles → outcome b w c ≡ lent b w i → IsSeat (book_step b w c) w (leased_by b w c)
  lent_seat c i l e =
      let worker = lent_to b.problem (tile_at b.tiles i) w (length b.history) in
      subst (IsSeat (book_step b w c) w) (sym (ap (λ (o : Outcome). lent_worker b.problem o.reply) e ∙ lent_is b w i tiling l))
      (refl, record { problem = refl; tile = subst (λ (o : Outcome). HasTile o.tiles worker) (sym e) (lent_has b w i tiling l) })

  none_seat : (c : Call) → leased_by b w c ≡ None → IsSeat (book_step b w c) w (leased_by b w c)
  none_seat c e = subst (IsSeat (book_step b w c) w) (sym e) tt

  found_seat : (c : Call) (r : Result ℕ BookFault) → outcome b w c ≡ made_at b.tiles (lent b w) r
      → ((i : ℕ) → r ≡ Ok i → i < length b.tiles) → IsSeat (book_step b w c) w (leased_by b w c)
  found_seat c (Ok i) e l = lent_seat c i (l i refl) e
  found_seat c (Err f) e l = none_seat c (ap (λ (o : Outcome). lent_worker b.problem o.reply) e)

  pub lease_seat : (want : Wanted) (id : ℕ) → IsSeat (book_step b w (lease_call want id)) w (leased_by b w (lease_call want id))
  lease_seat want id =
      let check = λ (t : TileValue). status_fault (is_wanted want t.status) t in
      found_seat (lease_call want id) (found b.tiles id check) (lease_outcome b w want id) (λ i e. (found_ok b.tiles id check i e).0)

  any_seat : (r : Option ℕ) → first_waiting b.tiles ≡ r → outcome b w call.LeaseAny ≡ lent_any b w r
      → IsSeat (book_step b w call.LeaseAny) w (leased_by b w call.LeaseAny)
  any_seat None f e = none_seat call.LeaseAny (ap (λ (o : Outcome). lent_worker b.problem o.reply) e)
  any_seat (Some i) f e = lent_seat call.LeaseAny i (position-Some (λ (t : TileValue). is_waiting t.status) b.tiles i no_tile f).0 e

  pub lease_any_seat : IsSeat (book_step b w call.LeaseAny) w (leased_by b w call.LeaseAny)
  unfolding outcome
  lease_any_seat = any_seat (first_waiting b.tiles) refl refl

-- ---- the worker that acts

-- what both of two turns have
pub either : (P : Turn → Type 0) (c : Bool) (t u : Turn) → P t → P u → P (if c then t else u)
either P true t u a b = a
either P false t u a b = b

-- a turn's seat
abbrev Keeps : ℕ → Turn → Type 0
Keeps w t = IsSeat t.book w t.worker

module _ (b : BookValue) (w : ℕ) (tiling : IsTiling b.problem b.branch b.first b.tiles) where
  -- its runner stands elsewhere
  moved_keeps : (x : WorkerValue) (s : StateValue) → IsSeat b w (Some x) → IsSeat b w (Some (moved_to x s))
  moved_keeps x s k = (
    k.0,
    record {
      problem = k.1.problem;
      tile = record {
        place = k.1.tile.place;
        within = k.1.tile.within;
        tile = record {
          named = k.1.tile.tile.named;
          leased = k.1.tile.tile.leased;
          branch = k.1.tile.tile.branch;
          mark = k.1.tile.tile.mark;
        };
      };
    },
  )

  step_keeps : (x : WorkerValue) → IsSeat b w (Some x) → Keeps w (stepped b x)
  step_keeps x k =
      either (Keeps w) (same_state x.runner.position (end_of x.runner.branch.hi)) _ _ k
      (either (Keeps w) (unposted_steps x.runner == most_steps) _ _ k (moved_keeps x (next x.runner.problem x.runner.position) k))

  back_keeps : (x : WorkerValue) → IsSeat b w (Some x) → Keeps w (stepped_back b x)
  back_keeps x k = either (Keeps w) (same_state x.runner.position x.runner.mark) _ _ k
      (moved_keeps x (prev x.runner.problem x.runner.position) k)

  own_seat : (x : WorkerValue) (u : ℕ) (c : Call) (y : Option WorkerValue) → x.grant.worker ≡ w
      → Has b.problem x.grant (outcome b u c).tiles y → IsSeat (book_step b u c) w y
  own_seat x u c None k h = tt
  own_seat x u c (Some y) k h = (ap (λ (g : Grant). g.worker) h.1 ∙ k, record { problem = h.0; tile = h.2 })

  retract_keeps : (x : WorkerValue) → IsSeat b w (Some x) → Keeps w (retracting b x)
  retract_keeps x k =
      either (Keeps w) (unposted_steps x.runner == 0) _ _
      (own_seat x x.grant.worker (call.Retract x.grant) _ k.0 (retract_has b x tiling k.1 x.grant.worker)) k

  split_keeps : (x : WorkerValue) (level o : ℕ) → IsSeat b w (Some x) → Keeps w (splitting b level o x)
  split_keeps x level o k =
      let path = with_choice x.runner.position level o in
      either (Keeps w) (has (untried_in x.runner level) o) _ _
      (own_seat x x.grant.worker (split_call x path) _ k.0 (split_has b x tiling k.1 x.grant.worker path)) k

  end_keeps : (x : WorkerValue) (e : Ending) → IsSeat b w (Some x)
      → IsSeat (book_step b x.grant.worker (call_of_end e x.grant)) w (after_end x (outcome b x.grant.worker (call_of_end e x.grant)).reply)
  end_keeps x e k = own_seat x x.grant.worker (call_of_end e x.grant) _ k.0 (end_has b x tiling k.1 x.grant.worker e)

  -- a call that leaves its tile
  same_seat : (x : WorkerValue) (c : Call) → HasTile (outcome b w c).tiles x → IsSeat b w (Some x) → IsSeat (book_step b w c) w (Some x)
  same_seat x c h k = (k.0, record { problem = k.1.problem; tile = h })

  pub turn_keeps : (x : Option WorkerValue) (a : Act) → IsSeat b w x → Keeps w (turn_of b x w a)
  unfolding turn_of
  turn_keeps None Step k = tt
  turn_keeps None Back k = tt
  turn_keeps None (Lease id) k = lease_seat b w tiling wanted.Waiting id
  turn_keeps None LeaseAny k = lease_any_seat b w tiling
  turn_keeps None (TakeHeld id) k = lease_seat b w tiling wanted.Held id
  turn_keeps None Post k = tt
  turn_keeps None (Split level o) k = tt
  turn_keeps None Retract k = tt
  turn_keeps None Park k = tt
  turn_keeps None Abandon k = tt
  turn_keeps None Close k = tt
  turn_keeps None (PutBack id s) k = tt
  turn_keeps None (RequestStop id) k = tt
  turn_keeps (Some x) Step k = step_keeps x k
  turn_keeps (Some x) Back k = back_keeps x k
  turn_keeps (Some x) (Lease id) k = k
  turn_keeps (Some x) LeaseAny k = k
  turn_keeps (Some x) (TakeHeld id) k = k
  turn_keeps (Some x) Post k = own_seat x x.grant.worker (post_of b.problem x.grant (unposted x)) _ k.0
      (post_has b x tiling k.1 x.grant.worker (is_same x.runner.problem b.problem))
  turn_keeps (Some x) (Split level o) k = split_keeps x level o k
  turn_keeps (Some x) Retract k = retract_keeps x k
  turn_keeps (Some x) Park k = end_keeps x ending.Park k
  turn_keeps (Some x) Abandon k = end_keeps x ending.Abandon k
  turn_keeps (Some x) Close k = end_keeps x ending.Close k
  turn_keeps (Some x) (PutBack id s) k = same_seat x (call.PutBack id s) (put_back_leaves b w x k.1.tile id s)
      k
  turn_keeps (Some x) (RequestStop id) k = same_seat x (call.RequestStop id) (stop_leaves b w x k.1.tile id) k

-- ---- the others

module _ (b : BookValue) (w v : ℕ) (y : WorkerValue) (other : v ≡ w → ⊥) (k : IsSeat b v (Some y)) where
  -- a call leaves its tile
  left : (u : ℕ) (c : Call) → HasTile (outcome b u c).tiles y → IsSeat (book_step b u c) v (Some y)
  left u c h = (k.0, record { problem = k.1.problem; tile = h })

  -- a call's book, or the same
  abbrev Leaves : Turn → Type 0
  Leaves t = IsSeat t.book v (Some y)

  not_own : (x : WorkerValue) → x.grant.worker ≡ w → y.grant.worker ≡ x.grant.worker → ⊥
  not_own x e h = other (sym k.0 ∙ h ∙ e)

  end_left : (x : WorkerValue) (e : Ending) → IsSeat b w (Some x) → IsSeat (book_step b x.grant.worker (call_of_end e x.grant)) v (Some y)
  end_left x e h = left x.grant.worker (call_of_end e x.grant) (end_leaves b x.grant.worker y k.1.tile x.grant (not_own x h.0) e)

  leaves : (x : Option WorkerValue) (a : Act) → IsSeat b w x → Leaves (turn_of b x w a)
  unfolding turn_of
  leaves None Step h = k
  leaves None Back h = k
  leaves None (Lease id) h = left w (call.Lease id) (lease_leaves b w y k.1.tile wanted.Waiting id)
  leaves None LeaseAny h = left w call.LeaseAny (lease_any_leaves b w y k.1.tile)
  leaves None (TakeHeld id) h = left w (call.TakeHeld id) (lease_leaves b w y k.1.tile wanted.Held id)
  leaves None Post h = k
  leaves None (Split level o) h = k
  leaves None Retract h = k
  leaves None Park h = k
  leaves None Abandon h = k
  leaves None Close h = k
  leaves None (PutBack id s) h = left w (call.PutBack id s) (put_back_leaves b w y k.1.tile id s)
  leaves None (RequestStop id) h = left w (call.RequestStop id) (stop_leaves b w y k.1.tile id)
  leaves (Some x) Step h = either Leaves (same_state x.runner.position (end_of x.runner.branch.hi)) _ _ k
      (either Leaves (unposted_steps x.runner == most_steps) _ _ k k)
  leaves (Some x) Back h = either Leaves (same_state x.runner.position x.runner.mark) _ _ k k
  leaves (Some x) (Lease id) h = k
  leaves (Some x) LeaseAny h = k
  leaves (Some x) (TakeHeld id) h = k
  leaves (Some x) Post h = left x.grant.worker (post_of b.problem x.grant (unposted x))
      (post_leaves b x.grant.worker y k.1.tile x.grant (not_own x h.0) x.runner.mark x.runner.position (is_same x.runner.problem b.problem))
  leaves (Some x) Retract h =
      either Leaves (unposted_steps x.runner == 0) _ _
      (left x.grant.worker (call.Retract x.grant) (retract_leaves b x.grant.worker y k.1.tile x.grant (not_own x h.0))) k
  leaves (Some x) (Split level o) h =
      let path = with_choice x.runner.position level o in
      either Leaves (has (untried_in x.runner level) o) _ _
      (left x.grant.worker (split_call x path) (split_leaves b x.grant.worker y k.1.tile x.grant (not_own x h.0) path true)) k
  leaves (Some x) Park h = end_left x ending.Park h
  leaves (Some x) Abandon h = end_left x ending.Abandon h
  leaves (Some x) Close h = end_left x ending.Close h
  leaves (Some x) (PutBack id s) h = left w (call.PutBack id s) (put_back_leaves b w y k.1.tile id s)
  leaves (Some x) (RequestStop id) h = left w (call.RequestStop id) (stop_leaves b w y k.1.tile id)

pub turn_leaves : (b : BookValue) (w v : ℕ) (x y : Option WorkerValue) (a : Act) → (v ≡ w → ⊥) → IsSeat b w x → IsSeat b v y
    → IsSeat (turn_of b x w a).book v y
turn_leaves b w v x None a other h k = tt
turn_leaves b w v x (Some y) a other h k = leaves b w v y other k x a h

-- ---- worlds

pub world_keeps : (v : WorldValue) (e : WorldEvent) → IsTiling v.book.problem v.book.branch v.book.first v.book.tiles
    → e.worker < length v.workers → IsWorld v → IsWorld (world_step v e).world
world_keeps v e tiling l k =
    let t = turn_of v.book (worker_at v.workers e.worker) e.worker e.act in
    let long = length-set v.workers e.worker t.worker in
    record {
      some = let a = k.some in omega arith;
      few = let a = k.few in omega arith;
      holds = λ u m. by u (let n = long in omega arith) (eqb_tells u e.worker);
    }
  where
    by : (u : ℕ) → u < length v.workers → (((u == e.worker) ≡ true) × (u ≡ e.worker)) ⊎ (((u == e.worker) ≡ false) × (u ≡ e.worker → ⊥))
        → IsSeat (world_step v e).world.book u (worker_at (world_step v e).world.workers u)
    by u m (inl h) =
        let t = turn_of v.book (worker_at v.workers e.worker) e.worker e.act in
        subst (λ (i : ℕ). IsSeat t.book i (worker_at (world_step v e).world.workers i)) (sym h.1)
        (subst (IsSeat t.book e.worker) (sym (get_or-set_same v.workers e.worker t.worker None l))
        (turn_keeps v.book e.worker tiling (worker_at v.workers e.worker) e.act (k.holds e.worker l)))
    by u m (inr h) =
        let t = turn_of v.book (worker_at v.workers e.worker) e.worker e.act in
        subst (IsSeat t.book u) (sym (get_or-set_other v.workers e.worker u t.worker None h.1))
        (turn_leaves v.book e.worker u (worker_at v.workers e.worker) (worker_at v.workers u) e.act h.1 (k.holds e.worker l) (k.holds u m))
