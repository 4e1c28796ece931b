-- Each act of worker 0 changes the number of a book's leased tiles as it changes that of its open branches.
use Rattle.std.proofs.Common.{◌≡◌, ℕ, ◌+◌, ◌==◌, Bool, true, false, Option, Some, None, List, [], ◌∷◌, refl, sym, ap, ◌∙◌, subst, arith}
use Rattle.shared_words.specs.Lists.{has}
use Rattle.x_branches.specs.Branch.{end_of}
use Rattle.x_branches.specs.Untried.{with_choice}
use Rattle.x_branches.specs.Refusals.{most_steps, untried_in, cut_at}
use Rattle.x_branches.specs.Runner.{unposted_steps}
use Rattle.lab_history.specs.declared.fault.BookFault.{BookFault}
use Rattle.lab_history.specs.declared.entry.Call.{Call}
use Rattle.lab_history.specs.declared.entry.Call.TheVariants as call
use Rattle.lab_history.specs.declared.entry.Reply.{Reply}
use Rattle.lab_history.specs.declared.entry.Reply.TheVariants as reply
use Rattle.lab_book.specs.States.{same_state}
use Rattle.lab_book.specs.Calls.{post_of}
use Rattle.lab_book.specs.Tile.{TileValue, is_leased, freed_status}
use Rattle.lab_book.specs.Book.{BookValue, Outcome, outcome, leased_in, found, made_at, unless, settled, freed, lease_fault, end_fault}
use Rattle.lab_book.specs.Book as book
use Rattle.lab_world.specs.declared.event.Act.{Act}
use Rattle.lab_world.specs.declared.event.Act.TheVariants.{Step, Back, Lease, LeaseAny, TakeHeld, Post, Split, Retract, Park, Abandon}
use Rattle.lab_world.specs.declared.event.Act.TheVariants.{Close, PutBack, RequestStop}
use Rattle.lab_world.specs.Worker.{WorkerValue, unposted, split_call, after_post, after_split, after_retract, after_end}
use Rattle.lab_world.specs.World.{Turn, turn_of, called, stepped, stepped_back, splitting, retracting, worker_at, played}
use Rattle.lab_world.specs.Alone.{alone, own_events}
use Rattle.lab_world.proofs.OwnLemmas.{own, found_own}
use Rattle.lab_world.proofs.TurnLemmas.{either}
use Rattle.debug_laws.specs.AlikeSessions.{open_branches}
use Rattle.debug_laws.proofs.LeasedLemmas.{one_less, call_counts, keeps_leases, lease_counts, take_counts, lease_any_counts}
use Rattle.debug_laws.proofs.TurnLemmas.{IsSoundSeat, turn_sound}

-- as many tiles more are leased as branches are open
abbrev pub Balanced : BookValue → Option WorkerValue → BookValue → Option WorkerValue → Type 0
Balanced b x c y = leased_in c.tiles + open_branches x ≡ leased_in b.tiles + open_branches y

module _ (b : BookValue) where
  abbrev Balances : Option WorkerValue → Turn → Type 0
  Balances x t = Balanced b x t.book t.worker

  -- a call that begins no lease and ends none
  keeps_balance : (x : Option WorkerValue) (w : ℕ) (c : Call) (becomes : Reply → Option WorkerValue) → keeps_leases c ≡ true
      → ((r : Reply) → open_branches (becomes r) ≡ open_branches x) → Balances x (called b w c becomes)
  keeps_balance x w c becomes e stays =
      let n = call_counts b w c e in
      let m = stays (outcome b w c).reply in omega arith

module _ (b : BookValue) (w : WorkerValue) (p : IsSoundSeat b (Some w)) where
  abbrev its : TileValue
  its = own b w p.tiling p.seat.1

  -- its lease is ended, or the book refuses that
  end_balance : (change : TileValue → TileValue) → is_leased (change its).status ≡ false → (next : TileValue → Option BookFault) (o : Outcome)
      → o ≡ made_at b.tiles (settled b change) (found b.tiles w.grant.id (λ t. lease_fault w.grant t (next t)))
      → leased_in o.tiles + 1 ≡ leased_in b.tiles + open_branches (after_end w o.reply)
  end_balance change free next o e =
      subst (λ (o : Outcome). leased_in o.tiles + 1 ≡ leased_in b.tiles + open_branches (after_end w o.reply))
      (sym (e ∙ ap (made_at b.tiles (settled b change)) (found_own b w p.tiling p.seat.1 next))) (by (next its))
    where
      made : Option BookFault → Outcome
      made d = made_at b.tiles (settled b change) (unless p.seat.1.tile.place d)

      by : (d : Option BookFault) → leased_in (made d).tiles + 1 ≡ leased_in b.tiles + open_branches (after_end w (made d).reply)
      by None =
          let n = one_less b.tiles p.seat.1.tile.place (change its) p.seat.1.tile.within (ap is_leased p.seat.1.tile.tile.leased) free in
          omega arith
      by (Some f) = refl

  freed_free : (stop : Bool) → is_leased (freed_status stop) ≡ false
  freed_free true = refl
  freed_free false = refl

  park_balance : Balances b (Some w) (turn_of b (Some w) 0 Park)
  unfolding turn_of outcome
  park_balance = end_balance freed (freed_free its.stop) (λ t. None) (outcome b w.grant.worker (call.Park w.grant)) refl

  abandon_balance : Balances b (Some w) (turn_of b (Some w) 0 Abandon)
  unfolding turn_of outcome
  abandon_balance = end_balance freed (freed_free its.stop) (λ t. None) (outcome b w.grant.worker (call.Abandon w.grant)) refl

  close_balance : Balances b (Some w) (turn_of b (Some w) 0 Close)
  unfolding turn_of outcome
  close_balance = end_balance book.closed refl end_fault (outcome b w.grant.worker (call.Close w.grant)) refl

-- a post, a split and a retract leave the worker its branch
post_open : (w : WorkerValue) (r : Reply) → open_branches (after_post w r) ≡ 1
post_open w (reply.Posted stop n) = refl
post_open w _ = refl

module _ (b : BookValue) (w : WorkerValue) where
  split_open : (level o : ℕ) (r : Reply) → open_branches (after_split w (cut_at w.runner level o) r) ≡ 1
  split_open level o (reply.Split id) = refl
  split_open level o _ = refl

  retract_open : (r : Reply) → open_branches (after_retract w r) ≡ 1
  retract_open (reply.Retracted from to) = refl
  retract_open _ = refl

  step_balance : Balances b (Some w) (stepped b w)
  step_balance =
      either (Balances b (Some w)) (same_state w.runner.position (end_of w.runner.branch.hi)) _ _ refl
      (either (Balances b (Some w)) (unposted_steps w.runner == most_steps) _ _ refl refl)

  back_balance : Balances b (Some w) (stepped_back b w)
  back_balance = either (Balances b (Some w)) (same_state w.runner.position w.runner.mark) _ _ refl refl

  split_balance : (level o : ℕ) → Balances b (Some w) (splitting b level o w)
  split_balance level o =
      either (Balances b (Some w)) (has (untried_in w.runner level) o) _ _
      (keeps_balance b (Some w) w.grant.worker (split_call w (with_choice w.runner.position level o)) (after_split w (cut_at w.runner level o)) refl
      (split_open level o)) refl

  retract_balance : Balances b (Some w) (retracting b w)
  retract_balance =
      either (Balances b (Some w)) (unposted_steps w.runner == 0) _ _
      (keeps_balance b (Some w) w.grant.worker (call.Retract w.grant) (after_retract w) refl retract_open) refl

pub turn_balance : (b : BookValue) (x : Option WorkerValue) (a : Act) → IsSoundSeat b x
    → Balanced b x (turn_of b x 0 a).book (turn_of b x 0 a).worker
unfolding turn_of
turn_balance b None (Lease id) h = let n = lease_counts b 0 b.problem id in omega arith
turn_balance b None LeaseAny h = let n = lease_any_counts b 0 b.problem in omega arith
turn_balance b None (TakeHeld id) h = let n = take_counts b 0 b.problem id in omega arith
turn_balance b None (PutBack id s) h = keeps_balance b None 0 (call.PutBack id s) (λ r. None) refl (λ r. refl)
turn_balance b None (RequestStop id) h = keeps_balance b None 0 (call.RequestStop id) (λ r. None) refl (λ r. refl)
turn_balance b None _ h = refl
turn_balance b (Some w) Step h = step_balance b w
turn_balance b (Some w) Back h = back_balance b w
turn_balance b (Some w) (Lease id) h = refl
turn_balance b (Some w) LeaseAny h = refl
turn_balance b (Some w) (TakeHeld id) h = refl
turn_balance b (Some w) Post h =
    keeps_balance b (Some w) w.grant.worker (post_of b.problem w.grant (unposted w)) (after_post w) refl (post_open w)
turn_balance b (Some w) (Split level o) h = split_balance b w level o
turn_balance b (Some w) Retract h = retract_balance b w
turn_balance b (Some w) Park h = park_balance b w h
turn_balance b (Some w) Abandon h = abandon_balance b w h
turn_balance b (Some w) Close h = close_balance b w h
turn_balance b (Some w) (PutBack id s) h = keeps_balance b (Some w) 0 (call.PutBack id s) (λ r. Some w) refl (λ r. refl)
turn_balance b (Some w) (RequestStop id) h = keeps_balance b (Some w) 0 (call.RequestStop id) (λ r. Some w) refl (λ r. refl)

-- and many acts do
pub acts_balance : (acts : List Act) (b : BookValue) (x : Option WorkerValue) → IsSoundSeat b x
    → let v = played (alone b x) (own_events acts) in Balanced b x v.book (worker_at v.workers 0)
acts_balance [] b x h = refl
acts_balance (a ∷ acts) b x h =
    let t = turn_of b x 0 a in
    let one = turn_balance b x a h in
    let more = acts_balance acts t.book t.worker (turn_sound b x a h) in omega arith
