-- What a call of a book leaves is a tiling, where its tiles are one.
use Rattle.std.proofs.Common.{◌≡◌, ℕ, suc, ◌-◌, ◌<◌, Bool, true, false, cond, not, Option, Some, None, List, [], ◌∷◌}
use Rattle.std.proofs.Common.{length, take, refl, sym, ap, ◌∙◌, subst, is_some, unwrap_or}
use Rattle.std.proofs.Math.ListN.{set}
use Rattle.std.proofs.lemmas.Bool.{false≢true, not-true}
use Rattle.std.proofs.lemmas.List.Quantifiers.{position-Some}
use Rattle.cover_problem.specs.Problem.{ProblemValue}
use Rattle.x_steps.specs.StateValue.{StateValue}
use Rattle.x_branches.specs.RunOrder.{comes_before}
use Rattle.x_branches.specs.Cut.{IsCut}
use Rattle.x_branches.specs.Stretch.{StretchValue, IsStretch}
use Rattle.lab_book.specs.declared.status.Status.{Status}
use Rattle.lab_book.specs.declared.status.Status.TheVariants as status
use Rattle.lab_history.specs.declared.grant.Grant.{Grant}
use Rattle.lab_history.specs.declared.fault.BookFault.{BookFault}
use Rattle.lab_history.specs.declared.fault.BookFault.TheVariants.{NotAtEnd, NotWaiting, NotAMark, StaleLease, ForeignProblem, BeyondEnd}
use Rattle.lab_history.specs.declared.entry.Call.{Call}
use Rattle.lab_history.specs.declared.entry.Call.TheVariants as call
use Rattle.lab_book.specs.States.{same_state}
use Rattle.lab_book.specs.Tile.{TileValue, IsTile, Stands, is_waiting, is_held, is_leased, is_closed, is_free, is_lease, freed_status}
use Rattle.lab_book.specs.Tile.{asked_status, mark_of, tile_end}
use Rattle.lab_book.specs.Tiling.{IsTiling, tile_at, no_tile}
use Rattle.lab_book.specs.Book.{BookValue, Outcome, outcome, found, made_at, lent, lent_any, first_waiting, posted, posted_tile, split}
use Rattle.lab_book.specs.Book.{settled, freed, closed, put_back, asked_to_stop, retracted, stretches_to, with_stretch}
use Rattle.lab_book.specs.Book.{status_fault, lease_fault, stretch_fault, cut_fault, end_fault, retract_fault, mark_fault}
use Rattle.lab_book.proofs.TileLemmas.{settled_is_tile, part_is_tile, posted_is_tile, same_state_is}
use Rattle.lab_book.proofs.TilingLemmas.{tile_in, tiling_set}
use Rattle.lab_book.proofs.SplitLemmas.{head_is_tile, tail_is_tile}
use Rattle.lab_book.proofs.StepLemmas.{asked_is_tile, free_open, leased_open}
use Rattle.lab_world.proofs.HoldLemmas.{passed}
use Rattle.lab_book_laws.proofs.SplitLemmas.{split_tiling}
use Rattle.lab_book_laws.proofs.PoolCallLemmas.{leased_is, made_leaves}

-- stretches up to a mark are the first ones
to_take : (s m : StateValue) (xs ys : List StretchValue) → stretches_to s m xs ≡ Some ys → (n : ℕ) × (ys ≡ take n xs)
to_take s m [] ys e = by (same_state s m) e
  where
    by : (b : Bool) → cond b (Some []) None ≡ Some ys → (n : ℕ) × (ys ≡ take n [])
    by true e = (0, cc)
    by false e = absurd (cc)
to_take s m (x ∷ xs) ys e = by (same_state s m) (stretches_to s x.to xs) e (λ zs. to_take s x.to xs zs)
  where
    by : (b : Bool) (o : Option (List StretchValue)) → cond b (Some []) (with_stretch x o) ≡ Some ys
        → ((zs : List StretchValue) → o ≡ Some zs → (n : ℕ) × (zs ≡ take n xs)) → (n : ℕ) × (ys ≡ take n (x ∷ xs))
    by true o e r = (0, cc)
    by false None e r = absurd (cc)
    by false (Some zs) e r =
        let q = r zs refl in
        let f : x ∷ zs ≡ ys = cc in (suc q.0, sym f ∙ ap (λ (ws : List StretchValue). x ∷ ws) q.1)

-- what a call has to hold for itself: a stretch is one of the run, a cut is a state of it
abbrev pub IsOfRun : ProblemValue → Call → Type 0
IsOfRun p (call.Post g from to same) = IsStretch p from to
IsOfRun p (call.Split g path same) = IsCut p path
IsOfRun p c = Unit {0}

module _ (b : BookValue) (tiling : IsTiling b.problem b.branch b.first b.tiles) (w : ℕ) where
  abbrev Keeps : List TileValue → Type 0
  Keeps ts = IsTiling b.problem b.branch b.first ts

  -- a tile that has the same branch and first mark comes into the place of one
  put_keeps : (i : ℕ) (u : TileValue) → i < length b.tiles → u.id ≡ (tile_at b.tiles i).id → u.branch ≡ (tile_at b.tiles i).branch
      → u.first ≡ (tile_at b.tiles i).first → (IsTile b.problem (tile_at b.tiles i) → IsTile b.problem u) → Keeps (set b.tiles i u)
  put_keeps i u l e f g k = tiling_set b.problem b.branch b.first b.tiles i u tiling l e f g k

  -- a tile stands otherwise
  stand_keeps : (i : ℕ) (s : Status) (stop : Bool) → i < length b.tiles → Stands s (record (tile_at b.tiles i) { status = s; stop = stop })
      → Keeps (set b.tiles i (record (tile_at b.tiles i) { status = s; stop = stop }))
  stand_keeps i s stop l h = put_keeps i (record (tile_at b.tiles i) { status = s; stop = stop }) l refl refl refl
      (λ k. settled_is_tile b.problem (tile_at b.tiles i) s stop k h)

  pub lent_keeps : (i : ℕ) → i < length b.tiles → Keeps (lent b w i).tiles
  lent_keeps i l = stand_keeps i (status.Leased w (length b.history)) false l tt

  freed_keeps : (i : ℕ) → i < length b.tiles → Keeps (settled b freed i).tiles
  freed_keeps i l = stand_keeps i (freed_status (tile_at b.tiles i).stop) (tile_at b.tiles i).stop l (stands (tile_at b.tiles i).stop refl)
    where
      stands : (s : Bool) → (tile_at b.tiles i).stop ≡ s
          → Stands (freed_status s) (record (tile_at b.tiles i) { status = freed_status s; stop = (tile_at b.tiles i).stop })
      stands true e = e
      stands false e = e

  -- its stretches are others
  back_keeps : (t : TileValue) → is_closed t.status ≡ false → IsTile b.problem t → (mark : StateValue) (o : Option (List StretchValue))
      → stretches_to mark t.first t.stretches ≡ o → is_some o ≡ true → IsTile b.problem (put_back mark t)
  back_keeps t c k mark None e s = absurd (false≢true s)
  back_keeps t c k mark (Some ys) e s =
      let q = to_take mark t.first t.stretches ys e in
      let same : unwrap_or (stretches_to mark t.first t.stretches) t.stretches ≡ take q.0 t.stretches =
      ap (λ (o : Option (List StretchValue)). unwrap_or o t.stretches) e ∙ q.1 in
      subst (λ (xs : List StretchValue). IsTile b.problem (record t { stretches = xs })) (sym same) (part_is_tile b.problem t q.0 k c)

  -- ---- what is made at the place that is found

  -- by a lease
  lease_keeps : (change : ℕ → Outcome) (g : Grant) (next : TileValue → Option BookFault)
      → ((i : ℕ) → i < length b.tiles → is_leased (tile_at b.tiles i).status ≡ true → next (tile_at b.tiles i) ≡ None
      → Keeps (change i).tiles)
      → Keeps (made_at b.tiles change (found b.tiles g.id (λ (t : TileValue). lease_fault g t (next t)))).tiles
  lease_keeps change g next h =
      made_leaves Keeps b.tiles tiling change g.id (λ (t : TileValue). lease_fault g t (next t)) (λ i l n.
      let q = passed (is_lease (tile_at b.tiles i).status g) (StaleLease (mark_of (tile_at b.tiles i))) (next (tile_at b.tiles i)) n in
      h i l (leased_is (tile_at b.tiles i).status g q.0).1 q.1)

  post_keeps : (from to : StateValue) (same : Bool) (i : ℕ) → IsStretch b.problem from to → i < length b.tiles
      → is_leased (tile_at b.tiles i).status ≡ true → stretch_fault b.problem from to same (tile_at b.tiles i) ≡ None
      → Keeps (posted b from to i).tiles
  post_keeps from to same i s l leased n =
      let t = tile_at b.tiles i in
      let q = passed same ForeignProblem _ n in
      let r = passed (same_state from (mark_of t)) (StaleLease (mark_of t)) _ q.1 in
      let v = passed (not (comes_before b.problem (tile_end t) to)) BeyondEnd None r.1 in
      let x : StretchValue = record { problem = b.problem; from = from; to = to } in
      put_keeps i (posted_tile t x) l refl refl refl
      (λ k. posted_is_tile b.problem t x k leased refl s (same_state_is from (mark_of t) r.0) (not-true _ v.0))

  cut_keeps : (path : List ℕ) (same : Bool) (i : ℕ) → IsCut b.problem path → i < length b.tiles
      → is_leased (tile_at b.tiles i).status ≡ true → cut_fault b.problem path same (tile_at b.tiles i) ≡ None
      → Keeps (split b path i).tiles
  cut_keeps path same i c l leased n =
      let t = tile_at b.tiles i in
      let k = tile_in b.problem b.branch.lo b.first b.tiles b.branch.hi i tiling.tiles l in
      let q = passed same ForeignProblem _ n in
      let fine : cut_fault b.problem path true t ≡ None = q.1 in
      split_tiling b.problem b.branch b.first b.tiles i (record { problem = b.problem; path = path }) tiling l
      (head_is_tile b.problem t path (length b.tiles) k leased c fine) (tail_is_tile b.problem t path (length b.tiles) k leased c fine)

  -- ---- each call

  pub call_keeps : (c : Call) → IsOfRun b.problem c → IsTiling b.problem b.branch b.first (outcome b w c).tiles
  unfolding outcome
  call_keeps (call.Lease id) r =
      made_leaves Keeps b.tiles tiling (lent b w) id (λ (t : TileValue). status_fault (is_waiting t.status) t) (λ i l n. lent_keeps i l)
  call_keeps call.LeaseAny r = by (first_waiting b.tiles) refl
    where
      by : (o : Option ℕ) → first_waiting b.tiles ≡ o → Keeps (lent_any b w o).tiles
      by None e = tiling
      by (Some i) e = lent_keeps i (position-Some (λ (t : TileValue). is_waiting t.status) b.tiles i no_tile e).0
  call_keeps (call.TakeHeld id) r =
      made_leaves Keeps b.tiles tiling (lent b w) id (λ (t : TileValue). status_fault (is_held t.status) t) (λ i l n. lent_keeps i l)
  call_keeps (call.Post g from to same) r =
      lease_keeps (posted b from to) g (stretch_fault b.problem from to same) (λ i l h n. post_keeps from to same i r l h n)
  call_keeps (call.Split g path same) r =
      lease_keeps (split b path) g (cut_fault b.problem path same) (λ i l h n. cut_keeps path same i r l h n)
  call_keeps (call.Retract g) r =
      lease_keeps (retracted b) g retract_fault (λ i l h n.
      put_keeps i _ l refl refl refl
      (λ k. part_is_tile b.problem (tile_at b.tiles i) (length (tile_at b.tiles i).stretches - 1) k
      (leased_open (tile_at b.tiles i).status h)))
  call_keeps (call.Park g) r = lease_keeps (settled b freed) g (λ _. None) (λ i l h n. freed_keeps i l)
  call_keeps (call.Abandon g) r = lease_keeps (settled b freed) g (λ _. None) (λ i l h n. freed_keeps i l)
  call_keeps (call.Close g) r =
      lease_keeps (settled b closed) g end_fault (λ i l h n.
      stand_keeps i status.Closed (tile_at b.tiles i).stop l
      (same_state_is (mark_of (tile_at b.tiles i)) (tile_end (tile_at b.tiles i))
      (passed (same_state (mark_of (tile_at b.tiles i)) (tile_end (tile_at b.tiles i))) NotAtEnd None n).0))
  call_keeps (call.PutBack id mark) r =
      made_leaves Keeps b.tiles tiling (settled b (put_back mark)) id (mark_fault mark) (λ i l n.
      let t = tile_at b.tiles i in
      let p = passed (is_free t.status) NotWaiting _ n in
      let q = passed (is_some (stretches_to mark t.first t.stretches)) NotAMark None p.1 in
      put_keeps i (put_back mark t) l refl refl refl
      (λ k. back_keeps t (free_open t.status p.0) k mark (stretches_to mark t.first t.stretches) refl q.0))
  call_keeps (call.RequestStop id) r =
      made_leaves Keeps b.tiles tiling (settled b asked_to_stop) id (λ (t : TileValue). status_fault (not (is_closed t.status)) t) (λ i l n.
      let t = tile_at b.tiles i in
      put_keeps i (asked_to_stop t) l refl refl refl
      (λ k. asked_is_tile b.problem t (asked_status t.status) refl (not-true _ (passed (not (is_closed t.status)) NotWaiting None n).0) k))
