-- What a worker's own call leaves it: the tile that it leased, and its tile after a post or a retract.
use Rattle.std.proofs.Common.{◌≡◌, ℕ, zero, suc, ◌<◌, ◌-◌, Bool, true, Option, Some, None, List, [], ◌∷◌, ◌++◌, length, take, refl, sym, ap}
use Rattle.std.proofs.Common.{ap₂, ◌∙◌, subst, arith, unwrap_or, is_some}
use Rattle.std.proofs.Math.ListN.{set}
use Rattle.std.proofs.lemmas.List.{length-set, get_or-set_same}
use Rattle.cover_problem.specs.Problem.{ProblemValue}
use Rattle.x_steps.specs.StateValue.{StateValue}
use Rattle.x_branches.specs.declared.branch.Branch.{Branch}
use Rattle.x_branches.specs.Cut.{CutPath}
use Rattle.x_branches.specs.Runner.{IsOf, runner_at}
use Rattle.x_branches.specs.Stretch.{StretchValue}
use Rattle.lab_history.specs.declared.grant.Grant.{Grant}
use Rattle.lab_history.specs.declared.fault.BookFault.{BookFault}
use Rattle.lab_history.specs.declared.fault.BookFault.TheVariants.{StaleLease}
use Rattle.lab_history.specs.declared.entry.Call.TheVariants as call
use Rattle.lab_history.specs.declared.entry.Reply.{Reply}
use Rattle.lab_history.specs.declared.entry.Reply.TheVariants as reply
use Rattle.lab_book.specs.Tile.{TileValue, IsTile, Join, led_to, mark_of}
use Rattle.lab_book.specs.Tiling.{tile_at, no_tile, IsTiling}
use Rattle.lab_book.specs.Book.{BookValue, Outcome, outcome, found, unless, made_at, lent, lent_tile, cut_path, posted, split, head_tile}
use Rattle.lab_book.specs.Book.{tail_tile, retracted, last_stretch, settled, freed, closed, else_fault, lease_fault, stretch_fault, cut_fault}
use Rattle.lab_book.specs.Book.{retract_fault, end_fault}
use Rattle.lab_book.proofs.TileLemmas.{mark_push}
use Rattle.lab_book.proofs.TilingLemmas.{tile_in}
use Rattle.lab_history.specs.declared.ending.Ending.{Ending}
use Rattle.lab_history.specs.declared.ending.Ending.TheVariants as ending
use Rattle.lab_history.specs.Ending.{call_of_end}
use Rattle.lab_world.specs.Worker.{WorkerValue, IsWorkers, HasTile, HoldsTile, lent_worker, cut_along, marked_at, shortened}
use Rattle.lab_world.specs.Worker.{after_post, after_split, after_retract, after_end}
use Rattle.lab_world.proofs.HoldLemmas.{found_at, own_lease, passed, kept_parted}

-- ---- a tile is leased

-- a cut of the problem, from its choices
pub cut_back : (p : ProblemValue) (cut : Option CutPath) → IsOf p cut → cut_along p (cut_path cut) ≡ cut
cut_back p None h = refl
cut_back p (Some c) h = ap (λ (q : ProblemValue). Some (record { problem = q; path = c.path })) (sym h)

-- the worker that leases a tile
abbrev pub lent_to : ProblemValue → TileValue → ℕ → ℕ → WorkerValue
lent_to p t w index = record { grant = record { id = t.id; worker = w; index = index }; runner = runner_at p t.branch (mark_of t) }

module _ (b : BookValue) (w i : ℕ) (tiling : IsTiling b.problem b.branch b.first b.tiles) (within : i < length b.tiles) where
  pub lent_is : lent_worker b.problem (lent b w i).reply ≡ Some (lent_to b.problem (tile_at b.tiles i) w (length b.history))
  lent_is =
      let t = tile_at b.tiles i in
      let tile = tile_in b.problem b.branch.lo b.first b.tiles b.branch.hi i tiling.tiles within in
      ap₂ (λ (lo hi : Option CutPath). Some (record {
        grant = record { id = t.id; worker = w; index = length b.history };
        runner = runner_at b.problem (record { lo = lo; hi = hi }) (mark_of t);
      }))
      (cut_back b.problem t.branch.lo tile.branch.low) (cut_back b.problem t.branch.hi tile.branch.high)

  pub lent_has : HasTile (lent b w i).tiles (lent_to b.problem (tile_at b.tiles i) w (length b.history))
  lent_has =
      let t = tile_at b.tiles i in
      let u = lent_tile t w (length b.history) in
      record {
        place = i;
        within = let m = length-set b.tiles i u in omega arith;
        tile = subst (λ (v : TileValue). IsWorkers v (lent_to b.problem t w (length b.history)))
            (sym (get_or-set_same b.tiles i u no_tile within)) (record { named = refl; leased = refl; branch = refl; mark = refl });
      }

-- ---- a worker's own tile

-- joined stretches end where the last one begins, without it
join_last : (p : ProblemValue) (s : StateValue) (xs : List StretchValue) (x : StretchValue) (n : ℕ) → suc n ≡ length xs → Join p s xs
    → last_stretch xs ≡ Some x → led_to s (take n xs) ≡ x.from
join_last p s [] x n l j e = absurd (omega arith)
join_last p s (y ∷ []) x zero l j e = let h : y ≡ x = cc in sym j.1 ∙ ap (λ (z : StretchValue). z.from) h
join_last p s (y ∷ []) x (suc n) l j e = absurd (omega arith)
join_last p s (y ∷ z ∷ zs) x zero l j e = absurd (omega arith)
join_last p s (y ∷ z ∷ zs) x (suc n) l j e = join_last p y.to (z ∷ zs) x n (omega arith) j.3 e

-- a list with a last stretch isn't empty
some_last : (xs : List StretchValue) (x : StretchValue) → last_stretch xs ≡ Some x → 0 < length xs
some_last [] x e = absurd (cc)
some_last (y ∷ ys) x e = omega arith

pub some_is : {X : Type 0} (o : Option X) (d : X) → is_some o ≡ true → o ≡ Some (unwrap_or o d)
some_is None d e = absurd (cc)
some_is (Some x) d e = refl

-- what becomes of a worker has its tile among these, and the worker's lease
abbrev pub Has : ProblemValue → Grant → List TileValue → Option WorkerValue → Type 0
Has p g ts None = Unit {0}
Has p g ts (Some y) = (y.runner.problem ≡ p) × (y.grant ≡ g) × HasTile ts y

module _ (b : BookValue) (x : WorkerValue) (tiling : IsTiling b.problem b.branch b.first b.tiles) (h : HoldsTile b x) where
  -- its tile
  abbrev pub own : TileValue
  own = tile_at b.tiles h.tile.place

  -- its lease finds its tile
  pub found_own : (more : TileValue → Option BookFault)
      → found b.tiles x.grant.id (λ (t : TileValue). lease_fault x.grant t (more t)) ≡ unless h.tile.place (more own)
  found_own more =
      found_at b.tiles x.grant.id h.tile.place (λ (t : TileValue). lease_fault x.grant t (more t))
      tiling.numbered h.tile.within h.tile.tile.named
      ∙ ap (λ (test : Bool). unless h.tile.place (else_fault test (StaleLease (mark_of own)) (more own)))
      (own_lease own.status x.grant h.tile.tile.leased)

  -- a call by its lease changes its tile, or is refused
  by_own : (becomes : Reply → Option WorkerValue) (change : ℕ → Outcome) (o : Outcome) (d : Option BookFault)
      → o ≡ made_at b.tiles change (unless h.tile.place d)
      → (d ≡ None → Has b.problem x.grant (change h.tile.place).tiles (becomes (change h.tile.place).reply))
      → ((f : BookFault) → becomes (reply.Refused f) ≡ Some x) → Has b.problem x.grant o.tiles (becomes o.reply)
  by_own becomes change o d e made refused = subst (λ (o : Outcome). Has b.problem x.grant o.tiles (becomes o.reply)) (sym e) (by d refl)
    where
      by : (r : Option BookFault) → d ≡ r → Has b.problem x.grant (made_at b.tiles change (unless h.tile.place r)).tiles
          (becomes (made_at b.tiles change (unless h.tile.place r)).reply)
      by None n = made n
      by (Some f) n = subst (Has b.problem x.grant b.tiles) (sym (refused f)) (h.problem, refl, h.tile)

  -- its tile with other stretches
  pub with_stretches : (xs : List StretchValue) (mark : StateValue) → mark ≡ led_to own.first xs
      → HasTile (set b.tiles h.tile.place (record own { stretches = xs })) (marked_at x mark)
  with_stretches xs mark e =
      let u : TileValue = record own { stretches = xs } in
      record {
        place = h.tile.place;
        within = let m = length-set b.tiles h.tile.place u in let l = h.tile.within in omega arith;
        tile = subst (λ (v : TileValue). IsWorkers v (marked_at x mark))
            (sym (get_or-set_same b.tiles h.tile.place u no_tile h.tile.within))
            (record { named = h.tile.tile.named; leased = h.tile.tile.leased; branch = h.tile.tile.branch; mark = e });
      }

  pub post_has : (w : ℕ) (same : Bool) → Has b.problem x.grant (outcome b w (call.Post x.grant x.runner.mark x.runner.position same)).tiles
      (after_post x (outcome b w (call.Post x.grant x.runner.mark x.runner.position same)).reply)
  unfolding outcome
  post_has w same =
      let s : StretchValue = record { problem = b.problem; from = x.runner.mark; to = x.runner.position } in
      by_own (after_post x) (posted b x.runner.mark x.runner.position)
      (outcome b w (call.Post x.grant x.runner.mark x.runner.position same))
      (stretch_fault b.problem x.runner.mark x.runner.position same own)
      (ap (made_at b.tiles (posted b x.runner.mark x.runner.position))
      (found_own (stretch_fault b.problem x.runner.mark x.runner.position same)))
      (λ n. (h.problem, refl, with_stretches (own.stretches ++ s ∷ []) x.runner.position (sym (mark_push own.first own.stretches s))))
      (λ f. refl)

  -- the last of its tile's stretches
  abbrev pub last_own : StretchValue
  last_own = unwrap_or (last_stretch own.stretches) (record { problem = b.problem; from = own.first; to = own.first })

  pub own_is_tile : IsTile b.problem own
  own_is_tile = tile_in b.problem b.branch.lo b.first b.tiles b.branch.hi h.tile.place tiling.tiles h.tile.within

  last_from : last_stretch own.stretches ≡ Some last_own → last_own.from ≡ led_to own.first (take (length own.stretches - 1) own.stretches)
  last_from e =
      let m = some_last own.stretches last_own e in
      sym (join_last b.problem own.first own.stretches last_own (length own.stretches - 1) (omega arith) own_is_tile.joins e)

  pub retract_has : (w : ℕ) → Has b.problem x.grant (outcome b w (call.Retract x.grant)).tiles
      (after_retract x (outcome b w (call.Retract x.grant)).reply)
  unfolding outcome
  retract_has w =
      by_own (after_retract x) (retracted b) (outcome b w (call.Retract x.grant)) (retract_fault own)
      (ap (made_at b.tiles (retracted b)) (found_own retract_fault))
      (λ n. (
        h.problem,
        refl,
        with_stretches (take (length own.stretches - 1) own.stretches) last_own.from
            (last_from (some_is _ _ (passed _ _ _ n).0)),
      ))
      (λ f. refl)

  -- its tile that is split at a cut ends there
  pub split_tile : (path : List ℕ) → HasTile (split b path h.tile.place).tiles
      (shortened x (record { problem = x.runner.problem; path = path }))
  split_tile path =
      let c : CutPath = record { problem = b.problem; path = path } in
      let y = shortened x (record { problem = x.runner.problem; path = path }) in
      let u = head_tile own c in
      let same : record { problem = x.runner.problem; path = path }
      ≡ c = ap (λ (p : ProblemValue). record { problem = p; path = path }) h.problem in
      let branch : y.runner.branch ≡ u.branch =
      ap₂ (λ (k : Branch) (c : CutPath). record { lo = k.lo; hi = Some c }) h.tile.tile.branch same in
      kept_parted b.tiles y h.tile.place u (tail_tile (length b.tiles) own c) h.tile.within
      (record {
        place = h.tile.place;
        within = let m = length-set b.tiles h.tile.place u in let l = h.tile.within in omega arith;
        tile = subst (λ (v : TileValue). IsWorkers v y) (sym (get_or-set_same b.tiles h.tile.place u no_tile h.tile.within))
            (record { named = h.tile.tile.named; leased = h.tile.tile.leased; branch = branch; mark = h.tile.tile.mark });
      })

  pub split_has : (w : ℕ) (path : List ℕ) → Has b.problem x.grant (outcome b w (call.Split x.grant path true)).tiles
      (after_split x (record { problem = x.runner.problem; path = path }) (outcome b w (call.Split x.grant path true)).reply)
  unfolding outcome
  split_has w path =
      by_own (after_split x (record { problem = x.runner.problem; path = path })) (split b path)
      (outcome b w (call.Split x.grant path true)) (cut_fault b.problem path true own)
      (ap (made_at b.tiles (split b path)) (found_own (cut_fault b.problem path true)))
      (λ n. (h.problem, refl, split_tile path))
      (λ f. refl)

  -- a lease that is ended
  pub end_has : (w : ℕ) (e : Ending) → Has b.problem x.grant (outcome b w (call_of_end e x.grant)).tiles
      (after_end x (outcome b w (call_of_end e x.grant)).reply)
  unfolding outcome
  end_has w ending.Park =
      by_own (after_end x) (settled b freed) (outcome b w (call.Park x.grant)) None
      (ap (made_at b.tiles (settled b freed)) (found_own (λ (t : TileValue). None))) (λ n. tt) (λ f. refl)
  end_has w ending.Abandon =
      by_own (after_end x) (settled b freed) (outcome b w (call.Abandon x.grant)) None
      (ap (made_at b.tiles (settled b freed)) (found_own (λ (t : TileValue). None))) (λ n. tt) (λ f. refl)
  end_has w ending.Close =
      by_own (after_end x) (settled b closed) (outcome b w (call.Close x.grant)) (end_fault own)
      (ap (made_at b.tiles (settled b closed)) (found_own end_fault)) (λ n. tt) (λ f. refl)
