-- A worker's tile is split at a cut that its runner leaves untried: the book doesn't refuse that, and the worker has its tile then.
use Rattle.std.proofs.Common.{◌≡◌, ℕ, true, Some, None, List, length, refl, sym, ap, ◌∙◌, subst, inl, inr, arith}
use Rattle.shared_words.specs.Lists.{has}
use Rattle.cover_problem.proofs.ProblemLemmas.{is_same_decides}
use Rattle.x_steps.specs.Steps.{Fits}
use Rattle.x_branches.specs.Branch.{end_of}
use Rattle.x_branches.specs.Cut.{CutPath, cut_state}
use Rattle.x_branches.specs.Runner.{RunnerValue, IsRunner}
use Rattle.x_branches.specs.Refusals.{untried_in, CanShorten, cut_at}
use Rattle.x_branches.specs.RunOrder.{comes_before}
use Rattle.x_branches.specs.Untried.{with_choice, IsUntried}
use Rattle.x_branches.proofs.CutLemmas.{cut_fits, rank_test, untried_is}
use Rattle.x_branches.proofs.StageLemmas.{comes_rank}
use Rattle.lab_history.specs.declared.fault.BookFault.{BookFault}
use Rattle.lab_history.specs.declared.fault.BookFault.TheVariants.{OutOfMemory}
use Rattle.lab_history.specs.declared.entry.Call.{Call}
use Rattle.lab_history.specs.declared.entry.Call.TheVariants as call
use Rattle.lab_history.specs.declared.entry.Reply.TheVariants as reply
use Rattle.lab_book.specs.Tile.{mark_of, tile_end}
use Rattle.lab_book.specs.Tiling.{IsTiling}
use Rattle.lab_book.specs.Book.{BookValue, Outcome, outcome, book_step, made_at, unless, split, cut_fault}
use Rattle.lab_book.specs.Calls.{Made, Splits, SplitRefused, split_of}
use Rattle.lab_book.proofs.TileLemmas.{end_fits, end_after}
use Rattle.lab_world.specs.Worker.{WorkerValue, HasTile, HoldsTile, split_call, shortened}
use Rattle.lab_world.proofs.OwnLemmas.{found_own, own, own_is_tile, split_tile}

-- ---- the cut

module _ (b : BookValue) (x : WorkerValue) (tiling : IsTiling b.problem b.branch b.first b.tiles) (h : HoldsTile b x)
    (run : IsRunner x.runner) (level o : ℕ) (untried : has (untried_in x.runner level) o ≡ true) where
  abbrev pub path : List ℕ
  path = with_choice x.runner.position level o

  here : Fits x.runner.problem x.runner.position
  here = end_fits x.runner.problem x.runner.mark x.runner.position run.stretch

  last : Fits x.runner.problem (end_of x.runner.branch.hi)
  last =
      let t = own b x tiling h in
      let tile = own_is_tile b x tiling h in
      rw (h.problem, h.tile.tile.branch) (end_fits b.problem (mark_of t) (tile_end t) tile.within)

  pub cut_is : IsUntried x.runner.problem x.runner.position (end_of x.runner.branch.hi) path
  cut_is = untried_is x.runner.problem x.runner.position (end_of x.runner.branch.hi) here last level o untried

  cut_fit : Fits x.runner.problem (cut_state path)
  cut_fit = cut_fits x.runner.problem path cut_is.cut

  after_mark : comes_before x.runner.problem x.runner.mark (cut_state path) ≡ true
  after_mark =
      let a = end_after x.runner.problem x.runner.mark x.runner.position run.stretch in
      let c = comes_rank x.runner.problem x.runner.position (cut_state path) here cut_is.later in
      rank_test x.runner.problem x.runner.mark (cut_state path) run.stretch.fits cut_fit (omega arith)

  before_end : comes_before x.runner.problem (cut_state path) (end_of x.runner.branch.hi) ≡ true
  before_end = rank_test x.runner.problem (cut_state path) (end_of x.runner.branch.hi) cut_fit last
      (comes_rank x.runner.problem (cut_state path) (end_of x.runner.branch.hi) cut_fit cut_is.before_end)

  -- the runner's branch can be ended there
  pub can_shorten : (c d : CutPath) → d ≡ cut_at x.runner level o → c ≡ d → CanShorten x.runner c
  can_shorten c d e k = subst (CanShorten x.runner) (sym (k ∙ e))
      (record { same_problem = refl; later = cut_is.later; before_end = cut_is.before_end })

  -- ---- the book's answer

  -- nothing stands against the cut
  pub fine : cut_fault b.problem path true (own b x tiling h) ≡ None
  fine =
      let a : comes_before b.problem (mark_of (own b x tiling h)) (cut_state path)
      ≡ true = rw (← h.problem, ← h.tile.tile.mark) after_mark in
      let e : comes_before b.problem (cut_state path) (tile_end (own b x tiling h))
      ≡ true = rw (← h.problem, ← h.tile.tile.branch) before_end in
      rw (a, e) refl

  pub split_is : (w : ℕ) → outcome b w (split_call x path) ≡ split b path h.tile.place
  unfolding outcome
  split_is w = ap (made_at b.tiles (split b path)) (found_own b x tiling h (cut_fault b.problem path true) ∙ ap (unless h.tile.place) fine)

  call_is : (c : CutPath) → c ≡ cut_at x.runner level o → split_of b.problem x.grant c ≡ split_call x path
  call_is c e = ap (split_of b.problem x.grant) e ∙ ap (call.Split x.grant path) ((is_same_decides x.runner.problem b.problem).1 h.problem)

  pub split_made : (new : BookValue) (c : CutPath) (id : ℕ) → c ≡ cut_at x.runner level o → Splits b new x.grant c id
      → Made b new x.grant.worker (split_call x path) (reply.Split id)
  split_made new c id e m = subst (λ (k : Call). Made b new x.grant.worker k (reply.Split id)) (call_is c e) m

  -- it refuses a split where memory runs out alone
  pub split_refused : (new : BookValue) (c : CutPath) (f : BookFault) → c ≡ cut_at x.runner level o → SplitRefused b new x.grant c f
      → (f ≡ OutOfMemory) × (new ≡ b)
  split_refused new c f e (inl m) = m
  split_refused new c f e (inr m) =
      let r : reply.Refused f ≡ reply.Split (length b.tiles) = m.1.reply
      ∙ ap (λ (k : Call). (outcome b x.grant.worker k).reply) (call_is c e) ∙ ap (λ (o : Outcome). o.reply) (split_is x.grant.worker) in
      absurd (cc)

  -- ---- the worker's tile

  pub split_holds : (new : BookValue) (c d : CutPath) (r : RunnerValue) → d ≡ cut_at x.runner level o → c ≡ d
      → r ≡ record x.runner { branch = record x.runner.branch { hi = Some c } } → new ≡ book_step b x.grant.worker (split_call x path)
      → HoldsTile new (record { grant = x.grant; runner = r })
  split_holds new c d r e k a m =
      let y : r ≡ (shortened x (cut_at x.runner level o)).runner = a
      ∙ ap (λ (c : CutPath). record x.runner { branch = record x.runner.branch { hi = Some c } }) (k ∙ e) in
      let tile = subst (λ (z : Outcome). HasTile z.tiles (shortened x (cut_at x.runner level o))) (sym (split_is x.grant.worker))
      (split_tile b x tiling h path) in
      rw (y, m) (record { problem = h.problem; tile = tile })
