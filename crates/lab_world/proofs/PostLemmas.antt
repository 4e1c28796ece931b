-- A worker's stretch is posted, or taken back.
use Rattle.std.proofs.Common.{◌≡◌, ℕ, ◌≤◌, Option, Some, None, Result, List, [], ◌∷◌, refl, sym, ap, ap₂, ◌∙◌, subst, inl, inr, arith}
use Rattle.cover_problem.specs.Problem.{ProblemValue, is_same}
use Rattle.x_steps.specs.StateValue.{StateValue}
use Rattle.x_steps.specs.Steps.{Fits}
use Rattle.x_steps.specs.Rank.{rank}
use Rattle.x_steps.specs.Run.{steps_between, after}
use Rattle.x_branches.specs.declared.fault.RunnerFault.{RunnerFault}
use Rattle.x_branches.specs.declared.fault.RunnerFault.TheVariants.{OutsideBranch}
use Rattle.x_branches.specs.declared.fault.RunnerFault.TheVariants.{NotAtMark}
use Rattle.x_branches.specs.declared.fault.RunnerFault.TheVariants as runner
use Rattle.x_branches.specs.Branch.{first_of}
use Rattle.x_branches.specs.Runner.{RunnerValue, IsRunner}
use Rattle.x_branches.specs.Refusals.{CanReopen, ReopenRefused}
use Rattle.x_branches.specs.RunOrder.{ComesBefore}
use Rattle.x_branches.specs.Stretch.{StretchValue}
use Rattle.x_branches.proofs.RunnerLemmas.{before_not}
use Rattle.lab_history.specs.declared.grant.Grant.{Grant}
use Rattle.lab_book.specs.declared.lease.Posted.{Posted}
use Rattle.lab_history.specs.declared.fault.BookFault.{BookFault}
use Rattle.lab_history.specs.declared.entry.Call.{Call}
use Rattle.lab_history.specs.declared.entry.Call.TheVariants as call
use Rattle.lab_history.specs.declared.entry.Reply.{Reply}
use Rattle.lab_history.specs.declared.entry.Reply.TheVariants as reply
use Rattle.lab_book.specs.Tile.{Join, led_to}
use Rattle.lab_book.specs.Tiling.{IsTiling}
use Rattle.lab_book.specs.Book.{BookValue, outcome, unless, made_at, retracted, retract_fault, last_stretch}
use Rattle.lab_book.specs.Calls.{Made, Refuses, Posts, PostRefused, post_of, posted_reply}
use Rattle.lab_book.proofs.TileLemmas.{end_fits, end_after}
use Rattle.lab_world.specs.Worker.{WorkerValue, HoldsTile, marked_at, unposted, after_post, after_retract}
use Rattle.lab_world.proofs.HoldLemmas.{passed}
use Rattle.lab_world.proofs.OwnLemmas.{Has, found_own, own, own_is_tile, last_own, some_is, post_has, retract_has}

-- ---- a stretch is joined again

not_refused : (r : RunnerValue) (s : StretchValue) (f : RunnerFault) → CanReopen r s → ReopenRefused r s f → ⊥
not_refused r s OutsideBranch c h = h.1 c
not_refused r s NotAtMark c h = h c.ends
not_refused r s _ c h = h

-- what was taken to be posted can be joined again
pub taken_reopens : (r q : RunnerValue) (s given : StretchValue) (f : RunnerFault) → IsRunner r → q ≡ record r { mark = r.position }
    → s ≡ record { problem = r.problem; from = r.mark; to = r.position } → given ≡ s → ReopenRefused q given f → ⊥
taken_reopens r q s given f i e d g h =
    not_refused (record r { mark = r.position }) (record { problem = r.problem; from = r.mark; to = r.position }) f
    (record { ends = record { at_mark = refl; ends = refl }; same_problem = refl; begun = i.mark_in.begun })
    (subst (λ (t : StretchValue). ReopenRefused (record r { mark = r.position }) t f) (g ∙ d)
    (subst (λ (q : RunnerValue). ReopenRefused q given f) e h))

-- and then the runner is as before
pub reopened_same : (r q o : RunnerValue) (s given : StretchValue) → q ≡ record r { mark = r.position }
    → s ≡ record { problem = r.problem; from = r.mark; to = r.position } → given ≡ s → o ≡ record q { mark = given.from } → o ≡ r
reopened_same r q o s given e d g h = h ∙ ap₂ (λ (q : RunnerValue) (m : StateValue). record q { mark = m }) e
    (ap (λ (t : StretchValue). t.from) (g ∙ d))

-- ---- what the book's answer leaves a worker

module _ (b new : BookValue) (x y : WorkerValue) (w : ℕ) (c : Call) (becomes : Reply → Option WorkerValue)
    (has : Has b.problem x.grant (outcome b w c).tiles (becomes (outcome b w c).reply)) where
  pub made_holds : (r : Reply) → Made b new w c r → becomes r ≡ Some y → HoldsTile new y
  made_holds r m e =
      let h = subst (Has b.problem x.grant (outcome b w c).tiles) (sym (ap becomes m.reply) ∙ e) has in
      subst (λ (b : BookValue). HoldsTile b y) (sym m.book) (record { problem = h.0; tile = h.2 })

  pub refused_holds : (f : BookFault) → Refuses b new w c f → ((f : BookFault) → becomes (reply.Refused f) ≡ Some y) → HoldsTile b y
      → HoldsTile new y
  refused_holds f (inl m) e h = subst (λ (b : BookValue). HoldsTile b y) (sym m.1) h
  refused_holds f (inr m) e h = made_holds (reply.Refused f) m.1 (e f)

module _ (b new : BookValue) (x : WorkerValue) (tiling : IsTiling b.problem b.branch b.first b.tiles) where
  pub post_holds : (r : Posted) → Posts b new x.grant (unposted x) r → HoldsTile b x → HoldsTile new (marked_at x x.runner.position)
  post_holds r m h =
      made_holds b new x (marked_at x x.runner.position) x.grant.worker (post_of b.problem x.grant (unposted x)) (after_post x)
      (post_has b x tiling h x.grant.worker (is_same x.runner.problem b.problem)) (posted_reply r) m refl

  pub post_refused_holds : (f : BookFault) → PostRefused b new x.grant (unposted x) f → HoldsTile b x → HoldsTile new x
  post_refused_holds f m h =
      refused_holds b new x x x.grant.worker (post_of b.problem x.grant (unposted x)) (after_post x)
      (post_has b x tiling h x.grant.worker (is_same x.runner.problem b.problem)) f m (λ f. refl) h

  pub retract_holds : (from to : StateValue) → Made b new x.grant.worker (call.Retract x.grant) (reply.Retracted from to) → HoldsTile b x
      → HoldsTile new (marked_at x from)
  retract_holds from to m h =
      made_holds b new x (marked_at x from) x.grant.worker (call.Retract x.grant) (after_retract x)
      (retract_has b x tiling h x.grant.worker) (reply.Retracted from to) m refl

  pub retract_refused_holds : (f : BookFault) → Refuses b new x.grant.worker (call.Retract x.grant) f → HoldsTile b x → HoldsTile new x
  retract_refused_holds f m h =
      refused_holds b new x x x.grant.worker (call.Retract x.grant) (after_retract x) (retract_has b x tiling h x.grant.worker) f m
      (λ f. refl) h

module _ (b new : BookValue) (g : Grant) (run : RunnerValue) (tiling : IsTiling b.problem b.branch b.first b.tiles) where
  pub post_done : (q : RunnerValue) (s : StretchValue) (r : Posted) → q ≡ record run { mark = run.position }
      → s ≡ record { problem = run.problem; from = run.mark; to = run.position } → Posts b new g s r
      → HoldsTile b (record { grant = g; runner = run }) → HoldsTile new (record { grant = g; runner = q })
  post_done q s r e d m h =
      subst (λ (q : RunnerValue). HoldsTile new (record { grant = g; runner = q })) (sym e)
      (post_holds b new (record { grant = g; runner = run }) tiling r (subst (λ (s : StretchValue). Posts b new g s r) d m) h)

  pub post_undone : (o : RunnerValue) (s : StretchValue) (f : BookFault) → o ≡ run
      → s ≡ record { problem = run.problem; from = run.mark; to = run.position } → PostRefused b new g s f
      → HoldsTile b (record { grant = g; runner = run }) → HoldsTile new (record { grant = g; runner = o })
  post_undone o s f e d m h =
      subst (λ (q : RunnerValue). HoldsTile new (record { grant = g; runner = q })) (sym e)
      (post_refused_holds b new (record { grant = g; runner = run }) tiling f (subst (λ (s : StretchValue). PostRefused b new g s f) d m) h)

  pub retract_done : (o : RunnerValue) (from to : StateValue) → o ≡ record run { mark = from }
      → Made b new g.worker (call.Retract g) (reply.Retracted from to) → HoldsTile b (record { grant = g; runner = run })
      → HoldsTile new (record { grant = g; runner = o })
  retract_done o from to e m h =
      subst (λ (q : RunnerValue). HoldsTile new (record { grant = g; runner = q })) (sym e)
      (retract_holds b new (record { grant = g; runner = run }) tiling from to m h)

-- ---- a stretch is taken back

-- the last of stretches that join begins where they do, or later
last_later : (p : ProblemValue) (s : StateValue) (xs : List StretchValue) (x : StretchValue) → Join p s xs → Fits p s → last_stretch xs ≡ Some x
    → Fits p x.from × (rank p s ≤ rank p x.from)
last_later p s [] x j f e = absurd (cc)
last_later p s (y ∷ []) x j f e =
    let h : x.from ≡ s = ap (λ (z : StretchValue). z.from) (let h : x ≡ y = cc in h) ∙ j.1 in
    let r = ap (rank p) h in
    (subst (Fits p) (sym h) f, omega arith)
last_later p s (y ∷ z ∷ zs) x j f e =
    let l = last_later p y.to (z ∷ zs) x j.3 (end_fits p s y.to j.2) e in
    let r = end_after p s y.to j.2 in
    (l.0, omega (arith, l.1))

-- and ends where they end
pub last_ends : (s : StateValue) (xs : List StretchValue) (x : StretchValue) → last_stretch xs ≡ Some x → led_to s xs ≡ x.to
last_ends s [] x e = absurd (cc)
last_ends s (y ∷ []) x e = ap (λ (z : StretchValue). z.to) (let h : y ≡ x = cc in h)
last_ends s (y ∷ z ∷ zs) x e = last_ends y.to (z ∷ zs) x e

-- a runner without unposted steps is at its mark
at_mark : (r : RunnerValue) (n : ℕ) → IsRunner r → n ≡ steps_between r.problem r.mark r.position → n ≤ 0 → r.mark ≡ r.position
at_mark r n i e l =
    let z : steps_between r.problem r.mark r.position ≡ 0 = omega arith in
    ap (λ (k : ℕ). after r.problem k r.mark) (sym z) ∙ i.stretch.reaches.ends

module _ (b new : BookValue) (x : WorkerValue) (tiling : IsTiling b.problem b.branch b.first b.tiles) (h : HoldsTile b x) where
  -- the stretch that the book answers is the tile's last
  told_last : (w : ℕ) (from to : StateValue) → Made b new w (call.Retract x.grant) (reply.Retracted from to)
      → (last_stretch (own b x tiling h).stretches ≡ Some (last_own b x tiling h)) × (from ≡ (last_own b x tiling h).from)
      × (to ≡ (last_own b x tiling h).to)
  unfolding outcome
  told_last w from to m =
      by (retract_fault (own b x tiling h)) refl
      (m.reply ∙ ap (λ (r : Result ℕ BookFault). (made_at b.tiles (retracted b) r).reply) (found_own b x tiling h retract_fault))
    where
      by : (d : Option BookFault) → retract_fault (own b x tiling h) ≡ d
          → reply.Retracted from to ≡ (made_at b.tiles (retracted b) (unless h.tile.place d)).reply
          → (last_stretch (own b x tiling h).stretches ≡ Some (last_own b x tiling h)) × (from ≡ (last_own b x tiling h).from)
          × (to ≡ (last_own b x tiling h).to)
      by None d e = (some_is _ _ (passed _ _ _ d).0, cc, cc)
      by (Some f) d e = absurd (cc)

  -- and can be joined again
  pub retract_reopens : (w : ℕ) (s : StretchValue) (n : ℕ) (f : RunnerFault) → IsRunner x.runner
      → n ≡ steps_between x.runner.problem x.runner.mark x.runner.position → n ≤ 0
      → Made b new w (call.Retract x.grant) (reply.Retracted s.from s.to) → s.problem ≡ b.problem → ReopenRefused x.runner s f → ⊥
  retract_reopens w s n f i e l m p =
      let told = told_last w s.from s.to m in
      let t = own b x tiling h in
      let tile = own_is_tile b x tiling h in
      let here = at_mark x.runner n i e l in
      let later = last_later b.problem t.first t.stretches (last_own b x tiling h) tile.joins
      (end_fits b.problem (first_of t.branch.lo) t.first tile.begins) told.0 in
      let first = end_after b.problem (first_of t.branch.lo) t.first tile.begins in
      let begun : ComesBefore b.problem (last_own b x tiling h).from (first_of t.branch.lo)
      → ⊥ = before_not b.problem (last_own b x tiling h).from (first_of t.branch.lo) later.0 (omega (arith, later.1)) in
      not_refused x.runner s f (record {
        ends = record {
          at_mark = sym here;
          ends = told.2 ∙ sym (last_ends t.first t.stretches (last_own b x tiling h) told.0)
              ∙ sym h.tile.tile.mark ∙ here;
        };
        same_problem = p ∙ sym h.problem;
        begun = λ c. begun (rw (← told.1, ← h.problem, ← h.tile.tile.branch) c);
      })
