-- What the book takes out of a worker's tile ends where the worker stands.
use Rattle.std.proofs.Common.{◌≡◌, ℕ, Option, Some, None, Result, refl, sym, ap, ◌∙◌}
use Rattle.x_steps.specs.StateValue.{StateValue}
use Rattle.x_steps.specs.Run.{after}
use Rattle.x_branches.specs.Runner.{RunnerValue, IsRunner, unposted_steps}
use Rattle.lab_history.specs.declared.fault.BookFault.{BookFault}
use Rattle.lab_history.specs.declared.entry.Call.TheVariants as call
use Rattle.lab_history.specs.declared.entry.Reply.TheVariants as reply
use Rattle.lab_book.specs.Tiling.{IsTiling}
use Rattle.lab_book.specs.Book.{BookValue, outcome, made_at, unless, retracted, retract_fault}
use Rattle.lab_world.specs.Worker.{WorkerValue, HoldsTile}
use Rattle.lab_world.proofs.HoldLemmas.{passed}
use Rattle.lab_world.proofs.OwnLemmas.{found_own, own, last_own, some_is}
use Rattle.lab_world.proofs.PostLemmas.{last_ends}

-- a runner with nothing unposted is at its mark
pub at_mark : (r : RunnerValue) → IsRunner r → unposted_steps r ≡ 0 → r.mark ≡ r.position
at_mark r k e = ap (λ (n : ℕ). after r.problem n r.mark) (sym e) ∙ k.stretch.reaches.ends

-- ---- where the last stretch of a tile ends

module _ (b : BookValue) (x : WorkerValue) (tiling : IsTiling b.problem b.branch b.first b.tiles) (h : HoldsTile b x) (k : IsRunner x.runner) where
  to_mark : (from to : StateValue) → (outcome b x.grant.worker (call.Retract x.grant)).reply ≡ reply.Retracted from to → to ≡ x.runner.mark
  unfolding outcome
  to_mark from to e =
      by (retract_fault (own b x tiling h)) refl
      (sym e ∙ ap (λ (r : Result ℕ BookFault). (made_at b.tiles (retracted b) r).reply) (found_own b x tiling h retract_fault))
    where
      by : (d : Option BookFault) → retract_fault (own b x tiling h) ≡ d → reply.Retracted from to ≡ (made_at b.tiles (retracted b) (unless h.tile.place d)).reply → to ≡ x.runner.mark
      by None d e =
          let last : to ≡ (last_own b x tiling h).to = cc in
          last ∙ sym (last_ends (own b x tiling h).first (own b x tiling h).stretches (last_own b x tiling h) (some_is _ _ (passed _ _ _ d).0)) ∙ sym h.tile.tile.mark
      by (Some f) d e = absurd (cc)

  pub to_here : (from to : StateValue) → unposted_steps x.runner ≡ 0 → (outcome b x.grant.worker (call.Retract x.grant)).reply ≡ reply.Retracted from to → to ≡ x.runner.position
  to_here from to none e = to_mark from to e ∙ at_mark x.runner k none
