use Rattle.std.proofs.Common.{ap, ◌∙◌, is_some}
use Rattle.lab_history.specs.declared.entry.Call.TheVariants as call
use Rattle.lab_book.specs.Book.{BookValue, outcome}
use Rattle.lab_world.specs.Worker.{lent_worker}
use Rattle.x_debug.proofs.SessionLemmas.{leased_session, fresh_leased}
use Rattle.x_debug.proofs.session.Session.new.Goals as goal

pub invariant_of-result : goal.invariant_of-result
invariant_of-result g c =
    leased_session c.in_ok-book.book c.lease_any.new.book c.in_ok-worker.worker c.new-2.result.keys c.is_sound.ensures.tiling c.in_ok-worker.ensures.book c.in_ok-worker.ensures.worker c.new-2.ensures.empty

pub returns-clause-leased : goal.returns-clause-leased
returns-clause-leased g c =
    ap is_some c.in_ok-worker.ensures.worker ∙ ap (λ (b : BookValue). is_some (lent_worker b.problem (outcome b 0 call.LeaseAny).reply)) c.in_ok-book.ensures
    ∙ fresh_leased c.args.problem.now
