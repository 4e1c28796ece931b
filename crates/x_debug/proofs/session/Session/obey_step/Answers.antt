use Rattle.std.proofs.Common.{Some, subst}
use Rattle.lab_world.specs.Worker.{WorkerValue}
use Rattle.debug_acts.specs.Walk.{step_count, step_lines}
use Rattle.debug_acts.specs.Acts.{walk_acts}
use Rattle.debug_acts.proofs.LeadLemmas.{plays_problem}
use Rattle.x_debug.specs.Session.{SessionValue}
use Rattle.x_debug.specs.Commands.{world_of, step_deed, DoesDeed}
use Rattle.x_debug.proofs.SessionLemmas.{with_seat, working_session, open_plays}
use Rattle.x_debug.proofs.session.Session.obey_step.Goals as goal

pub invariant_of-self-2 : goal.invariant_of-self-2
invariant_of-self-2 g c =
    working_session (record { book = c.self.inside.book; worker = c.self.inside.worker; breaks = c.self.inside.breaks.keys }) c.in-Some.worker
    c.step.new.worker c.step.new.book c.self.invariant c.in-Some.is
    (plays_problem c.step.result c.self.inside.book c.step.new.book (Some c.in-Some.worker) (Some c.step.new.worker) _ _ c.step.ensures.acts) c.step.ensures.seat

pub returns-clause-session : goal.returns-clause-session
returns-clause-session g c =
    let v : SessionValue = record { book = c.self.inside.book; worker = c.self.inside.worker; breaks = c.self.inside.breaks.keys } in
    subst (λ (u : SessionValue). DoesDeed c.step.result u (with_seat v c.step.new.book (Some c.step.new.worker)) (step_deed u c.args.most)) c.self.view_is
    (open_plays c.step.result v c.in-Some.worker c.in-Some.is (λ (w : WorkerValue). step_lines w.runner c.args.most)
    (λ (s : SessionValue) (w : WorkerValue). walk_acts (step_count w.runner c.args.most) (world_of s)) c.step.new.book (Some c.step.new.worker) c.step.ensures.acts)
