use Rattle.std.proofs.Common.{Some, subst}
use Rattle.lab_world.specs.Worker.{WorkerValue}
use Rattle.debug_acts.specs.Walk.{run_count, run_lines}
use Rattle.debug_acts.specs.Acts.{walk_acts}
use Rattle.debug_acts.proofs.LeadLemmas.{plays_problem}
use Rattle.x_debug.specs.Session.{SessionValue}
use Rattle.x_debug.specs.Commands.{world_of, run_deed, DoesDeed}
use Rattle.x_debug.proofs.SessionLemmas.{with_seat, working_session, open_plays}
use Rattle.x_debug.proofs.session.Session.obey_run.Goals as goal

pub invariant_of-self-2 : goal.invariant_of-self-2
invariant_of-self-2 g c =
    working_session (record { book = c.self.inside.book; worker = c.self.inside.worker; breaks = c.self.inside.breaks.keys }) c.in-Some.worker
    c.run.new.worker c.run.new.book c.self.invariant c.in-Some.is
    (plays_problem c.run.result c.self.inside.book c.run.new.book (Some c.in-Some.worker) (Some c.run.new.worker) _ _ c.run.ensures.acts) c.run.ensures.seat

pub returns-clause-session : goal.returns-clause-session
returns-clause-session g c =
    let v : SessionValue = record { book = c.self.inside.book; worker = c.self.inside.worker; breaks = c.self.inside.breaks.keys } in
    subst (λ (u : SessionValue). DoesDeed c.run.result u (with_seat v c.run.new.book (Some c.run.new.worker)) (run_deed u)) c.self.view_is
    (open_plays c.run.result v c.in-Some.worker c.in-Some.is (λ (w : WorkerValue). run_lines c.self.inside.breaks.keys w.runner)
    (λ (s : SessionValue) (w : WorkerValue). walk_acts (run_count c.self.inside.breaks.keys w.runner) (world_of s)) c.run.new.book (Some c.run.new.worker) c.run.ensures.acts)
