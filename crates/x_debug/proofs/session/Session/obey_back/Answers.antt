use Rattle.std.proofs.Common.{Some, subst, replicate, refl}
use Rattle.lab_world.specs.declared.event.Act.TheVariants.{Back}
use Rattle.lab_world.specs.Worker.{WorkerValue}
use Rattle.debug_acts.specs.Walk.{back_count, back_lines}
use Rattle.x_debug.specs.Session.{SessionValue}
use Rattle.x_debug.specs.Commands.{back_deed, DoesDeed}
use Rattle.x_debug.proofs.SessionLemmas.{with_seat, working_session, open_plays, held}
use Rattle.x_debug.proofs.session.Session.obey_back.Goals as goal

pub invariant_of-self-2 : goal.invariant_of-self-2
invariant_of-self-2 g c =
    let v : SessionValue = record { book = c.self.inside.book; worker = c.self.inside.worker; breaks = c.self.inside.breaks.keys } in
    working_session v c.in-Some.worker c.back.new.worker v.book c.self.invariant c.in-Some.is refl
    (c.back.ensures.seat v.book (held v c.in-Some.worker c.self.invariant c.in-Some.is))

pub returns-clause-session : goal.returns-clause-session
returns-clause-session g c =
    let v : SessionValue = record { book = c.self.inside.book; worker = c.self.inside.worker; breaks = c.self.inside.breaks.keys } in
    subst (λ (u : SessionValue). DoesDeed c.back.result u (with_seat v v.book (Some c.back.new.worker)) (back_deed u c.args.most)) c.self.view_is
    (open_plays c.back.result v c.in-Some.worker c.in-Some.is (λ (w : WorkerValue). back_lines w.runner c.args.most)
    (λ (s : SessionValue) (w : WorkerValue). replicate (back_count w.runner c.args.most) Back) v.book (Some c.back.new.worker) (c.back.ensures.acts v.book))
