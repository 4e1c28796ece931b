use Rattle.std.proofs.Common.{[], ◌∷◌}
use Rattle.debug_acts.proofs.LeadLemmas.{plays_problem}
use Rattle.x_debug.proofs.SessionLemmas.{changed_session, plays_left}
use Rattle.x_debug.proofs.session.Session.ask.Goals as goal

pub invariant_of-self : goal.invariant_of-self
invariant_of-self g c =
    changed_session (record { book = c.self.inside.book; worker = c.self.inside.worker; breaks = c.self.inside.breaks.keys })
    c.ask.new.book c.ask.new.seat c.self.invariant (plays_problem c.ask.result c.self.inside.book c.ask.new.book c.self.inside.worker c.ask.new.seat _ _ c.ask.ensures.acts) c.ask.ensures.seat

pub returns-clause-session : goal.returns-clause-session
returns-clause-session g c =
    rw (← c.self.view_is)
    (plays_left c.ask.result (record { book = c.self.inside.book; worker = c.self.inside.worker; breaks = c.self.inside.breaks.keys })
    (c.args.act.now ∷ []) 1 c.ask.new.book c.ask.new.seat c.ask.ensures.acts)
