use Rattle.std.proofs.Common.{◌-◌, length}
use Rattle.debug_acts.specs.Acts.{end_acts}
use Rattle.debug_acts.proofs.LeadLemmas.{plays_problem}
use Rattle.x_debug.proofs.SessionLemmas.{changed_session, plays_left}
use Rattle.x_debug.proofs.session.Session.end.Goals as goal

pub invariant_of-self : goal.invariant_of-self
invariant_of-self g c =
    changed_session (record { book = c.self.inside.book; worker = c.self.inside.worker; breaks = c.self.inside.breaks.keys })
    c.end_branch.new.book c.end_branch.new.seat c.self.invariant (plays_problem c.end_branch.result c.self.inside.book c.end_branch.new.book c.self.inside.worker c.end_branch.new.seat _ _ c.end_branch.ensures.acts) c.end_branch.ensures.seat

pub returns : goal.returns
returns g c =
    rw (← c.self.view_is)
    (plays_left c.end_branch.result (record { book = c.self.inside.book; worker = c.self.inside.worker; breaks = c.self.inside.breaks.keys })
    (end_acts c.self.inside.worker c.args.act.now) (length (end_acts c.self.inside.worker c.args.act.now) - 1) c.end_branch.new.book c.end_branch.new.seat c.end_branch.ensures.acts)
