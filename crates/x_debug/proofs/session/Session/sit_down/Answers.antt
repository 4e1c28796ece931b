use Rattle.std.proofs.Common.{◌∙◌, sym, ap}
use Rattle.x_debug.specs.Session.{SessionValue}
use Rattle.x_debug.proofs.SessionLemmas.{changed_session}
use Rattle.x_debug.proofs.session.Session.sit_down.Goals as goal

pub invariant_of-self : goal.invariant_of-self
invariant_of-self g c =
    changed_session (record { book = c.self.inside.book; worker = c.self.inside.worker; breaks = c.self.inside.breaks.keys }) c.args.book c.args.worker c.self.invariant
    (c.requires.problem ∙ ap (λ (u : SessionValue). u.book.problem) (sym c.self.view_is)) c.requires.seat
