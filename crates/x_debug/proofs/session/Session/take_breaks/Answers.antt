use Rattle.std.proofs.Common.{◌≡◌, true, sym, subst}
use Rattle.std.specs.List.{list_all}
use Rattle.x_texts.specs.Breaks.{is_break}
use Rattle.x_debug.specs.Session.{SessionValue}
use Rattle.x_debug.proofs.session.Session.take_breaks.Goals as goal

pub invariant_of-self : goal.invariant_of-self
invariant_of-self g c = record {
  seat = c.self.invariant.seat;
  breaks = subst (λ (u : SessionValue). list_all (is_break u.book.problem) c.args.breaks.keys ≡ true) (sym c.self.view_is) c.requires;
}
