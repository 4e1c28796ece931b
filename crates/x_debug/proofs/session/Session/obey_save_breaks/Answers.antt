use Rattle.std.proofs.Common.{◌≡◌, true, rules, arith}
use Rattle.x_texts.specs.Breaks.{are_breaks}
use Rattle.x_debug.proofs.BreakLemmas.{set_is_breaks}
use Rattle.x_debug.proofs.session.Session.obey_save_breaks.Goals as goal

pub save_with-requires : goal.save_with-requires
save_with-requires g c =
    let fine : are_breaks c.self.inside.book.problem c.self.inside.breaks.keys ≡ true = set_is_breaks c.self.inside.book.problem c.self.inside.breaks.keys c.self.invariant.breaks c.as_slice.ensures.unique in
    let copied : c.in_ok-breaks.breaks.items ≡ c.self.inside.breaks.keys = first_of (search rules, grind arith) in
    rw (← c.self.view_is, copied) fine
