use Rattle.std.proofs.Common.{◌∙◌}
use Rattle.x_snapshot.proofs.BreakLemmas.{eq_is}
use Rattle.debug_acts.proofs.met.is_same.Goals as goal

pub returns : goal.returns
returns c = c.eq.ensures ∙ eq_is c.args.one c.args.other
