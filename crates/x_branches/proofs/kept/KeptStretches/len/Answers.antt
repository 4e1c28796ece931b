use Rattle.std.proofs.Common.{length, ◌∙◌, sym, ap}
use Rattle.x_branches.proofs.KeptLemmas.{kept_long}
use Rattle.x_branches.proofs.kept.KeptStretches.len.Goals as goal

pub returns : goal.returns
returns c =
    c.len.ensures.count ∙ sym (kept_long c.self.inside.heads.items c.self.inside.rows.rows c.self.invariant).1 ∙ ap length c.self.view_is
