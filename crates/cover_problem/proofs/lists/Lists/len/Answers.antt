use Rattle.std.proofs.Common.{◌≡◌, ◌∙◌, sym, ap, length}
use Rattle.cover_problem.specs.FlatLists.{lists_at}
use Rattle.cover_problem.proofs.FlatListLemmas.{length-lists}
use Rattle.cover_problem.proofs.lists.Lists.len.Goals as goal

pub returns : goal.returns
returns c =
    let p = c.self.inside in
    let n : length (lists_at p.flat.items 0 p.ends.items) ≡ length c.args.self.now = ap length c.self.view_is in
    c.len.ensures ∙ p.ends.ok.0 ∙ sym (length-lists p.flat.items 0 p.ends.items) ∙ n
