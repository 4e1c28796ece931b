use Rattle.std.proofs.Common.{◌∙◌}
use Rattle.cover_links.proofs.TableLemmas.{at_view, last_start}
use Rattle.cover_links.proofs.table.LinkTable.entries.Goals as goal

pub returns : goal.returns
returns c = last_start (at_view c.self.view_is c.self.invariant) (c.len.ensures ∙ c.self.inside.starts.ok.0) c.index.ensures
