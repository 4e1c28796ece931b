use Rattle.std.proofs.Common.{ap, ◌∙◌, is_some, ℕ}
use Rattle.cover_problem.proofs.ChoiceLemmas.{active_some}
use Rattle.cover_counts.proofs.search.has_active.Goals as goal

pub returns : goal.returns
returns g c = c.is_some.ensures ∙ ap (is_some {T = ℕ}) c.first_item.ensures ∙ active_some _ _
