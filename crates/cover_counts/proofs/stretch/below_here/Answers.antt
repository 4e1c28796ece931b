use Rattle.cover_counts.proofs.SearchLemmas.{none_active}
use Rattle.cover_counts.proofs.StretchLemmas.{below_visit_ok}
use Rattle.cover_counts.proofs.stretch.below_here.Goals as goal

pub returns-then-not-has_active-clause-below : goal.returns-then-not-has_active-clause-below
returns-then-not-has_active-clause-below g c = below_visit_ok _ _ c.of_visit.result (none_active _ _ _ _ c.requires.at c.has_active.ensures c.if-not-has_active.true) c.of_visit.ensures.visits c.of_visit.ensures.low c.of_visit.ensures.high
