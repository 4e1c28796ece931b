use Rattle.cover_counts.proofs.SearchLemmas.{arrives_visit}
use Rattle.cover_counts.proofs.search.arrive.Goals as goal

pub returns-then-not-has_active-clause-known : goal.returns-then-not-has_active-clause-known
returns-then-not-has_active-clause-known g c = arrives_visit _ _ _ _ _ _ c.requires.at c.has_active.ensures c.if-not-has_active.true c.in_ok-add_visit.ensures
