use Rattle.x_snapshot.proofs.PositionLemmas.{on_ok, inside_from}
use Rattle.x_snapshot.proofs.verdict.runner_at.Goals as goal

pub returns-clause-inside : goal.returns-clause-inside
returns-clause-inside g c = on_ok c.start_at.result (inside_from _ _ _ _ _ _ c.in_ok-table-2.ensures.made c.in_ok-table-3.ensures.made) c.start_at.ensures.can
