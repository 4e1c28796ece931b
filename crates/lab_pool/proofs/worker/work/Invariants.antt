use Rattle.std.proofs.Common.{◌≡◌}
use Rattle.lab_pool.proofs.worker.work.Given as goal

abbrev pub invariant-working : goal.invariant-working
invariant-working g l = (goal.iterator-working g).can_next l.iterator' × (goal.iterator-working g).is_finite l.iterator'
    × (l.runner.problem ≡ g.L.Desking.whole)
