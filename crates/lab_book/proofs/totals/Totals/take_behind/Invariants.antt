use Rattle.std.proofs.Common.{◌≤◌}
use Rattle.lab_book.proofs.TotalsLemmas.{AreTakenFrom}
use Rattle.lab_book.proofs.totals.Totals.take_behind.Given as goal

abbrev pub invariant-taking : goal.invariant-taking
invariant-taking l = record { taken : AreTakenFrom l.stretches l.place l.fn.self l.self; within : l.count ≤ l.place }

abbrev pub decreases-taking : goal.decreases-taking
decreases-taking l = l.place
