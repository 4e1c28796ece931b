use Rattle.lab_book.proofs.SumLemmas.{AreRead}
use Rattle.lab_book.proofs.totals.add_counts.Given as goal

abbrev pub invariant-adding : goal.invariant-adding
invariant-adding l = AreRead l.fn.counts l.fn.totals l.totals l.level l.left l.counts

abbrev pub decreases-adding : goal.decreases-adding
decreases-adding l = l.left
