use Rattle.lab_book.proofs.SumLemmas.{AreTaken}
use Rattle.lab_book.proofs.totals.take_counts.Given as goal

abbrev pub invariant-taking : goal.invariant-taking
invariant-taking l = AreTaken l.fn.counts l.fn.totals l.totals l.level l.left l.counts

abbrev pub decreases-taking : goal.decreases-taking
decreases-taking l = l.left
