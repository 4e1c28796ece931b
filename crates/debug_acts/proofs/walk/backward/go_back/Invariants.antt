use Rattle.debug_acts.proofs.BackLemmas.{WentBack}
use Rattle.debug_acts.proofs.walk.backward.go_back.Given as goal

-- so many steps were taken back
abbrev pub invariant-loop-gone : goal.invariant-loop-gone
invariant-loop-gone g l = WentBack l.fn.worker l.gone l.worker
