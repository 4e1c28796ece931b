use Rattle.table_probe.specs.Words.{HasWords}
use Rattle.table_probe.proofs.probe.uncover_from.Given as goal

abbrev pub invariant-loop-place : goal.invariant-loop-place
invariant-loop-place g l = HasWords l.machine.problem l.words
