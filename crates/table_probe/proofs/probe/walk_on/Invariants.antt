use Rattle.std.proofs.Common.{◌≡◌}
use Rattle.table_probe.specs.Words.{HasWords}
use Rattle.table_probe.proofs.probe.walk_on.Given as goal

abbrev pub invariant-loop : goal.invariant-loop
invariant-loop g l = record {
  words : HasWords l.machine.problem l.words;
  same : l.machine.problem ≡ l.fn.machine.problem;
}
