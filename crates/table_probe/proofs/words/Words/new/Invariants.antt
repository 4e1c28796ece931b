use Rattle.std.proofs.Common.{◌≡◌, length}
use Rattle.table_probe.proofs.words.Words.new.Given as goal

abbrev pub invariant-loop-place : goal.invariant-loop-place
invariant-loop-place l = length l.left.items ≡ l.place
