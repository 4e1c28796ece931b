use Rattle.std.proofs.Common.{◌≡◌, ◌-◌, []}
use Rattle.x_snapshot.specs.Reader.{next_break, repeated}
use Rattle.x_snapshot.proofs.reader.breaks.breaks_from.Given as goal

-- what the lines left add to the breakpoints so far is what all lines say
abbrev pub invariant-loop : goal.invariant-loop
invariant-loop l = repeated (next_break l.problem) (l.count - l.counter) (l.seen.keys, l.rest) ≡ repeated (next_break l.problem) l.count ([], l.text)
