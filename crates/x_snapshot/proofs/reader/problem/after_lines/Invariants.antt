use Rattle.std.proofs.Common.{◌≡◌, ◌≤◌, ◌-◌, length}
use Rattle.x_snapshot.specs.Reader.{after_line, repeated}
use Rattle.x_snapshot.proofs.reader.problem.after_lines.Given as goal

-- what stands after the lines left stands after all
abbrev pub invariant-loop : goal.invariant-loop
invariant-loop l = record {
  so_far : repeated after_line (l.count - l.counter) l.rest ≡ repeated after_line l.count l.text;
  within : length l.rest ≤ length l.text;
}
