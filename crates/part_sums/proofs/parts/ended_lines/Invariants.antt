use Rattle.std.proofs.Common.{◌≡◌, ◌≤◌, take, length, filter}
use Rattle.text_lines.specs.Lines.{is_newline}
use Rattle.part_sums.proofs.parts.ended_lines.Given as goal

abbrev pub invariant-loop-byte : goal.invariant-loop-byte
invariant-loop-byte l = record { so_far : l.count ≡ length (filter is_newline (take l.byte-index l.text)); within : l.count ≤ l.byte-index }
