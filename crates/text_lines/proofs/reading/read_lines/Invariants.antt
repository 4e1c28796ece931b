use Rattle.std.proofs.Common.{◌≡◌, ◌+◌, ◌≤◌, length}
use Rattle.text_lines.specs.Lines.{lines_of}
use Rattle.text_lines.specs.Each.{each}
use Rattle.text_lines.specs.Reading.{numbered_line, lines_read}
use Rattle.text_lines.proofs.reading.read_lines.Given as goal

-- what the lines left add to what is read is what all lines say
abbrev pub invariant-loop-rest : goal.invariant-loop-rest
invariant-loop-rest g l = record {
  so_far : each (numbered_line g.D.ByLine.line) (l.draft, l.number) (lines_of l.rest) ≡ lines_read g.D.ByLine.line l.fn.nothing (lines_of l.text);
  numbered : l.number + length l.rest ≤ 1 + length l.text;
}

abbrev pub decreases-loop-rest : goal.decreases-loop-rest
decreases-loop-rest g l = length l.rest
