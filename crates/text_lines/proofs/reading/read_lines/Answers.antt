use Rattle.std.proofs.Common.{arith}
use Rattle.std.proofs.lemmas.Bool.Decides.{nat_tests}
use Rattle.text_lines.specs.Lines.{lines_of}
use Rattle.text_lines.specs.Reading.{lines_read}
use Rattle.text_lines.proofs.ReadingLemmas.{line_goes, line_stops, text_ends}
use Rattle.text_lines.proofs.reading.read_lines.Goals as goal

pub returns-in-Err-clause-refused : goal.returns-in-Err-clause-refused
returns-in-Err-clause-refused g c =
    rw c.in_line.ensures
    (line_stops g.D.ByLine.line c.loop-rest.draft c.loop-rest.number (lines_of c.loop-rest.rest.now) (lines_read g.D.ByLine.line c.args.nothing (lines_of c.args.text.now)) c.loop-rest.invariant.so_far
    c.split_line.result.0.now (lines_of c.split_line.result.1.now) c.split_line.ensures.lines c.in-Err.refusal c.in-Err.ensures)

pub loop-rest-preserved : goal.loop-rest-preserved
loop-rest-preserved g c = record {
  so_far =
      line_goes g.D.ByLine.line c.loop-rest.draft c.loop-rest.number (lines_of c.loop-rest.rest.now) (lines_read g.D.ByLine.line c.args.nothing (lines_of c.args.text.now)) c.loop-rest.invariant.so_far
      c.split_line.result.0.now (lines_of c.split_line.result.1.now) c.split_line.ensures.lines c.add_line.new.self c.in_default.ensures;
  numbered = omega (arith, c.split_line.ensures.shorter);
}

pub returns-clause-read : goal.returns-clause-read
returns-clause-read g c =
    (c.loop-rest.number, text_ends g.D.ByLine.line c.loop-rest.draft c.loop-rest.number c.loop-rest.rest.now (lines_read g.D.ByLine.line c.args.nothing (lines_of c.args.text.now)) c.loop-rest.invariant.so_far (grind (arith, nat_tests)))
