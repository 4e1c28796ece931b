use Rattle.std.proofs.Common.{refl}
use Rattle.x_snapshot.proofs.ReadLemmas.{line_found, no_line}
use Rattle.part_sums.proofs.answer.take_line.Goals as goal

pub returns-in-Some : goal.returns-in-Some
returns-in-Some c = rw (c.in-Some.ensures.some, line_found c.in-Some.line.now c.in-Some.rest.now c.in-Some.ensures.first) refl

pub returns-in-None : goal.returns-in-None
returns-in-None c = rw (no_line c.args.text.now c.in-None.ensures.none) refl
