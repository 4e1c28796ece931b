use Rattle.x_texts.proofs.WrittenLemmas.{no_lines}
use Rattle.x_texts.proofs.visit_text.VisitText.new.Goals as goal

pub invariant_of-result : goal.invariant_of-result
invariant_of-result c = (no_lines c.new-2.result.items c.new-2.ensures.items).0

pub returns : goal.returns
returns c = (no_lines c.new-2.result.items c.new-2.ensures.items).1
