use Rattle.debug_script.proofs.TakenLemmas.{taking_goes}
use Rattle.debug_script.proofs.input.take_lines.Goals as goal

pub loop-left-preserved : goal.loop-left-preserved
loop-left-preserved c = taking_goes _ _ _ _ c.raw_line.result.0.now _ c.loop-left.invariant c.loop-left-test.true c.raw_line.ensures.lines c.raw_line.ensures.parts
