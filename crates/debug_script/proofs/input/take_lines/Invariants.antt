use Rattle.debug_script.proofs.TakenLemmas.{IsTaking}
use Rattle.debug_script.proofs.input.take_lines.Given as goal

abbrev pub invariant-loop-left : goal.invariant-loop-left
invariant-loop-left l = IsTaking l.text l.fn.most l.rest l.left

abbrev pub decreases-loop-left : goal.decreases-loop-left
decreases-loop-left l = l.left
