use Rattle.debug_acts.specs.Walk.{steps_ahead}
use Rattle.debug_acts.proofs.WorkLemmas.{work}
use Rattle.debug_acts.proofs.RunLemmas.{RunsOn}
use Rattle.debug_acts.proofs.walk.breakpoint.walk_to_stop.Given as goal

-- so many steps were taken, and none of the states that they led to met a breakpoint
abbrev pub invariant-loop-book : goal.invariant-loop-book
invariant-loop-book g l = RunsOn (work l.fn.book l.fn.worker) l.breaks.keys l.moved (work l.book l.worker) l.fn.text.items l.text.items

abbrev pub decreases-loop-book : goal.decreases-loop-book
decreases-loop-book g l = steps_ahead l.worker.runner
