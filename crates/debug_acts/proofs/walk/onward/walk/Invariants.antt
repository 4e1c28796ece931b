use Rattle.std.specs.Prelude.{◌≤◌, ◌-◌}
use Rattle.debug_acts.proofs.WorkLemmas.{work}
use Rattle.debug_acts.proofs.WalkedLemmas.{Walked}
use Rattle.debug_acts.proofs.walk.onward.walk.Given as goal

-- so many steps were taken of those that are asked for
abbrev pub invariant-loop-taken : goal.invariant-loop-taken
invariant-loop-taken g l = Walked (work l.fn.book l.fn.worker) l.taken (work l.book l.worker) l.fn.text.items l.text.items × (l.taken ≤ l.most)

abbrev pub decreases-loop-taken : goal.decreases-loop-taken
decreases-loop-taken g l = l.most - l.taken
