use Rattle.std.proofs.Common.{take}
use Rattle.x_steps.proofs.OptionLemmas.{IsBest}
use Rattle.x_steps.proofs.covering.chosen_of.Given as goal

abbrev pub invariant-loop-item : goal.invariant-loop-item
invariant-loop-item g l = IsBest (g.T.Table.problem_value l.table) (g.T.Table.covered_list l.table) (take l.item-index l.option) l.best l.least
