use Rattle.std.proofs.Common.{sym, arith}
use Rattle.std.proofs.lemmas.Bool.Decides.{nat_tests}
use Rattle.debug_script.proofs.SearchLemmas.{searching_goes, found_problem, found_commands, all_problem, no_commands}
use Rattle.debug_script.proofs.input.split_input.Goals as goal

pub returns-then-is_mark-clause-problem : goal.returns-then-is_mark-clause-problem
returns-then-is_mark-clause-problem c = found_problem _ _ _ c.raw_line.result.1.now c.loop-line.invariant c.raw_line.ensures.lines _ (sym c.if-is_mark.ensures) c.split_at.ensures.front

pub returns-then-is_mark-clause-commands : goal.returns-then-is_mark-clause-commands
returns-then-is_mark-clause-commands c = found_commands _ _ _ c.raw_line.result.1.now c.loop-line.invariant c.raw_line.ensures.lines (sym c.if-is_mark.ensures)

pub loop-line-preserved : goal.loop-line-preserved
loop-line-preserved c = searching_goes _ _ _ _ c.loop-line.invariant c.raw_line.ensures.lines c.raw_line.ensures.parts (sym c.if-is_mark.ensures)

pub returns-clause-problem : goal.returns-clause-problem
returns-clause-problem c = all_problem _ _ c.loop-line.invariant (grind (arith, nat_tests))

pub returns-clause-commands : goal.returns-clause-commands
returns-clause-commands c = no_commands _ _ c.loop-line.invariant (grind (arith, nat_tests))
