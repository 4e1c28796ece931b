use Rattle.std.proofs.Common.{◌∙◌, ◌-◌, ◌==◌, sym, get_or, ne_eqb}
use Rattle.cover_problem.specs.declared.plain.TheConstants.{NEVER}
use Rattle.cover_problem.proofs.NumberLemmas.{find_next}
use Rattle.cover_problem.proofs.plain.first_uncovered.Goals as goal

pub loop-item-preserved : goal.loop-item-preserved
loop-item-preserved c = sym (find_next (λ i. get_or c.args.times.now (i - 1) 0 == NEVER) c.args.primary c.loop-item.item c.loop-item-test.true (ne_eqb _ _ c.if-times-item.false)) ∙ c.loop-item.invariant
