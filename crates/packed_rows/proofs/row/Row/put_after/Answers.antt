use Rattle.std.proofs.Common.{sym, arith}
use Rattle.cover_problem.proofs.FlatListLemmas.{same_default}
use Rattle.packed_rows.proofs.NeighbourLemmas.{step_raises}
use Rattle.packed_rows.proofs.row.Row.put_after.Goals as goal

pub overflow_mul-step : goal.overflow_mul-step
overflow_mul-step c = omega (arith, (step_raises _ _ _ (sym c.in-Some.ensures)).small)

pub overflow_add-step : goal.overflow_add-step
overflow_add-step c = omega (arith, (step_raises _ _ _ (sym c.in-Some.ensures)).small)

pub returns-in-Some-clause-words : goal.returns-in-Some-clause-words
returns-in-Some-clause-words c = λ k d l. omega (arith, (c.type_inv.list k).fits, same_default c.args.list.now k d 0 l)

pub returns-in_err-put-clause-words : goal.returns-in_err-put-clause-words
returns-in_err-put-clause-words c = λ k d l. omega (arith, (c.type_inv.list k).fits, same_default c.args.list.now k d 0 l)

pub returns-clause-words : goal.returns-clause-words
returns-clause-words c = λ k d l. omega (arith, (c.type_inv.list k).fits, same_default c.args.list.now k d 0 l)
