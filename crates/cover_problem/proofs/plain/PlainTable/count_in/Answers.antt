use Rattle.std.proofs.Common.{◌∙◌, ap, filter, length}
use Rattle.cover_problem.proofs.TableLemmas.{was_is, items_fit}
use Rattle.cover_problem.proofs.plain.PlainTable.count_in.Goals as goal

pub count_left-requires-clause-fit : goal.count_left-requires-clause-fit
count_left-requires-clause-fit c = rw c.deref.ensures.value (items_fit c.self.invariant)

pub returns : goal.returns
returns c = rw c.deref.ensures.value at c.count_left.ensures ∙ ap (λ test. length (filter test c.args.holders.now)) (was_is c.self.view_is c.self.invariant c.args.time)
