use Rattle.std.proofs.Common.{◌∙◌, ap, find}
use Rattle.cover_problem.proofs.TableLemmas.{was_is, items_fit}
use Rattle.cover_problem.proofs.plain.PlainTable.first_in.Goals as goal

pub first_left-requires-clause-fit : goal.first_left-requires-clause-fit
first_left-requires-clause-fit c = rw c.deref.ensures.value (items_fit c.self.invariant)

pub returns : goal.returns
returns c = rw c.deref.ensures.value at c.first_left.ensures ∙ ap (λ test. find test c.args.holders.now) (was_is c.self.view_is c.self.invariant c.args.time)
