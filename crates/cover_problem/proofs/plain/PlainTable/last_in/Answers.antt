use Rattle.std.proofs.Common.{◌∙◌, ap, filter}
use Rattle.shared_words.specs.Lists.{last_of}
use Rattle.cover_problem.proofs.TableLemmas.{was_is, items_fit}
use Rattle.cover_problem.proofs.plain.PlainTable.last_in.Goals as goal

pub last_left-requires-clause-fit : goal.last_left-requires-clause-fit
last_left-requires-clause-fit c = rw c.deref.ensures.value (items_fit c.self.invariant)

pub returns : goal.returns
returns c = rw c.deref.ensures.value at c.last_left.ensures ∙ ap (λ test. last_of (filter test c.args.holders.now)) (was_is c.self.view_is c.self.invariant c.args.time)
