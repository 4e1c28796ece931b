use Rattle.std.proofs.Common.{◌∙◌, lit<, arith}
use Rattle.cover_problem.proofs.TableLemmas.{plain_at, walks, times_long, primary_within}
use Rattle.cover_problem.proofs.plain.PlainTableTable.first_item.Goals as goal

pub first_uncovered-requires-clause-within : goal.first_uncovered-requires-clause-within
first_uncovered-requires-clause-within c =
    let l = times_long c.self.invariant in
    let w = primary_within c.self.invariant (lit< tt) in
    rw c.deref.ensures.value (omega arith)

pub returns : goal.returns
returns c = rw c.deref.ensures.value at c.first_uncovered.ensures ∙ walks (plain_at c.self.view_is c.self.invariant) (lit< tt) 0 (omega arith)
