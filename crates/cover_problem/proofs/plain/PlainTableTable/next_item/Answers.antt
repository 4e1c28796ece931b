use Rattle.std.proofs.Common.{◌∙◌, lit<, arith}
use Rattle.cover_problem.proofs.TableLemmas.{plain_at, walks, times_long, primary_within}
use Rattle.cover_problem.proofs.ActiveLemmas.{active_in}
use Rattle.cover_problem.proofs.plain.PlainTableTable.next_item.Goals as goal

pub first_uncovered-requires-clause-after : goal.first_uncovered-requires-clause-after
first_uncovered-requires-clause-after c =
    let i = active_in c.args.self.now.problem c.args.self.now.covered c.args.item c.requires in
    let e = (plain_at c.self.view_is c.self.invariant).primary_is in
    let a = i.1 in
    omega arith

pub first_uncovered-requires-clause-within : goal.first_uncovered-requires-clause-within
first_uncovered-requires-clause-within c =
    let l = times_long c.self.invariant in
    let w = primary_within c.self.invariant (lit< tt) in
    rw c.deref.ensures.value (omega arith)

pub returns : goal.returns
returns c =
    let i = active_in c.args.self.now.problem c.args.self.now.covered c.args.item c.requires in
    let e = (plain_at c.self.view_is c.self.invariant).primary_is in
    let a = i.1 in
    rw c.deref.ensures.value at c.first_uncovered.ensures ∙ walks (plain_at c.self.view_is c.self.invariant) (lit< tt) c.args.item (omega arith)
