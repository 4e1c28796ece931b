use Rattle.std.proofs.Common.{◌∙◌, ap, ◌++◌, arith}
use Rattle.cover_problem.proofs.FlatListLemmas.{same_default}
use Rattle.packed_rows.specs.Numbers.{numbers_of}
use Rattle.packed_rows.proofs.RowLemmas.{reads_all, whole_all}
use Rattle.packed_rows.proofs.row.Row.put_list.Goals as goal

pub invariant_of-self-2 : goal.invariant_of-self-2
invariant_of-self-2 c =
    rw c.in_ok-put_numbers.ensures.added
    (whole_all _ _ c.self.invariant (λ k d l. omega (arith, (c.type_inv.list k).fits, same_default c.args.list.now k d 0 l)))

pub returns-clause-added : goal.returns-clause-added
returns-clause-added c =
    ap numbers_of c.in_ok-put_numbers.ensures.added
    ∙ reads_all _ _ c.self.invariant.whole (λ k d l. omega (arith, (c.type_inv.list k).fits, same_default c.args.list.now k d 0 l))
    ∙ ap (λ ns. ns ++ c.args.list.now) c.self.view_is
