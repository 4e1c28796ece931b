use Rattle.std.proofs.Common.{arith}
use Rattle.cover_problem.proofs.FlatListLemmas.{same_default}
use Rattle.packed_rows.proofs.row.Row.put_with_length.Goals as goal

pub returns-clause-words : goal.returns-clause-words
returns-clause-words c = λ k d l. omega (arith, (c.type_inv.list k).fits, same_default c.args.list.now k d 0 l)
