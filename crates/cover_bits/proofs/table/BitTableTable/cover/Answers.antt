use Rattle.std.proofs.Common.{◌∙◌, ◌++◌, ◌∷◌, [], ap}
use Rattle.cover_bits.proofs.table.BitTableTable.cover.Goals as goal

pub put-requires-clause-within : goal.put-requires-clause-within
put-requires-clause-within c = rw c.settle.ensures.same_problem c.requires.within

pub put-requires-clause-uncovered : goal.put-requires-clause-uncovered
put-requires-clause-uncovered c = rw c.settle.ensures.covered c.requires.uncovered

pub returns-clause-same_problem : goal.returns-clause-same_problem
returns-clause-same_problem c = c.put.ensures.same_problem ∙ c.settle.ensures.same_problem

pub returns-clause-covered : goal.returns-clause-covered
returns-clause-covered c = c.put.ensures.covered ∙ ap (λ x. x ++ c.args.item ∷ []) c.settle.ensures.covered
