use Rattle.std.proofs.Common.{arith}
use Rattle.cover_problem.proofs.ProblemLemmas.{too_many}
use Rattle.cover_problem.proofs.validation.are_few.Goals as goal

pub returns-then-len-left : goal.returns-then-len-left
returns-then-len-left c = too_many (λ o. o.items) c.args.options.now c.loop-option.option-index c.loop-option.left c.args.most c.option-item.result c.loop-option.invariant c.loop-option-test.true c.option-item.is (let l = c.if-len-left.true in let e = c.len.ensures in let o = c.option-item.result.ok.0 in omega arith)
