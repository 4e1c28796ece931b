use Rattle.std.proofs.Common.{◌+◌, length, arith, sym, ap, ℕ}
use Rattle.cover_problem.proofs.PathLemmas.{covered_by_none}
use Rattle.x_branches.proofs.StageLemmas.{choice_in}
use Rattle.x_branches.proofs.UntriedLemmas.{covered_more, covered_upto}
use Rattle.x_branches.proofs.runner.untried.covered_count.Goals as goal

pub loop-option-init : goal.loop-option-init
loop-option-init c = sym (ap (length {A = ℕ}) (covered_by_none _))

pub option-requires : goal.option-requires
option-requires c = let w = choice_in _ _ _ c.requires.valid c.loop-option-test.true in record { some = w.some; within = w.within }

pub overflow_add-count : goal.overflow_add-count
overflow_add-count c =
    let more = covered_more c.args.problem.now c.args.path.now c.loop-option.option-index c.requires.valid c.loop-option-test.true in
    let most = covered_upto c.args.problem.now c.args.path.now (c.loop-option.option-index + 1) in
    let long = ap (length {A = ℕ}) c.option.ensures in
    let count = c.loop-option.invariant in
    omega (arith, c.requires.within)

pub loop-option-preserved : goal.loop-option-preserved
loop-option-preserved c =
    let more = covered_more c.args.problem.now c.args.path.now c.loop-option.option-index c.requires.valid c.loop-option-test.true in
    let long = ap (length {A = ℕ}) c.option.ensures in
    let count = c.loop-option.invariant in
    omega arith
