use Rattle.std.proofs.Common.{inl, inr, arith}
use Rattle.lab_book.proofs.SumLemmas.{taken_within, taken_some, take_next, all_taken}
use Rattle.lab_book.proofs.totals.take_counts.Goals as goal

pub bounds-totals-level : goal.bounds-totals-level
bounds-totals-level c =
    taken_within _ _ _ _ _ c.in-Some.count _ _ c.taking.invariant c.taking-test.true c.in-Some.ensures c.requires.levels

pub bounds-totals-level-in-taking : goal.bounds-totals-level-in-taking
bounds-totals-level-in-taking c =
    taken_within _ _ _ _ _ c.in-Some.count _ _ c.taking.invariant c.taking-test.true c.in-Some.ensures c.requires.levels

pub offset_bounds-totals-level : goal.offset_bounds-totals-level
offset_bounds-totals-level c =
    omega (arith, taken_within _ _ _ _ _ c.in-Some.count _ _ c.taking.invariant c.taking-test.true c.in-Some.ensures c.requires.levels)

pub overflow_sub-totals : goal.overflow_sub-totals
overflow_sub-totals c =
    rw c.choice.ensures
    (taken_some _ _ _ _ _ c.in-Some.count _ _ c.taking.invariant c.taking-test.true c.in-Some.ensures c.requires.levels c.requires.some)

pub taking-preserved : goal.taking-preserved
taking-preserved c =
    rw c.choice.ensures
    (take_next _ _ _ _ _ c.in-Some.count _ _ c.taking.invariant c.taking-test.true c.in-Some.ensures c.requires.levels c.requires.some)

pub returns-in_default-clause-sums : goal.returns-in_default-clause-sums
returns-in_default-clause-sums c = all_taken _ _ _ _ _ _ c.taking.invariant (inr c.in_default.ensures.0)

pub returns-clause-sums : goal.returns-clause-sums
returns-clause-sums c = all_taken _ _ _ _ _ _ c.taking.invariant (inl (omega (arith, c.taking-test.false)))
