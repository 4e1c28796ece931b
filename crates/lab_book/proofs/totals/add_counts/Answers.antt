use Rattle.std.proofs.Common.{ℕ, inl, inr, arith}
use Rattle.lab_book.proofs.SumLemmas.{read_next, level_within, all_read}
use Rattle.lab_book.proofs.totals.add_counts.Goals as goal

pub bounds-totals-level : goal.bounds-totals-level
bounds-totals-level c =
    level_within _ _ _ _ _ c.in-Some.count _ _ c.adding.invariant c.adding-test.true c.in-Some.ensures c.requires.levels

pub bounds-totals-level-in-adding : goal.bounds-totals-level-in-adding
bounds-totals-level-in-adding c =
    level_within _ _ _ _ _ c.in-Some.count _ _ c.adding.invariant c.adding-test.true c.in-Some.ensures c.requires.levels

pub offset_bounds-totals-level : goal.offset_bounds-totals-level
offset_bounds-totals-level c =
    omega (arith, level_within _ _ _ _ _ c.in-Some.count _ _ c.adding.invariant c.adding-test.true c.in-Some.ensures c.requires.levels)

pub adding-preserved : goal.adding-preserved
adding-preserved c =
    rw c.choice.ensures
    (read_next _ _ _ _ _ c.in-Some.count _ _ c.adding.invariant c.adding-test.true c.in-Some.ensures c.requires.levels)

pub returns-in_default-clause-sums : goal.returns-in_default-clause-sums
returns-in_default-clause-sums c = (all_read _ _ _ _ _ _ c.adding.invariant (inr c.in_default.ensures.0)).sums

pub returns-clause-sums : goal.returns-clause-sums
returns-clause-sums c = (all_read _ _ _ _ _ _ c.adding.invariant (inl (omega (arith, c.adding-test.false)))).sums
