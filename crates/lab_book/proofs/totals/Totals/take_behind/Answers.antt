use Rattle.std.proofs.Common.{arith}
use Rattle.lab_book.proofs.TotalsLemmas.{taken_from_end, taken_can, taken_long, taken_on}
use Rattle.lab_book.proofs.totals.Totals.take_behind.Goals as goal

pub taking-init : goal.taking-init
taking-init c = record { taken = taken_from_end _ _ _ c.len-place.ensures; within = omega (arith, c.len-place.ensures, c.requires.within) }

pub stretch-requires : goal.stretch-requires
stretch-requires c = let w = c.taking.invariant.taken.within in omega (arith, c.taking-test.true)

pub take-requires-clause-long : goal.take-requires-clause-long
take-requires-clause-long c = taken_long _ _ _ _ _ c.taking.invariant.taken (omega (arith, c.taking-test.true)) c.stretch.ensures c.requires.long

pub take-requires-clause-some : goal.take-requires-clause-some
take-requires-clause-some c = taken_can _ _ _ _ _ c.taking.invariant.taken (omega (arith, c.taking-test.true)) c.stretch.ensures c.requires.some

pub taking-preserved : goal.taking-preserved
taking-preserved c = record {
  taken = taken_on _ _ _ _ _ c.taking.invariant.taken (omega (arith, c.taking-test.true)) c.stretch.ensures _ c.take.ensures.taken c.take.ensures.levels;
  within = omega (arith, c.taking-test.true);
}
