use Rattle.std.proofs.Common.{le_refl}
use Rattle.cover_counts.proofs.StretchLemmas.{counts_none, before_end, not_same, nearer, counted_on, rank_up}
use Rattle.cover_counts.proofs.stretch.count_to.Goals as goal

pub loop-table-init : goal.loop-table-init
loop-table-init g c = record { stands = c.requires.stands; kept = c.requires.kept; up = le_refl _; not_past = c.requires.not_past; counts = counts_none _ _ _ c.requires.stands.fits }

pub advance-requires-clause-before : goal.advance-requires-clause-before
advance-requires-clause-before g c = before_end _ _ _ c.loop-table.invariant.stands.fits c.requires.end c.loop-table.invariant.not_past (not_same _ _ _ c.loop-table.invariant.stands.fits c.requires.end _ c.same.ensures c.loop-table-test.true)

pub loop-table-smaller : goal.loop-table-smaller
loop-table-smaller g c = nearer _ _ _ c.loop-table.invariant.stands.fits c.requires.end _ c.in_ok-advance.ensures.stands.fits c.in_ok-advance.ensures.on c.in_ok-advance.ensures.not_past

pub loop-table-preserved : goal.loop-table-preserved
loop-table-preserved g c = record {
  stands = c.in_ok-advance.ensures.stands;
  kept = c.in_ok-advance.ensures.kept;
  up = rank_up _ _ _ _ c.loop-table.invariant.stands.fits c.loop-table.invariant.up c.in_ok-advance.ensures.on;
  not_past = c.in_ok-advance.ensures.not_past;
  counts = counted_on _ _ _ _ _ _ _ c.requires.stands.fits c.loop-table.invariant.stands.fits c.in_ok-advance.ensures.stands.fits c.loop-table.invariant.up c.in_ok-advance.ensures.on c.loop-table.invariant.counts c.in_ok-advance.ensures.counts;
}
