use Rattle.cover_counts.proofs.StretchLemmas.{path_at_X2, still, still_path, open_below, ok_leaps, ok_on, ok_not_past}
use Rattle.cover_counts.proofs.stretch.pass_level.Goals as goal

pub open_level-requires-clause-open : goal.open_level-requires-clause-open
open_level-requires-clause-open g c =
    rw (still_path _ _ _ c.requires.stands.fits c.requires.label c.is_passed.ensures.same)
    (open_below _ _ _ c.requires.stands.fits c.requires.end c.requires.before c.requires.label ((c.is_passed.ensures.passed _ (path_at_X2 _ _ _ _ c.requires.stands.fits c.requires.label).0 c.requires.end).0 c.if-is_passed.false))

pub returns-then-is_passed-clause-on : goal.returns-then-is_passed-clause-on
returns-then-is_passed-clause-on g c = ok_leaps _ _ _ c.leap.result c.requires.stands.fits c.requires.label (rw (still_path _ _ _ c.requires.stands.fits c.requires.label c.is_passed.ensures.same) at c.leap.ensures.there)

pub returns-else-is_passed-clause-on : goal.returns-else-is_passed-clause-on
returns-else-is_passed-clause-on g c = ok_on _ _ _ _ c.open_level.result c.requires.stands.fits c.requires.end c.requires.before (rw (still _ _ _ c.requires.stands.fits c.requires.label c.is_passed.ensures.same) at c.open_level.ensures.next)

pub returns-else-is_passed-clause-not_past : goal.returns-else-is_passed-clause-not_past
returns-else-is_passed-clause-not_past g c =
    ok_not_past _ _ _ _ c.open_level.result c.requires.stands.fits c.requires.end c.requires.before (rw (still _ _ _ c.requires.stands.fits c.requires.label c.is_passed.ensures.same) at c.open_level.ensures.next)
