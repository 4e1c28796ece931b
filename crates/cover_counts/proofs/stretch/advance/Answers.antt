use Rattle.cover_counts.proofs.StretchLemmas.{ok_holds, ok_on, ok_not_past, ok_quiet}
use Rattle.cover_counts.proofs.stretch.advance.Goals as goal

pub returns-in_default : goal.returns-in_default
returns-in_default g c = record {
  stands = c.step.ensures.stands;
  kept = ok_holds _ c.step.result c.requires.kept;
  on = ok_on _ _ _ _ c.step.result c.requires.stands.fits c.requires.end c.requires.before c.step.ensures.next;
  not_past = ok_not_past _ _ _ _ c.step.result c.requires.stands.fits c.requires.end c.requires.before c.step.ensures.next;
  counts = ok_quiet _ _ _ _ _ c.step.result c.requires.stands.fits c.requires.end c.requires.before c.in_default.not-X2 c.step.ensures.next;
}
