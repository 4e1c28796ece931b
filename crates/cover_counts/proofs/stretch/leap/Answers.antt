use Rattle.cover_counts.proofs.StretchLemmas.{counts_leap}
use Rattle.cover_counts.proofs.stretch.leap.Goals as goal

pub returns-clause-counts : goal.returns-clause-counts
returns-clause-counts g c = counts_leap _ _ _ _ _ _ _ _ c.requires.stands c.requires.label c.in_ok-below.ensures.below (rw (c.len.ensures, c.args.state.now.path.ok.0) at c.in_ok-add_at.ensures) c.turn.ensures
