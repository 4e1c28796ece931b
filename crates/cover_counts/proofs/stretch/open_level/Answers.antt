use Rattle.cover_counts.proofs.StretchLemmas.{ok_open}
use Rattle.cover_counts.proofs.stretch.open_level.Goals as goal

pub returns-clause-counts : goal.returns-clause-counts
returns-clause-counts g c =
    ok_open _ _ _ _ _ c.in_ok-below.below c.step.result c.requires.stands.fits c.requires.label c.requires.open c.in_ok-below.ensures.visits c.in_ok-below.ensures.low c.in_ok-below.ensures.high (rw (c.len.ensures, c.args.state.now.path.ok.0) at c.in_ok-add_at.ensures) c.step.ensures.next
