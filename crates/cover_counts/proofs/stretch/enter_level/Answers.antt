use Rattle.std.proofs.Common.{◌∙◌}
use Rattle.cover_counts.proofs.StretchLemmas.{next_open, next_closed, open_told, closed_told}
use Rattle.cover_counts.proofs.stretch.enter_level.Goals as goal

pub returns-then-has_active : goal.returns-then-has_active
returns-then-has_active g c = c.turn.ensures ∙ next_open _ _ c.requires.label (open_told _ _ _ _ _ c.requires.stands c.has_active.ensures c.if-has_active.true)

pub returns-else-has_active : goal.returns-else-has_active
returns-else-has_active g c = c.turn-else-has_active.ensures ∙ next_closed _ _ c.requires.label (closed_told _ _ _ _ _ c.requires.stands c.has_active.ensures c.if-has_active.false)
