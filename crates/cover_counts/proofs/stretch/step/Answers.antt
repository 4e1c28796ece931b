use Rattle.std.proofs.Common.{◌∙◌}
use Rattle.cover_counts.proofs.StretchLemmas.{stays, stays_by, next_X1, next_X3, next_X7, next_past, path_X2, path_X4, path_X6}
use Rattle.cover_counts.proofs.stretch.step.Goals as goal

pub returns-in-X1-default-clause-stands : goal.returns-in-X1-default-clause-stands
returns-in-X1-default-clause-stands g c = stays _ _ _ _ _ c.requires.stands (c.turn.ensures ∙ next_X1 _ _ c.in-X1-default.is-0) (λ i. (c.turn.ensures i).path)

pub returns-in-X1-default-clause-next : goal.returns-in-X1-default-clause-next
returns-in-X1-default-clause-next g c = c.turn.ensures ∙ next_X1 _ _ c.in-X1-default.is-0

pub returns-in-X2-default-clause-stands : goal.returns-in-X2-default-clause-stands
returns-in-X2-default-clause-stands g c = stays_by _ _ _ _ _ c.requires.stands c.enter_level.ensures (path_X2 _ _ c.in-X2-default.is-0)

pub returns-in-X3-default-clause-next : goal.returns-in-X3-default-clause-next
returns-in-X3-default-clause-next g c = c.turn-in-X3-default.ensures ∙ next_X3 _ _ c.in-X3-default.is-0

pub returns-in-X4-default-clause-stands : goal.returns-in-X4-default-clause-stands
returns-in-X4-default-clause-stands g c = stays_by _ _ _ _ _ c.requires.stands c.open_options.ensures (path_X4 _ _ c.in-X4-default.is-0)

pub returns-in-X5-Past-clause-next : goal.returns-in-X5-Past-clause-next
returns-in-X5-Past-clause-next g c = c.turn-in-X5-Past.ensures ∙ next_past _ _ c.in-X5-Past.is-0 c.in-X5-Past.is-1

pub returns-in-X6-At-clause-stands : goal.returns-in-X6-At-clause-stands
returns-in-X6-At-clause-stands g c = stays_by _ _ _ _ _ c.requires.stands c.go_on.ensures (path_X6 _ _ _ c.in-X6-At.is-0 c.in-X6-At.is-1)

pub returns-in-X7-default-clause-next : goal.returns-in-X7-default-clause-next
returns-in-X7-default-clause-next g c = c.turn-in-X7-default.ensures ∙ next_X7 _ _ c.in-X7-default.is-0
