use Rattle.std.proofs.Common.{◌∙◌}
use Rattle.cover_counts.proofs.StretchLemmas.{next_X6, options_at}
use Rattle.cover_counts.proofs.stretch.go_on.Goals as goal

pub returns : goal.returns
returns g c = c.turn.ensures ∙ next_X6 _ _ _ _ c.requires.label c.requires.cursor (c.later_cursor-cursor.ensures ∙ options_at _ _ _ _ c.requires.stands c.args.option)
