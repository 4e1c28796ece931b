use Rattle.std.proofs.Common.{◌∙◌}
use Rattle.cover_counts.proofs.StretchLemmas.{next_X4, options_at}
use Rattle.cover_counts.proofs.stretch.open_options.Goals as goal

pub returns : goal.returns
returns g c = c.turn.ensures ∙ next_X4 _ _ _ c.requires.label (c.first_cursor-cursor.ensures ∙ options_at _ _ _ _ c.requires.stands 0)
