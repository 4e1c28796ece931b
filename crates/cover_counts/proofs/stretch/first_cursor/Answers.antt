use Rattle.std.proofs.Common.{ap, ◌∙◌}
use Rattle.x_steps.specs.Steps.{next_cursor}
use Rattle.cover_counts.proofs.SearchLemmas.{chosen_bounds, chosen_first}
use Rattle.cover_counts.proofs.stretch.first_cursor.Goals as goal

pub first_option-requires-clause-some : goal.first_option-requires-clause-some
first_option-requires-clause-some g c = (chosen_bounds _ _ _ _ c.requires.at c.requires.open c.choose-item.ensures).1

pub first_option-requires-clause-within : goal.first_option-requires-clause-within
first_option-requires-clause-within g c = (chosen_bounds _ _ _ _ c.requires.at c.requires.open c.choose-item.ensures).2

pub returns : goal.returns
returns g c =
    c.cursor_at.ensures ∙ ap next_cursor (chosen_first _ _ _ _ _ c.requires.at c.requires.open (chosen_bounds _ _ _ _ c.requires.at c.requires.open c.choose-item.ensures).0 c.first_option.ensures)
