use Rattle.std.proofs.Common.{ap, ◌∙◌, refl}
use Rattle.x_steps.specs.Steps.{next_cursor}
use Rattle.cover_counts.proofs.SearchLemmas.{chosen_bounds, next_in, next_is}
use Rattle.cover_counts.proofs.stretch.later_cursor.Goals as goal

pub next_option-requires : goal.next_option-requires
next_option-requires g c = next_in _ _ _ _ _ _ c.requires.at refl (chosen_bounds _ _ _ _ c.requires.at c.requires.choice.active c.choose-item.ensures).0 c.requires.choice

pub returns : goal.returns
returns g c =
    c.cursor_at.ensures ∙ ap next_cursor (next_is _ _ _ _ _ _ _ c.requires.at refl (chosen_bounds _ _ _ _ c.requires.at c.requires.choice.active c.choose-item.ensures).0 c.requires.choice c.next_option.ensures)
