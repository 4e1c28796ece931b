use Rattle.std.proofs.Common.{◌∙◌, ap}
use Rattle.x_steps.specs.declared.state.Label.TheVariants.{X2}
use Rattle.x_steps.specs.declared.state.Cursor.TheVariants.{None}
use Rattle.x_steps.specs.StateValue.{at}
use Rattle.cover_counts.proofs.StretchLemmas.{takes, next_at_option}
use Rattle.cover_counts.proofs.stretch.take.Goals as goal

pub returns-clause-stands : goal.returns-clause-stands
returns-clause-stands g c =
    takes _ _ _ _ _ _ _ _ c.requires.stands c.requires.label c.requires.cursor c.go_down.ensures.at c.go_down.ensures.covered (c.turn.ensures ∙ ap (λ path. at X2 path None) c.in_ok-push.ensures.items)

pub returns-clause-next : goal.returns-clause-next
returns-clause-next g c = c.turn.ensures ∙ ap (λ path. at X2 path None) c.in_ok-push.ensures.items ∙ next_at_option _ _ _ c.requires.label c.requires.cursor
