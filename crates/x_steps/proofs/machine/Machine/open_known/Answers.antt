use Rattle.std.proofs.Common.{ap, sym, ◌∙◌}
use Rattle.x_steps.specs.declared.state.Label.TheVariants.{X5}
use Rattle.x_steps.specs.declared.state.Cursor.TheVariants.{At}
use Rattle.x_steps.proofs.ResumeLemmas.{step_inside, known_option, known_items, known_few, known_open, known_choice, chosen_X2}
use Rattle.x_steps.proofs.machine.Machine.open_known.Goals as goal

pub option-requires : goal.option-requires
option-requires g c =
    let range = known_option _ _ _ _ _ c.self.invariant (ap (λ m. m.state.label) c.self.view_is ∙ c.requires.label) _ (step_inside X5 (At c.args.option) c.self.view_is c.requires.fits) in
    record { some = range.0; within = range.1 }

pub chosen_of-item-requires : goal.chosen_of-item-requires
chosen_of-item-requires g c =
    let label = ap (λ m. m.state.label) c.self.view_is ∙ c.requires.label in
    let fits = step_inside X5 (At c.args.option) c.self.view_is c.requires.fits in
    rw c.option.ensures record {
      primary = c.primary.ensures ∙ sym (ap (λ p. p.primary) c.self.invariant.same);
      items = known_items _ _ _ _ _ c.self.invariant label _ fits;
      few = known_few _ _ _ _ _ c.self.invariant label _ fits;
      «open» = known_open _ _ _ _ _ c.self.invariant label _ fits;
      chosen = known_choice _ _ _ _ _ c.self.invariant label _ fits;
    }

pub open_for-requires-clause-item : goal.open_for-requires-clause-item
open_for-requires-clause-item g c =
    let label = ap (λ m. m.state.label) c.self.view_is ∙ c.requires.label in
    rw (← c.self.view_is) (chosen_X2 _ _ _ _ _ c.self.invariant label _ c.chosen_of-item.ensures)
