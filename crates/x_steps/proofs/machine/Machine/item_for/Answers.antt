use Rattle.std.proofs.Common.{false, refl}
use Rattle.x_steps.proofs.ResumeLemmas.{down_label, flagged_in, option_none, active_none, active_open, all_within, choice_X2, chosen_X2, no_choice}
use Rattle.x_steps.proofs.machine.Machine.item_for.Goals as goal

pub returns-then-not-has_option-clause-none : goal.returns-then-not-has_option-clause-none
returns-then-not-has_option-clause-none g c =
    let at_label = down_label _ _ _ _ _ _ c.self.view_is c.requires in
    rw (← c.self.view_is) (λ _. no_choice false refl (option_none _ _ _ _ _ c.self.invariant at_label _ _ c.if-not-has_option.true c.has_option.ensures.1))

pub returns-then-not-has_active-clause-none : goal.returns-then-not-has_active-clause-none
returns-then-not-has_active-clause-none g c =
    let at_label = down_label _ _ _ _ _ _ c.self.view_is c.requires in
    rw (← c.self.view_is) (λ _. no_choice false refl (active_none _ _ _ _ _ c.self.invariant at_label _ _ c.if-not-has_active.true c.has_active.ensures))

pub option-requires : goal.option-requires
option-requires g c =
    let range = c.if-not-has_option.ensures.0 refl in
    record { some = range.0; within = range.1 }

pub choose-item-requires-clause-open : goal.choose-item-requires-clause-open
choose-item-requires-clause-open g c = active_open _ _ _ _ _ c.self.invariant _ c.if-not-has_active.false c.has_active.ensures

pub is_free-requires : goal.is_free-requires
is_free-requires g c =
    let at_label = down_label _ _ _ _ _ _ c.self.view_is c.requires in
    let range = c.if-not-has_option.ensures.0 refl in
    let flagged = flagged_in _ _ _ _ c.self.view_is c.requires in
    all_within _ _ _ _ _ c.self.invariant at_label _ range.0 range.1 _ _ c.option.ensures flagged

pub returns-then-is_free-clause-item : goal.returns-then-is_free-clause-item
returns-then-is_free-clause-item g c =
    let at_label = down_label _ _ _ _ _ _ c.self.view_is c.requires in
    rw (← c.self.view_is) (chosen_X2 _ _ _ _ _ c.self.invariant at_label _ c.choose-item.ensures)

pub returns-then-is_free-clause-choice : goal.returns-then-is_free-clause-choice
returns-then-is_free-clause-choice g c =
    let at_label = down_label _ _ _ _ _ _ c.self.view_is c.requires in
    let range = c.if-not-has_option.ensures.0 refl in
    let flagged = flagged_in _ _ _ _ c.self.view_is c.requires in
    rw (← c.self.view_is) ((choice_X2 _ _ _ _ _ c.self.invariant at_label _ range.0 range.1 _ _ c.option.ensures flagged _ c.if-not-has_active.false c.has_active.ensures _ c.choose-item.ensures _ c.is_free.ensures).0 c.if-is_free.true)

pub returns-else-is_free-clause-none : goal.returns-else-is_free-clause-none
returns-else-is_free-clause-none g c =
    let at_label = down_label _ _ _ _ _ _ c.self.view_is c.requires in
    let range = c.if-not-has_option.ensures.0 refl in
    let flagged = flagged_in _ _ _ _ c.self.view_is c.requires in
    rw (← c.self.view_is) (λ _. no_choice _ c.if-is_free.false (choice_X2 _ _ _ _ _ c.self.invariant at_label _ range.0 range.1 _ _ c.option.ensures flagged _ c.if-not-has_active.false c.has_active.ensures _ c.choose-item.ensures _ c.is_free.ensures))
