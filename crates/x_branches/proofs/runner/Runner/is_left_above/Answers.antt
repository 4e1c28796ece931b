use Rattle.std.proofs.Common.{ap, sym, arith, ◌∙◌}
use Rattle.std.specs.List.{slice_get}
use Rattle.std.proofs.lemmas.Option.{slice_get_within}
use Rattle.shared_words.specs.Lists.{has}
use Rattle.x_steps.specs.StateValue.{StateValue}
use Rattle.x_branches.specs.Cut.{choices}
use Rattle.x_branches.proofs.UntriedLemmas.{none_left, left_where, not_left_below, not_left_past}
use Rattle.x_branches.proofs.runner.Runner.is_left_above.Goals as goal

pub returns-in_default : goal.returns-in_default
returns-in_default g c =
    let here = c.in_default.ensures ∙ ap (λ (s : StateValue). slice_get (choices s) c.args.level) c.state.ensures.state in
    let none = none_left c.self.inside.machine.problem c.self.inside.machine.state c.args.level here in
    rw (← c.self.view_is) (ap (λ xs. has xs c.args.option) none)

pub returns-then-option-choice : goal.returns-then-option-choice
returns-then-option-choice g c =
    let here = c.in-Some.ensures ∙ ap (λ (s : StateValue). slice_get (choices s) c.args.level) c.state.ensures.state in
    rw (← c.self.view_is) (not_left_below c.self.inside.machine.problem c.self.inside.machine.state c.args.level _ c.args.option here c.if-option-choice.true)

pub returns-then-option-options : goal.returns-then-option-options
returns-then-option-options g c =
    let here = c.in-Some.ensures ∙ ap (λ (s : StateValue). slice_get (choices s) c.args.level) c.state.ensures.state in
    let past = rw (c.options.ensures, c.problem.ensures) at c.if-option-options.true in
    rw (← c.self.view_is) (not_left_past c.self.inside.machine.problem c.self.inside.machine.state c.args.level _ c.args.option here past)

pub is_left-requires-clause-level : goal.is_left-requires-clause-level
is_left-requires-clause-level g c =
    let here = c.in-Some.ensures ∙ ap (λ (s : StateValue). slice_get (choices s) c.args.level) c.state.ensures.state in
    rw (← c.self.view_is) (slice_get_within _ _ _ (sym here))

pub returns : goal.returns
returns g c =
    let here = c.in-Some.ensures ∙ ap (λ (s : StateValue). slice_get (choices s) c.args.level) c.state.ensures.state in
    let left = rw (← c.self.view_is) at c.is_left.ensures in
    rw (← c.self.view_is) (left ∙ left_where c.self.inside.machine.problem c.self.inside.machine.state c.args.level _ c.args.option here (omega (arith, c.if-option-choice.false)))
