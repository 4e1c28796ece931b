use Rattle.std.proofs.Common.{ℕ, sym, ap, ◌∙◌}
use Rattle.std.specs.Global.{Vec}
use Rattle.std.proofs.lemmas.List.Elements.{All-get_or}
use Rattle.x_steps.specs.declared.state.Label.TheVariants.{X5}
use Rattle.x_steps.specs.declared.state.Cursor.TheVariants.{At}
use Rattle.x_steps.specs.StateValue.{at}
use Rattle.x_steps.specs.Steps.{Fits}
use Rattle.x_branches.proofs.UntriedLemmas.{kept_one, kept_none}
use Rattle.x_branches.proofs.runner.untried.cut_inside.Goals as goal
use Rattle.x_branches.proofs.runner.untried.cut_inside.Goals.{then-is_cut_inside+in_ok-push, else-is_cut_inside}

pub loop-option-preserved : goal.loop-option-preserved
loop-option-preserved c p is_of fits =
    let test = c.is_cut_inside.ensures p is_of (All-get_or (λ k. Fits p (at X5 c.args.front.now (At k))) c.args.options.now c.loop-option.option-index 0 c.loop-option-test.true fits) in
    let kept = c.loop-option.invariant p is_of fits in
    elim c.if-is_cut_inside.branch [
      | then-is_cut_inside+in_ok-push w ↦ ap (λ (v : Vec ℕ). v.items) w.kept-is ∙ w.in_ok-push.ensures.items ∙ kept_one _ _ _ _ kept c.loop-option-test.true (sym test ∙ w.if-is_cut_inside.true)
      | else-is_cut_inside w ↦ ap (λ (v : Vec ℕ). v.items) w.kept-is ∙ kept_none _ _ _ _ kept c.loop-option-test.true (sym test ∙ w.if-is_cut_inside.false)
    ]
