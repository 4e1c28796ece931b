use Rattle.std.proofs.Common.{eq-eqb}
use Rattle.std.proofs.lemmas.Bool.{eqb-true}
use Rattle.std.proofs.lemmas.List.{length-take-le}
use mir.Syntax.{w32}
use Rattle.prefixes.proofs.StepLemmas.{same_step, no_step_differs}
use Rattle.prefixes.proofs.steps.same_step.Goals as goal

pub returns : goal.returns
returns c =
    let long = length-take-le 64 c.args.one.now c.requires.long in
    let other_long = length-take-le 64 c.args.other.now c.requires.other_long in
    (λ t. same_step w32 _ _ long other_long (eqb-true _ _ t), λ e. eq-eqb _ _ (no_step_differs w32 _ _ long other_long e))
