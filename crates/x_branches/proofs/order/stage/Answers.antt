use Rattle.std.proofs.Common.{◌≤◌, length, refl, subst}
use Rattle.x_steps.specs.StateValue.{StateValue}
use Rattle.x_steps.specs.Steps.{Fits}
use Rattle.x_branches.specs.Stage.{Shifts, digit_of}
use Rattle.x_branches.proofs.StageLemmas.{choice_shifts, end_shifts}
use Rattle.x_branches.proofs.order.stage.Goals as goal

pub returns-then-level-position : goal.returns-then-level-position
returns-then-level-position c p f =
    subst (λ (s : StateValue). Fits p s → Shifts (length p.options) c.stage_below.result (digit_of p s c.args.level)) c.position.view_is
    (λ g. choice_shifts p _ c.args.level _ _ g c.if-level-position.true refl c.stage_below.ensures.stage c.stage_below.ensures.within) f

pub returns-else-level-position : goal.returns-else-level-position
returns-else-level-position c p f =
    subst (λ (s : StateValue). Fits p s → c.args.level ≤ length s.path → Shifts (length p.options) c.stage_of.result (digit_of p s c.args.level)) c.position.view_is
    (λ g l. end_shifts p _ c.args.level _ g l c.if-level-position.false c.stage_of.ensures.stage c.stage_of.ensures.within) f c.requires
