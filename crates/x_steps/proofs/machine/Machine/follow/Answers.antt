use Rattle.std.proofs.Common.{ap, ◌∙◌, refl}
use Rattle.x_steps.proofs.ResumeLemmas.{down_here, not_down, down_next, down_all}
use Rattle.x_steps.proofs.machine.Machine.follow.Goals as goal

pub descend-requires : goal.descend-requires
descend-requires g c = down_here _ _ _ _ c.loop-option.invariant

pub returns-then-not-descend-clause-unfit : goal.returns-then-not-descend-clause-unfit
returns-then-not-descend-clause-unfit g c = λ _ valid. not_down _ _ _ _ _ c.loop-option.invariant c.loop-option-test.true (c.if-not-descend.ensures.unfit refl) valid

pub returns-then-not-descend-clause-problem : goal.returns-then-not-descend-clause-problem
returns-then-not-descend-clause-problem g c = c.descend.ensures.problem ∙ ap (λ m. m.problem) c.loop-option.invariant.here

pub loop-option-preserved : goal.loop-option-preserved
loop-option-preserved g c = down_next _ _ _ _ _ _ _ c.loop-option.invariant c.loop-option-test.true (c.if-not-descend.ensures.down refl)

pub returns-clause-down : goal.returns-clause-down
returns-clause-down g c = λ _. down_all _ _ _ _ _ c.loop-option.invariant c.loop-option-test.false

pub returns-clause-problem : goal.returns-clause-problem
returns-clause-problem g c = ap (λ m. m.problem) c.loop-option.invariant.here
