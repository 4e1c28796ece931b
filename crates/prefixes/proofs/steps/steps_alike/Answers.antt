use Rattle.std.proofs.Common.{◌≡◌, ◌+◌, ◌*◌, refl, subst, arith}
use Rattle.std.proofs.lemmas.Bool.{false≢true}
use Rattle.prefixes.proofs.StepLemmas.{AreAlike, alike_behind, alike_more}
use Rattle.prefixes.proofs.steps.steps_alike.Goals as goal

pub comparing-preserved : goal.comparing-preserved
comparing-preserved c =
    let n : 64 * c.comparing.steps + 64 ≡ 64 * (c.comparing.steps + 1) = omega arith in
    subst (λ m. AreAlike m c.args.one.now c.args.other.now c.split_at.result.1.now c.split_at-in-comparing.result.1.now) n
    (alike_more _ 64 _ _ _ _ _ _ c.comparing.invariant c.comparing-test.true c.if-against-ge-STEP.true (c.if-not-same_step.ensures.0 refl)
    c.split_at.ensures.back c.split_at-in-comparing.ensures.back)

pub returns-then-not-same_step-clause-most : goal.returns-then-not-same_step-clause-most
returns-then-not-same_step-clause-most c = λ long other_long same.
    false≢true (c.if-not-same_step.ensures.1 (alike_behind _ 64 _ _ _ _ c.comparing.invariant same))
