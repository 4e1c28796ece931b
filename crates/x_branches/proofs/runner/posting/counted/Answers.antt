use Rattle.std.proofs.Common.{◌≡◌, ◌+◌, ◌-◌, take, refl, ap, ◌∙◌, arith}
use Rattle.std.proofs.lemmas.Bool.{false≢true}
use Rattle.x_steps.specs.Levels.{without_last_zeros}
use Rattle.x_branches.proofs.PostingLemmas.{zero_before, no_zero_before}
use Rattle.x_branches.proofs.runner.posting.counted.Goals as goal

pub loop-count-preserved : goal.loop-count-preserved
loop-count-preserved c =
    let zero = c.loop-count-test.ensures.0 refl in
    let some = zero.0 in
    let within = c.loop-count.invariant.within in
    let more : c.loop-count.count - 1 + 1 ≡ c.loop-count.count = omega arith in
    record {
      within = omega arith;
      same = zero_before c.args.counts.now (c.loop-count.count - 1) (omega arith) zero.1 ∙ ap (λ n. without_last_zeros (take n c.args.counts.now)) more ∙ c.loop-count.invariant.same;
    }

pub returns-clause-cut : goal.returns-clause-cut
returns-clause-cut c = no_zero_before _ _ c.loop-count.invariant.within (λ zero. false≢true (c.loop-count-test.ensures.1 zero)) ∙ c.loop-count.invariant.same
