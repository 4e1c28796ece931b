use Rattle.std.proofs.Common.{◌∙◌, sym, refl}
use Rattle.std.proofs.lemmas.Bool.{false≢true}
use Rattle.x_steps.proofs.ZeroLemmas.{zero_taken, no_zero_left}
use Rattle.x_steps.proofs.counts.drop_last_zeros.Goals as goal

pub loop-counts-preserved : goal.loop-counts-preserved
loop-counts-preserved c =
    let zero = c.loop-counts-test.ensures.0 refl in
    zero_taken _ _ _ (rw c.deref.ensures.value at zero) c.pop.ensures.items ∙ c.loop-counts.invariant

pub returns : goal.returns
returns c =
    sym (no_zero_left _ (λ h. false≢true (c.loop-counts-test.ensures.1 (rw c.deref.ensures.value h)))) ∙ c.loop-counts.invariant
