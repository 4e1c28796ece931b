use Rattle.std.proofs.Common.{subst, drop, ap, ◌∙◌}
use Rattle.x_steps.specs.Order.{IsShared}
use Rattle.x_codes.specs.StateCode.{ReadsState}
use Rattle.x_codes.proofs.StateLemmas.{after_is, reads_after}
use Rattle.x_codes.proofs.writing.put_after.Goals as goal

pub returns-clause-code : goal.returns-clause-code
returns-clause-code c =
    let same = subst (λ path. IsShared c.args.before.now path c.shared-same.result) c.deref.ensures.value c.shared-same.ensures in
    after_is _ _ _ _ _ _ _ same (c.split_at.ensures.back ∙ ap (drop c.shared-same.result) c.deref-2.ensures.value) c.in_ok-put.ensures.added
    c.in_ok-put_parts.ensures.code

pub returns-clause-reads : goal.returns-clause-reads
returns-clause-reads c =
    let same = subst (λ path. IsShared c.args.before.now path c.shared-same.result) c.deref.ensures.value c.shared-same.ensures in
    reads_after _ _ _ same (subst (λ path. ReadsState (record { label = c.args.state.now.label; path = path; cursor = c.args.state.now.cursor }))
    (c.split_at.ensures.back ∙ ap (drop c.shared-same.result) c.deref-2.ensures.value) c.in_ok-put_parts.ensures.reads)
