use Rattle.std.proofs.Common.{ℕ, List, subst, ap, ◌∙◌, append_assoc}
use Rattle.x_steps.specs.StateValue.{StateValue}
use Rattle.x_codes.specs.StateCode.{ReadsState, ReadsAfter}
use Rattle.lab_history.specs.EntryCode.{call_code}
use Rattle.lab_history.proofs.CodeLemmas.{reads_post}
use Rattle.lab_history.proofs.code.writer.put_post.Goals as goal

pub returns-clause-code : goal.returns-clause-code
unfolding call_code
returns-clause-code c =
    let before = c.deref.ensures.value ∙ ap (λ (s : StateValue). s.path) c.state-2.ensures in
    rw (c.in_ok-put_after.ensures.code, before, c.in_ok-put_state.ensures.code, c.in_ok-put_grant.ensures.code, c.in_ok-put-2.ensures.added, c.in_ok-put.ensures.added, c.flag.ensures, c.state.ensures, c.state-3.ensures) (simp append_assoc)

pub returns-clause-reads : goal.returns-clause-reads
returns-clause-reads c =
    let before = c.deref.ensures.value ∙ ap (λ (s : StateValue). s.path) c.state-2.ensures in
    reads_post _ _ _ _ c.in_ok-put_grant.ensures.reads (subst ReadsState c.state.ensures c.in_ok-put_state.ensures.reads)
    (subst (λ (w : List ℕ × StateValue). ReadsAfter w.0 w.1) (λ j. (before j, c.state-3.ensures j)) c.in_ok-put_after.ensures.reads)
