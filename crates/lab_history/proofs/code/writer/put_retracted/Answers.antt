use Rattle.std.proofs.Common.{subst, append_assoc}
use Rattle.x_codes.specs.StateCode.{ReadsState}
use Rattle.lab_history.specs.EntryCode.{reply_code}
use Rattle.lab_history.proofs.CodeLemmas.{reads_retracted}
use Rattle.lab_history.proofs.code.writer.put_retracted.Goals as goal

pub returns-clause-code : goal.returns-clause-code
unfolding reply_code
returns-clause-code c = rw (c.in_ok-put_state-2.ensures.code, c.in_ok-put_state.ensures.code, c.in_ok-put.ensures.added, c.state.ensures, c.state-2.ensures) (simp append_assoc)

pub returns-clause-reads : goal.returns-clause-reads
returns-clause-reads c = reads_retracted _ _ (subst ReadsState c.state.ensures c.in_ok-put_state.ensures.reads) (subst ReadsState c.state-2.ensures c.in_ok-put_state-2.ensures.reads)
