use Rattle.std.proofs.Common.{subst, append_assoc}
use Rattle.x_codes.specs.StateCode.{ReadsState}
use Rattle.lab_history.specs.EntryCode.{call_code}
use Rattle.lab_history.proofs.CodeLemmas.{reads_put_back}
use Rattle.lab_history.proofs.code.writer.put_put_back.Goals as goal

pub returns-clause-code : goal.returns-clause-code
unfolding call_code
returns-clause-code c = rw (c.in_ok-put_state.ensures.code, c.in_ok-put-2.ensures.added, c.in_ok-put.ensures.added, c.state.ensures) (simp append_assoc)

pub returns-clause-reads : goal.returns-clause-reads
returns-clause-reads c = reads_put_back _ _ (subst ReadsState c.state.ensures c.in_ok-put_state.ensures.reads)
