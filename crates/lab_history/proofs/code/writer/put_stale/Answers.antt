use Rattle.std.proofs.Common.{subst, append_assoc}
use Rattle.x_codes.specs.StateCode.{ReadsState}
use Rattle.lab_history.specs.EntryCode.{fault_code}
use Rattle.lab_history.proofs.CodeLemmas.{reads_stale}
use Rattle.lab_history.proofs.code.writer.put_stale.Goals as goal

pub returns-clause-code : goal.returns-clause-code
unfolding fault_code
returns-clause-code c = rw (c.in_ok-put_state.ensures.code, c.in_ok-put.ensures.added, c.state.ensures) (simp append_assoc)

pub returns-clause-reads : goal.returns-clause-reads
returns-clause-reads c = reads_stale _ (subst ReadsState c.state.ensures c.in_ok-put_state.ensures.reads)
