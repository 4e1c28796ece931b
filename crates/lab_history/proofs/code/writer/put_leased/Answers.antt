use Rattle.std.proofs.Common.{subst, append_assoc}
use Rattle.x_codes.specs.StateCode.{ReadsState}
use Rattle.lab_history.specs.EntryCode.{reply_code}
use Rattle.lab_history.proofs.CodeLemmas.{reads_leased}
use Rattle.lab_history.proofs.code.writer.put_leased.Goals as goal

pub returns-clause-code : goal.returns-clause-code
unfolding reply_code
returns-clause-code c = rw (c.in_ok-put_state.ensures.code, c.in_ok-put_cut-2.ensures.code, c.in_ok-put_cut.ensures.code, c.in_ok-put_grant.ensures.code, c.in_ok-put-2.ensures.added, c.in_ok-put.ensures.added, c.state.ensures) (simp append_assoc)

pub returns-clause-reads : goal.returns-clause-reads
returns-clause-reads c = reads_leased _ _ _ _ _ c.in_ok-put_grant.ensures.reads c.in_ok-put_cut.ensures.reads c.in_ok-put_cut-2.ensures.reads (subst ReadsState c.state.ensures c.in_ok-put_state.ensures.reads)
