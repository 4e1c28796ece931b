use Rattle.std.proofs.Common.{append_assoc}
use Rattle.lab_history.specs.EntryCode.{reply_code}
use Rattle.lab_history.proofs.CodeLemmas.{reads_refused}
use Rattle.lab_history.proofs.code.writer.put_refused.Goals as goal

pub returns-clause-code : goal.returns-clause-code
unfolding reply_code
returns-clause-code c = rw (c.in_ok-put_fault.ensures.code, c.in_ok-put.ensures.added) (simp append_assoc)

pub returns-clause-reads : goal.returns-clause-reads
returns-clause-reads c = reads_refused _ c.in_ok-put_fault.ensures.reads
