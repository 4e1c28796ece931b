use Rattle.std.proofs.Common.{append_assoc}
use Rattle.lab_history.specs.EntryCode.{reply_code}
use Rattle.lab_history.proofs.CodeLemmas.{reads_posted}
use Rattle.lab_history.proofs.code.writer.put_posted.Goals as goal

pub returns-clause-code : goal.returns-clause-code
unfolding reply_code
returns-clause-code c = rw (c.in_ok-put-3.ensures.added, c.in_ok-put-2.ensures.added, c.in_ok-put.ensures.added, c.flag.ensures) (simp append_assoc)

pub returns-clause-reads : goal.returns-clause-reads
returns-clause-reads c = reads_posted _ _
