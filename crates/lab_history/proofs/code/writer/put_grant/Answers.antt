use Rattle.std.proofs.Common.{append_assoc}
use Rattle.lab_history.specs.EntryCode.{grant_code}
use Rattle.lab_history.proofs.CodeLemmas.{reads_grant}
use Rattle.lab_history.proofs.code.writer.put_grant.Goals as goal

pub returns-clause-code : goal.returns-clause-code
unfolding grant_code
returns-clause-code c = rw (c.in_ok-put-3.ensures.added, c.in_ok-put-2.ensures.added, c.byte.ensures.same, c.in_ok-put.ensures.added) (simp append_assoc)

pub returns-clause-reads : goal.returns-clause-reads
returns-clause-reads c = reads_grant _ c.byte.ensures.small
