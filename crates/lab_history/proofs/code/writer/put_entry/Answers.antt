use Rattle.std.proofs.Common.{append_assoc}
use Rattle.lab_history.specs.EntryCode.{entry_code}
use Rattle.lab_history.proofs.CodeLemmas.{reads_entry}
use Rattle.lab_history.proofs.code.writer.put_entry.Goals as goal

pub returns-clause-code : goal.returns-clause-code
unfolding entry_code
returns-clause-code c = rw (c.in_ok-put_reply.ensures.code, c.in_ok-put_call.ensures.code, c.in_ok-put.ensures.added, c.byte.ensures.same) (simp append_assoc)

pub returns-clause-reads : goal.returns-clause-reads
returns-clause-reads c = reads_entry _ c.byte.ensures.small c.in_ok-put_call.ensures.reads c.in_ok-put_reply.ensures.reads
