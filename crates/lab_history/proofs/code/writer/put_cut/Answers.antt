use Rattle.lab_history.specs.EntryCode.{cut_code}
use Rattle.lab_history.proofs.CodeLemmas.{always, reads_none}
use Rattle.lab_history.proofs.code.writer.put_cut.Goals as goal

pub returns-in-None-clause-code : goal.returns-in-None-clause-code
unfolding cut_code
returns-in-None-clause-code c = rw c.in-None.is c.put.ensures.added

pub returns-in-None-clause-reads : goal.returns-in-None-clause-reads
returns-in-None-clause-reads c = rw c.in-None.is (always _ reads_none)
