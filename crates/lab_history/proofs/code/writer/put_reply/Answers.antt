use Rattle.std.proofs.Common.{refl}
use Rattle.lab_history.specs.EntryCode.{reply_code, reply_of}
use Rattle.lab_history.proofs.CodeLemmas.{always}
use Rattle.lab_history.proofs.code.writer.put_reply.Goals as goal

pub returns-in-NoneWaits-clause-code : goal.returns-in-NoneWaits-clause-code
unfolding reply_code
returns-in-NoneWaits-clause-code c = rw c.in-NoneWaits.is c.put.ensures.added

pub returns-in-NoneWaits-clause-reads : goal.returns-in-NoneWaits-clause-reads
unfolding reply_code reply_of
returns-in-NoneWaits-clause-reads c = rw c.in-NoneWaits.is (always _ refl)

pub returns-in-Split-clause-code : goal.returns-in-Split-clause-code
unfolding reply_code
returns-in-Split-clause-code c = rw c.in-Split.is c.put_id.ensures

pub returns-in-Split-clause-reads : goal.returns-in-Split-clause-reads
unfolding reply_code reply_of
returns-in-Split-clause-reads c = rw c.in-Split.is (always _ refl)

pub returns-in-Done-clause-code : goal.returns-in-Done-clause-code
unfolding reply_code
returns-in-Done-clause-code c = rw c.in-Done.is c.put-in-Done.ensures.added

pub returns-in-Done-clause-reads : goal.returns-in-Done-clause-reads
unfolding reply_code reply_of
returns-in-Done-clause-reads c = rw c.in-Done.is (always _ refl)
