use Rattle.lab_history.specs.EntryCode.{call_code}
use Rattle.lab_history.proofs.CodeLemmas.{always, on_ok, reads_lease, reads_lease_any, reads_take_held}
use Rattle.lab_history.proofs.CodeLemmas.{reads_request_stop, reads_retract, reads_park, reads_abandon, reads_close}
use Rattle.lab_history.proofs.code.writer.put_call.Goals as goal

pub returns-in-Lease-clause-code : goal.returns-in-Lease-clause-code
unfolding call_code
returns-in-Lease-clause-code c = rw c.in-Lease.is c.put_id.ensures

pub returns-in-Lease-clause-reads : goal.returns-in-Lease-clause-reads
returns-in-Lease-clause-reads c = rw c.in-Lease.is (always _ (reads_lease _))

pub returns-in-LeaseAny-clause-code : goal.returns-in-LeaseAny-clause-code
unfolding call_code
returns-in-LeaseAny-clause-code c = rw c.in-LeaseAny.is c.put.ensures.added

pub returns-in-LeaseAny-clause-reads : goal.returns-in-LeaseAny-clause-reads
returns-in-LeaseAny-clause-reads c = rw c.in-LeaseAny.is (always _ reads_lease_any)

pub returns-in-TakeHeld-clause-code : goal.returns-in-TakeHeld-clause-code
unfolding call_code
returns-in-TakeHeld-clause-code c = rw c.in-TakeHeld.is c.put_id-in-TakeHeld.ensures

pub returns-in-TakeHeld-clause-reads : goal.returns-in-TakeHeld-clause-reads
returns-in-TakeHeld-clause-reads c = rw c.in-TakeHeld.is (always _ (reads_take_held _))

pub returns-in-RequestStop-clause-code : goal.returns-in-RequestStop-clause-code
unfolding call_code
returns-in-RequestStop-clause-code c = rw c.in-RequestStop.is c.put_id-in-RequestStop.ensures

pub returns-in-RequestStop-clause-reads : goal.returns-in-RequestStop-clause-reads
returns-in-RequestStop-clause-reads c = rw c.in-RequestStop.is (always _ (reads_request_stop _))

pub returns-in-Retract-clause-code : goal.returns-in-Retract-clause-code
unfolding call_code
returns-in-Retract-clause-code c = rw c.in-Retract.is c.put_lease.ensures.code

pub returns-in-Retract-clause-reads : goal.returns-in-Retract-clause-reads
returns-in-Retract-clause-reads c = rw c.in-Retract.is (on_ok _ (reads_retract _) c.put_lease.ensures.reads)

pub returns-in-Park-clause-code : goal.returns-in-Park-clause-code
unfolding call_code
returns-in-Park-clause-code c = rw c.in-Park.is c.put_lease-in-Park.ensures.code

pub returns-in-Park-clause-reads : goal.returns-in-Park-clause-reads
returns-in-Park-clause-reads c = rw c.in-Park.is (on_ok _ (reads_park _) c.put_lease-in-Park.ensures.reads)

pub returns-in-Abandon-clause-code : goal.returns-in-Abandon-clause-code
unfolding call_code
returns-in-Abandon-clause-code c = rw c.in-Abandon.is c.put_lease-in-Abandon.ensures.code

pub returns-in-Abandon-clause-reads : goal.returns-in-Abandon-clause-reads
returns-in-Abandon-clause-reads c = rw c.in-Abandon.is (on_ok _ (reads_abandon _) c.put_lease-in-Abandon.ensures.reads)

pub returns-in-Close-clause-code : goal.returns-in-Close-clause-code
unfolding call_code
returns-in-Close-clause-code c = rw c.in-Close.is c.put_lease-in-Close.ensures.code

pub returns-in-Close-clause-reads : goal.returns-in-Close-clause-reads
returns-in-Close-clause-reads c = rw c.in-Close.is (on_ok _ (reads_close _) c.put_lease-in-Close.ensures.reads)
