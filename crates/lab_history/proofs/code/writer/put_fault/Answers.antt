use Rattle.std.proofs.Common.{refl}
use Rattle.lab_history.specs.EntryCode.{fault_code, fault_of}
use Rattle.lab_history.proofs.CodeLemmas.{always}
use Rattle.lab_history.proofs.code.writer.put_fault.Goals as goal

pub returns-in-UnknownBranch-clause-code : goal.returns-in-UnknownBranch-clause-code
unfolding fault_code
returns-in-UnknownBranch-clause-code c = rw c.in-UnknownBranch.is c.put.ensures.added

pub returns-in-UnknownBranch-clause-reads : goal.returns-in-UnknownBranch-clause-reads
unfolding fault_code fault_of
returns-in-UnknownBranch-clause-reads c = rw c.in-UnknownBranch.is (always _ refl)

pub returns-in-NotWaiting-clause-code : goal.returns-in-NotWaiting-clause-code
unfolding fault_code
returns-in-NotWaiting-clause-code c = rw c.in-NotWaiting.is c.put-in-NotWaiting.ensures.added

pub returns-in-NotWaiting-clause-reads : goal.returns-in-NotWaiting-clause-reads
unfolding fault_code fault_of
returns-in-NotWaiting-clause-reads c = rw c.in-NotWaiting.is (always _ refl)

pub returns-in-ForeignProblem-clause-code : goal.returns-in-ForeignProblem-clause-code
unfolding fault_code
returns-in-ForeignProblem-clause-code c = rw c.in-ForeignProblem.is c.put-in-ForeignProblem.ensures.added

pub returns-in-ForeignProblem-clause-reads : goal.returns-in-ForeignProblem-clause-reads
unfolding fault_code fault_of
returns-in-ForeignProblem-clause-reads c = rw c.in-ForeignProblem.is (always _ refl)

pub returns-in-NotAfterMark-clause-code : goal.returns-in-NotAfterMark-clause-code
unfolding fault_code
returns-in-NotAfterMark-clause-code c = rw c.in-NotAfterMark.is c.put-in-NotAfterMark.ensures.added

pub returns-in-NotAfterMark-clause-reads : goal.returns-in-NotAfterMark-clause-reads
unfolding fault_code fault_of
returns-in-NotAfterMark-clause-reads c = rw c.in-NotAfterMark.is (always _ refl)

pub returns-in-BeyondEnd-clause-code : goal.returns-in-BeyondEnd-clause-code
unfolding fault_code
returns-in-BeyondEnd-clause-code c = rw c.in-BeyondEnd.is c.put-in-BeyondEnd.ensures.added

pub returns-in-BeyondEnd-clause-reads : goal.returns-in-BeyondEnd-clause-reads
unfolding fault_code fault_of
returns-in-BeyondEnd-clause-reads c = rw c.in-BeyondEnd.is (always _ refl)

pub returns-in-NotAMark-clause-code : goal.returns-in-NotAMark-clause-code
unfolding fault_code
returns-in-NotAMark-clause-code c = rw c.in-NotAMark.is c.put-in-NotAMark.ensures.added

pub returns-in-NotAMark-clause-reads : goal.returns-in-NotAMark-clause-reads
unfolding fault_code fault_of
returns-in-NotAMark-clause-reads c = rw c.in-NotAMark.is (always _ refl)

pub returns-in-NotAtEnd-clause-code : goal.returns-in-NotAtEnd-clause-code
unfolding fault_code
returns-in-NotAtEnd-clause-code c = rw c.in-NotAtEnd.is c.put-in-NotAtEnd.ensures.added

pub returns-in-NotAtEnd-clause-reads : goal.returns-in-NotAtEnd-clause-reads
unfolding fault_code fault_of
returns-in-NotAtEnd-clause-reads c = rw c.in-NotAtEnd.is (always _ refl)

pub returns-in-NothingToRetract-clause-code : goal.returns-in-NothingToRetract-clause-code
unfolding fault_code
returns-in-NothingToRetract-clause-code c = rw c.in-NothingToRetract.is c.put-in-NothingToRetract.ensures.added

pub returns-in-NothingToRetract-clause-reads : goal.returns-in-NothingToRetract-clause-reads
unfolding fault_code fault_of
returns-in-NothingToRetract-clause-reads c = rw c.in-NothingToRetract.is (always _ refl)

pub returns-in-SeatMismatch-clause-code : goal.returns-in-SeatMismatch-clause-code
unfolding fault_code
returns-in-SeatMismatch-clause-code c = rw c.in-SeatMismatch.is c.put-in-SeatMismatch.ensures.added

pub returns-in-SeatMismatch-clause-reads : goal.returns-in-SeatMismatch-clause-reads
unfolding fault_code fault_of
returns-in-SeatMismatch-clause-reads c = rw c.in-SeatMismatch.is (always _ refl)

pub returns-in-OutOfMemory-clause-code : goal.returns-in-OutOfMemory-clause-code
unfolding fault_code
returns-in-OutOfMemory-clause-code c = rw c.in-OutOfMemory.is c.put-in-OutOfMemory.ensures.added

pub returns-in-OutOfMemory-clause-reads : goal.returns-in-OutOfMemory-clause-reads
unfolding fault_code fault_of
returns-in-OutOfMemory-clause-reads c = rw c.in-OutOfMemory.is (always _ refl)
