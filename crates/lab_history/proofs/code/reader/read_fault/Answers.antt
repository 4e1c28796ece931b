use Rattle.std.proofs.Common.{refl}
use Rattle.lab_history.specs.EntryCode.{fault_of}
use Rattle.lab_history.proofs.code.reader.read_fault.Goals as goal

pub returns : goal.returns
unfolding fault_of
returns c = rw (c.in_ok-fault.ensures, c.number-kind.ensures.number, c.number-kind.ensures.rest) refl
