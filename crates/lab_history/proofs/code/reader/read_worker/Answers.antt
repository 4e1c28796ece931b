use Rattle.std.proofs.Common.{refl}
use Rattle.lab_history.specs.EntryCode.{entry_of}
use Rattle.lab_history.proofs.code.reader.read_worker.Goals as goal

pub returns : goal.returns
unfolding entry_of
returns c = rw (c.worker.ensures, c.number.ensures.number) refl
