use Rattle.std.proofs.Common.{refl}
use Rattle.lab_history.specs.EntryCode.{entry_of}
use Rattle.lab_history.proofs.code.reader.read_entry.Goals as goal

pub returns : goal.returns
unfolding entry_of
returns c = rw (c.in_ok-reply.ensures, c.in_ok-call.ensures.call, c.in_ok-call.ensures.rest, c.worker-worker.ensures, c.number.ensures.number, c.number.ensures.rest) refl
