use Rattle.std.proofs.Common.{refl}
use Rattle.lab_history.specs.EntryCode.{reply_of}
use Rattle.lab_history.proofs.code.reader.read_reply.Goals as goal

pub returns : goal.returns
unfolding reply_of
returns c = rw (c.in_ok-reply.ensures, c.number-kind.ensures.number, c.number-kind.ensures.rest) refl
