use Rattle.std.proofs.Common.{◌∙◌, refl}
use Rattle.x_codes.specs.StateCode.{later}
use Rattle.lab_history.specs.EntryCode.{call_of, entry_of}
use Rattle.lab_history.proofs.code.reader.read_kind.Goals as goal

pub returns : goal.returns
unfolding call_of entry_of
returns c = c.kind.ensures (later (later c.args.reader.now)) ∙ rw (c.number.ensures.number, c.number-worker.ensures.rest) refl
