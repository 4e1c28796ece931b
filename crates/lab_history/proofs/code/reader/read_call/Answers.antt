use Rattle.std.proofs.Common.{refl}
use Rattle.lab_history.specs.EntryCode.{call_of, call_rest}
use Rattle.lab_history.proofs.code.reader.read_call.Goals as goal

pub returns-clause-call : goal.returns-clause-call
unfolding call_of
returns-clause-call c = rw (c.in_ok-call.ensures.call, c.number-kind.ensures.number, c.number-kind.ensures.rest) refl

pub returns-clause-rest : goal.returns-clause-rest
unfolding call_rest
returns-clause-rest c = rw (c.in_ok-call.ensures.rest, c.number-kind.ensures.number, c.number-kind.ensures.rest) refl
