use Rattle.std.proofs.Common.{refl}
use Rattle.lab_history.specs.EntryCode.{grant_of}
use Rattle.lab_history.proofs.code.reader.read_grant.Goals as goal

pub returns-clause-grant : goal.returns-clause-grant
unfolding grant_of
returns-clause-grant c = rw (c.worker-worker.ensures, c.number-index.ensures.number, c.number.ensures.number, c.number-id.ensures.number, c.number.ensures.rest, c.number-id.ensures.rest) refl
