use Rattle.x_snapshot.proofs.WholeBack.{parts_back}
use Rattle.x_snapshot.proofs.draft.read_draft.Goals as goal

pub invariant_of-result : goal.invariant_of-result
invariant_of-result c = (parts_back c.args.bytes.now _ c.in-Ok.ensures).breaks
