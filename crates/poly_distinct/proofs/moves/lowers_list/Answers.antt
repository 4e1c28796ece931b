use Rattle.std.proofs.Common.{sym}
use Rattle.poly_distinct.proofs.moves.lowers_list.Goals as goal

pub returns-then-stays : goal.returns-then-stays
returns-then-stays c = sym (c.stays.ensures c.if-stays.true)
