use Rattle.std.proofs.Common.{sym}
use Rattle.part_sums.proofs.TakingLemmas.{elsewhere}
use Rattle.part_sums.proofs.parts.Joining.next_part.Goals as goal

pub returns-in-Err-clause-refused : goal.returns-in-Err-clause-refused
returns-in-Err-clause-refused c =
    elsewhere c.args.head.now c.args.rest.now c.in_ok-part.answer.now c.args.self.now _ c.in-Err.fault _ _ _ _ (sym c.self.view_is) c.state.ensures c.in_ok-part.ensures c.in-Err.ensures.apart c.in-Err.ensures.misplaced
