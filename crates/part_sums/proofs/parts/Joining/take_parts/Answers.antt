use Rattle.std.proofs.Common.{suc}
use Rattle.part_sums.proofs.TakingLemmas.{taken_push}
use Rattle.part_sums.proofs.parts.Joining.take_parts.Goals as goal

pub loop-rest-preserved : goal.loop-rest-preserved
loop-rest-preserved c =
    let i = c.loop-rest.invariant in
    (suc i.0, taken_push c.args.head.now i.0 c.args.self.now c.loop-rest.self c.take_part.new.self c.args.parts.now c.loop-rest.rest.now c.in_ok-rest.rest.now i.1 c.in_ok-rest.ensures.taken)
