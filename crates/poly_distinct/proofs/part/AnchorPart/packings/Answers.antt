use Rattle.std.proofs.Common.{◌∙◌, arith}
use Rattle.poly_distinct.proofs.PartLemmas.{sum_none, sum_more}
use Rattle.poly_distinct.proofs.part.AnchorPart.packings.Goals as goal

pub loop-k-init : goal.loop-k-init
loop-k-init c = sum_none c.args.self.now

pub loop-k-preserved : goal.loop-k-preserved
loop-k-preserved c =
    let lt = c.loop-k-test.true in
    let e = c.len-k-end.ensures in
    let so = c.loop-k.invariant.1 in
    let limit = c.added-packings.ensures.limit in (
      c.added-packings.ensures.value
          ∙ sum_more c.args.self.now c.args.visits.now c.loop-k.k c.loop-k.packings c.in_ok-count.count c.list.result.now (omega (arith, lt, e)) c.list.ensures c.loop-k.invariant.0 c.in_ok-count.ensures,
      omega (arith, so, limit),
    )
