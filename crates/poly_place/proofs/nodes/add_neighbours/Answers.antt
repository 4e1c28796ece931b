use Rattle.std.proofs.Common.{arith}
use Rattle.poly_place.proofs.NodeLemmas.{neighbours_push}
use Rattle.poly_place.proofs.nodes.add_neighbours.Goals as goal

pub loop-k-preserved : goal.loop-k-preserved
loop-k-preserved c = record {
  some = omega arith;
  so_far =
      neighbours_push c.args.names.now c.loop-k.k _ _ c.args.pairs.now.items c.loop-k.pairs.items c.push.new.self.items c.loop-k.invariant.some c.loop-k-test.true c.index-names-k.is c.index-names-k-in-loop-k.is
      c.in_ok-push.ensures.items c.loop-k.invariant.so_far;
}
