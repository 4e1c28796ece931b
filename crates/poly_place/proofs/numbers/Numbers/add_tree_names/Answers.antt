use Rattle.std.proofs.Common.{arith}
use Rattle.std.specs.String.{string_bytes}
use Rattle.poly_place.proofs.WalkLemmas.{mapped_push}
use Rattle.poly_place.proofs.NumberedLemmas.{leaves_few, node_more}
use Rattle.poly_place.proofs.numbers.Numbers.add_tree_names.Goals as goal

pub node_name-requires : goal.node_name-requires
node_name-requires c = let few = leaves_few c.self.inside.puzzle.now in let same = c.self.invariant.leaves_same in omega arith

pub loop-node-preserved : goal.loop-node-preserved
loop-node-preserved c = record {
  some = omega arith;
  so_far = node_more _ c.loop-node.node _ _ _ c.loop-node.invariant.some (mapped_push string_bytes _ _ _ _ c.in_ok-push.ensures.items c.in_ok-node_name.ensures) c.loop-node.invariant.so_far;
}
