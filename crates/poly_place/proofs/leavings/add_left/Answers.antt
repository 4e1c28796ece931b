use Rattle.poly_texts.specs.Puzzle.{is_spare}
use Rattle.poly_place.proofs.LeftLemmas.{left_more}
use Rattle.poly_place.proofs.leavings.add_left.Goals as goal

pub loop-k-preserved : goal.loop-k-preserved
loop-k-preserved c =
    left_more (is_spare c.args.puzzle.now) c.args.group.now c.loop-k.k c.are_spare.result c.split_at.result.1.now _ _ _ c.loop-k-test.true c.split_at.ensures.back c.are_spare.ensures
    c.in_ok-push_if.ensures c.loop-k.invariant
