use Rattle.poly_texts.proofs.ReadingLemmas.{next_fresh}
use Rattle.poly_texts.proofs.pieces.pieces_by_name.Goals as goal

pub add_pieces-requires : goal.add_pieces-requires
add_pieces-requires c =
    rw (c.loop-kind.invariant, c.names.ensures) (next_fresh c.args.kinds.now c.loop-kind.kind-index c.kind-item.result c.loop-kind-test.true c.kind-item.is c.requires)
