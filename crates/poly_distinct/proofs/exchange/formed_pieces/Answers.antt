use Rattle.std.proofs.Common.{ap, sym, ◌∙◌, option_map}
use Rattle.std.specs.Map.Iter.{deref_pair}
use Rattle.poly_place.proofs.CountLemmas.{entry_is}
use Rattle.poly_place.proofs.LoopLemmas.{one_more}
use Rattle.poly_distinct.specs.Exchange.{formed_piece}
use Rattle.poly_distinct.proofs.exchange.formed_pieces.Goals as goal

pub loop-k-preserved : goal.loop-k-preserved
loop-k-preserved c =
    let entry = entry_is c.pieces-pieces.result.now.entries c.loop-k.k _ _ (sym c.get_index.ensures.entry ∙ ap (option_map deref_pair) c.unwrap.ensures) in
    one_more (formed_piece c.args.puzzle.now) c.pieces-pieces.result.now.entries c.loop-k.k (c.unwrap.result.0.now, c.unwrap.result.1.now) _ _ _ entry.low entry.at
    c.in_ok-piece.ensures c.in_ok-push.ensures.items c.loop-k.invariant
