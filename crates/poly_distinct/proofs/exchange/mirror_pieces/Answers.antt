use Rattle.std.proofs.Common.{◌∙◌, Bool, sym, true, false}
use Rattle.poly_distinct.specs.Exchange.{second_of, FormedValue}
use Rattle.poly_distinct.proofs.ExchangeLemmas.{all_next, all_end, has_mirror}
use Rattle.poly_distinct.proofs.exchange.mirror_pieces.Goals as goal

pub returns-then-not-mirrors_piece : goal.returns-then-not-mirrors_piece
returns-then-not-mirrors_piece c =
    let test : FormedValue → Bool = has_mirror c.args.pieces.now (second_of c.args.pairs.now) in
    sym (all_next test c.args.pieces.now c.loop-piece.piece-index c.piece-item.result false c.loop-piece-test.true c.piece-item.is (sym c.mirrors_piece.ensures ∙ c.if-not-mirrors_piece.true)) ∙ c.loop-piece.invariant

pub loop-piece-preserved : goal.loop-piece-preserved
loop-piece-preserved c =
    let test : FormedValue → Bool = has_mirror c.args.pieces.now (second_of c.args.pairs.now) in
    sym (all_next test c.args.pieces.now c.loop-piece.piece-index c.piece-item.result true c.loop-piece-test.true c.piece-item.is (sym c.mirrors_piece.ensures ∙ c.if-not-mirrors_piece.false)) ∙ c.loop-piece.invariant

pub returns : goal.returns
returns c = all_end (has_mirror c.args.pieces.now (second_of c.args.pairs.now)) c.args.pieces.now c.loop-piece.piece-index c.loop-piece-test.false ∙ c.loop-piece.invariant
