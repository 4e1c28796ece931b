use Rattle.std.proofs.Common.{ℕ, ap₂}
use Rattle.poly_place.proofs.LoopLemmas.{one_more}
use Rattle.poly_distinct.specs.Exchange.{FormedValue, partner}
use Rattle.poly_distinct.proofs.exchange.pairs.Goals as goal

pub loop-piece-preserved : goal.loop-piece-preserved
loop-piece-preserved c =
    one_more (λ (k : FormedValue). (k.name, partner c.args.pieces.now k)) c.args.pieces.now c.loop-piece.piece-index c.piece-item.result _ _ _ c.loop-piece-test.true c.piece-item.is
    (ap₂ (λ (a b : ℕ). (a, b)) c.name.ensures c.partner.ensures) c.in_ok-push.ensures.items c.loop-piece.invariant
