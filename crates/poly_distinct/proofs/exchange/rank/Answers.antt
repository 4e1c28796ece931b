use Rattle.std.proofs.Common.{◌==◌, ◌∙◌, ap₂, refl, sym}
use Rattle.poly_distinct.proofs.ExchangeLemmas.{rank_next}
use Rattle.poly_distinct.proofs.StepLemmas.{as_number}
use Rattle.poly_distinct.proofs.exchange.rank.Goals as goal

pub loop-other-preserved : goal.loop-other-preserved
loop-other-preserved c =
    rank_next c.args.pieces.now c.args.piece.now c.other-item.result c.loop-other.other-index c.loop-other.place c.from-place.result c.is_like.result c.loop-other-test.true c.other-item.is
    (ap₂ (λ a b. a == b) (sym c.name.ensures) (sym c.name-in-loop-other.ensures) ∙ sym c.eq.ensures ∙ c.if-eq.false) (sym c.is_like.ensures) (as_number _ _ _ c.from-place.ensures refl)
    c.loop-other.invariant
