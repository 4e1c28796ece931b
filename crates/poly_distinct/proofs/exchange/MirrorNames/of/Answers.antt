use Rattle.std.proofs.Common.{ap, ◌∙◌}
use Rattle.poly_distinct.specs.Exchange.{pairs_of}
use Rattle.poly_distinct.proofs.ExchangeLemmas.{whole_is}
use Rattle.poly_distinct.proofs.exchange.MirrorNames.of.Goals as goal

pub invariant_of-result : goal.invariant_of-result
invariant_of-result c =
    let made = c.in_ok-pairs.ensures ∙ ap pairs_of (c.as_slice.ensures.value ∙ c.in_ok-pieces.ensures) in
    (made, c.are_mirrors-whole.ensures ∙ whole_is _ _ (c.as_slice-3.ensures.value ∙ made))
