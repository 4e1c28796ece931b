use Rattle.std.proofs.Common.{◌∙◌, ap, arith, List, flat_map, take_all}
use Rattle.poly_texts.specs.Usages.{are_copies}
use Rattle.poly_texts.specs.Kinds.{KindValue, given_if}
use Rattle.poly_place.specs.Packings.{neighbours}
use Rattle.poly_place.proofs.GroupLemmas.{of_groups}
use Rattle.poly_place.proofs.nodes.pairs_of.Goals as goal

pub returns : goal.returns
returns c =
    c.loop-kind.invariant
    ∙ ap (λ (ks : List KindValue). flat_map (λ k. given_if (are_copies k.usage) (neighbours k.symbols)) ks) (take_all c.loop-kind.kind-index c.args.kinds.now (omega (arith, c.loop-kind-test.false)))
    ∙ of_groups neighbours c.args.kinds.now
