use Rattle.std.proofs.Common.{◌∙◌, ap, arith, List, flat_map, take_all}
use Rattle.poly_texts.specs.Usages.{are_copies}
use Rattle.poly_texts.specs.Kinds.{KindValue, given_if, kind_equal}
use Rattle.poly_texts.specs.Puzzle.{equal_names, is_spare}
use Rattle.poly_place.specs.Compiled.{left_from}
use Rattle.poly_place.proofs.GroupLemmas.{of_groups}
use Rattle.poly_place.proofs.leavings.left_out.Goals as goal

pub returns : goal.returns
unfolding equal_names
returns c =
    let ends = left_from (is_spare c.args.puzzle.now) in
    c.loop-kind.invariant
    ∙ ap (λ (ks : List KindValue). flat_map (λ k. given_if (are_copies k.usage) (ends k.symbols)) ks) (take_all c.loop-kind.kind-index c.kinds-kinds.result.now (omega (arith, c.loop-kind-test.false)))
    ∙ of_groups ends c.kinds-kinds.result.now ∙ ap (λ (ks : List KindValue). flat_map ends (flat_map kind_equal ks)) c.kinds-kinds.ensures
