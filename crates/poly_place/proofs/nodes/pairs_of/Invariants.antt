use Rattle.std.proofs.Common.{◌≡◌, flat_map, take}
use Rattle.poly_texts.specs.Usages.{are_copies}
use Rattle.poly_texts.specs.Kinds.{given_if}
use Rattle.poly_place.specs.Packings.{neighbours}
use Rattle.poly_place.proofs.nodes.pairs_of.Given as goal

-- the neighbours of the kinds so far
abbrev pub invariant-loop-kind : goal.invariant-loop-kind
invariant-loop-kind l = l.pairs.items ≡ flat_map (λ k. given_if (are_copies k.usage) (neighbours k.symbols)) (take l.kind-index l.kinds)
