use Rattle.std.proofs.Common.{◌≡◌, flat_map, map, take, vec_items}
use Rattle.poly_texts.specs.Usages.{are_copies}
use Rattle.poly_texts.specs.Kinds.{given_if}
use Rattle.poly_texts.specs.Puzzle.{is_spare}
use Rattle.poly_place.specs.Compiled.{left_from}
use Rattle.poly_place.proofs.leavings.left_out.Given as goal

-- the ends of the kinds so far
abbrev pub invariant-loop-kind : goal.invariant-loop-kind
invariant-loop-kind l = map vec_items l.lefts.items ≡ flat_map (λ k. given_if (are_copies k.usage) (left_from (is_spare l.puzzle) k.symbols)) (take l.kind-index l.kinds)
