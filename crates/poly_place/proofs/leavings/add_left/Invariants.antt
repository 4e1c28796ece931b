use Rattle.std.proofs.Common.{◌≡◌, ◌++◌, drop, map, vec_items}
use Rattle.poly_texts.specs.Puzzle.{is_spare}
use Rattle.poly_place.specs.Compiled.{left_from}
use Rattle.poly_place.proofs.leavings.add_left.Given as goal

-- with the ends that are left it is what all ends make
abbrev pub invariant-loop-k : goal.invariant-loop-k
invariant-loop-k l =
    map vec_items l.lefts.items ++ left_from (is_spare l.puzzle) (drop l.k l.group) ≡ map vec_items l.initial.lefts.items ++ left_from (is_spare l.puzzle) l.group
