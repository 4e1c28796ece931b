use Rattle.std.proofs.Common.{◌≡◌, map, filter, take}
use Rattle.poly_texts.specs.Puzzle.{names_of}
use Rattle.poly_distinct.specs.declared.anchor.Anchor.TheVariants.{Piece}
use Rattle.poly_distinct.specs.Rule.{is_single}
use Rattle.poly_distinct.proofs.rule.single_pieces.Given as goal

-- the pieces so far that are laid in each packing and have no equal one
abbrev pub invariant-loop-k : goal.invariant-loop-k
invariant-loop-k l = l.anchors.items ≡ map Piece (filter (is_single l.puzzle) (take l.k (names_of l.pieces.entries)))
