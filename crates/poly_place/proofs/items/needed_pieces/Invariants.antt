use Rattle.std.proofs.Common.{◌≡◌, filter, take}
use Rattle.poly_texts.specs.Puzzle.{names_of, is_needed}
use Rattle.poly_place.proofs.items.needed_pieces.Given as goal

-- the required pieces so far
abbrev pub invariant-loop-k : goal.invariant-loop-k
invariant-loop-k l = l.needed.items ≡ filter (is_needed l.puzzle) (take l.k (names_of l.pieces.entries))
