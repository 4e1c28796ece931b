use Rattle.std.proofs.Common.{◌≡◌, map, take}
use Rattle.poly_place.specs.Packings.{place_of}
use Rattle.poly_distinct.proofs.moves.Moves.places_of.Given as goal

-- the places so far
abbrev pub invariant-loop-cell : goal.invariant-loop-cell
invariant-loop-cell l = l.places.items ≡ map (place_of l.self.puzzle.region) (take l.cell-index l.cells)
