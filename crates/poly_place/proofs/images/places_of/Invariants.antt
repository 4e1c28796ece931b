use Rattle.std.proofs.Common.{◌≡◌, map, take}
use Rattle.poly_place.specs.Packings.{place_of}
use Rattle.poly_place.proofs.images.places_of.Given as goal

-- the places so far
abbrev pub invariant-loop-cell : goal.invariant-loop-cell
invariant-loop-cell l = l.places.items ≡ map (place_of l.region) (take l.cell-index l.cells)
