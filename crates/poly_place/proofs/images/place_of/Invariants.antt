use Rattle.std.proofs.Common.{◌≡◌, ◌+◌, drop}
use Rattle.poly_place.specs.Packings.{place_of}
use Rattle.poly_place.proofs.images.place_of.Given as goal

-- none of the cells so far is the one
abbrev pub invariant-loop-other : goal.invariant-loop-other
invariant-loop-other l = record {
  rest : l.place + place_of (drop l.other-index l.cells) l.cell ≡ place_of l.cells l.cell;
  count : l.place ≡ l.other-index;
}
