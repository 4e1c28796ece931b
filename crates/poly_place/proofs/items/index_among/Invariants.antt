use Rattle.std.proofs.Common.{◌≡◌, ◌+◌, drop, map}
use Rattle.poly_place.specs.Packings.{a_piece, index_among}
use Rattle.poly_place.proofs.items.index_among.Given as goal

-- none of the names so far is the one
abbrev pub invariant-loop-other : goal.invariant-loop-other
invariant-loop-other l = record {
  rest : l.place + index_among (a_piece l.name) (map a_piece (drop l.other-index l.names)) ≡ index_among (a_piece l.name) (map a_piece l.names);
  count : l.place ≡ l.other-index;
}
