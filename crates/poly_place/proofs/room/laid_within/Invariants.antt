use Rattle.std.proofs.Common.{◌≡◌, length}
use Rattle.poly_place.proofs.OptionLemmas.{choices_before}
use Rattle.poly_place.proofs.RoomLemmas.{IsCounted}
use Rattle.poly_place.proofs.room.laid_within.Given as goal

-- the choices of the pieces so far, and there is room for them
abbrev pub invariant-loop-k : goal.invariant-loop-k
invariant-loop-k l = record {
  same : l.all.items ≡ choices_before l.puzzle l.pieces.entries l.k;
  counted : IsCounted l.puzzle l.pieces.entries l.k l.items (length l.all.items) l.entries;
}
