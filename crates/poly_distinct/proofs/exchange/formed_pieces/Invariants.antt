use Rattle.std.proofs.Common.{◌≡◌, map, take}
use Rattle.poly_distinct.specs.Exchange.{formed_piece}
use Rattle.poly_distinct.proofs.exchange.formed_pieces.Given as goal

-- the pieces so far
abbrev pub invariant-loop-k : goal.invariant-loop-k
invariant-loop-k l = l.formed.items ≡ map (formed_piece l.puzzle) (take l.k l.pieces.entries)
