use Rattle.std.proofs.Common.{◌≡◌, map, take}
use Rattle.poly_distinct.specs.Exchange.{partner}
use Rattle.poly_distinct.proofs.exchange.pairs.Given as goal

-- the pairs so far
abbrev pub invariant-loop-piece : goal.invariant-loop-piece
invariant-loop-piece l = l.pairs.items ≡ map (λ k. (k.name, partner l.pieces k)) (take l.piece-index l.pieces)
