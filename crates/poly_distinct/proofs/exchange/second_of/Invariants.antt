use Rattle.std.proofs.Common.{◌≡◌, drop}
use Rattle.poly_distinct.specs.Exchange.{second_of}
use Rattle.poly_distinct.proofs.exchange.second_of.Given as goal

-- none of the pairs so far has the name
abbrev pub invariant-loop-pair : goal.invariant-loop-pair
invariant-loop-pair l = second_of (drop l.pair-index l.pairs) l.name ≡ second_of l.pairs l.name
