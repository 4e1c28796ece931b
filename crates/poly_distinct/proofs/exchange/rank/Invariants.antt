use Rattle.std.proofs.Common.{◌≡◌, ◌+◌, ◌≤◌, drop}
use Rattle.poly_distinct.specs.Exchange.{rank_among}
use Rattle.poly_distinct.proofs.exchange.rank.Given as goal

-- those so far and those that are left are all
abbrev pub invariant-loop-other : goal.invariant-loop-other
invariant-loop-other l = (l.place + rank_among (drop l.other-index l.pieces) l.piece ≡ rank_among l.pieces l.piece) × (l.place ≤ l.other-index)
