use Rattle.std.proofs.Common.{◌≡◌, ◌==◌, drop}
use Rattle.std.specs.List.{list_any}
use Rattle.poly_distinct.specs.Exchange.{second_of}
use Rattle.poly_distinct.proofs.exchange.is_reached.Given as goal

-- those that are left tell
abbrev pub invariant-loop-other : goal.invariant-loop-other
invariant-loop-other l =
    list_any (λ o. second_of l.pairs o.name == l.name) (drop l.other-index l.pieces) ≡ list_any (λ o. second_of l.pairs o.name == l.name) l.pieces
