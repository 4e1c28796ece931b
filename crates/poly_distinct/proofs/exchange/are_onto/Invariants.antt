use Rattle.std.proofs.Common.{◌≡◌, ◌==◌, drop}
use Rattle.std.specs.List.{list_all, list_any}
use Rattle.poly_distinct.specs.Exchange.{second_of}
use Rattle.poly_distinct.proofs.exchange.are_onto.Given as goal

-- those that are left tell
abbrev pub invariant-loop-piece : goal.invariant-loop-piece
invariant-loop-piece l =
    list_all (λ k. list_any (λ o. second_of l.pairs o.name == k.name) l.pieces) (drop l.piece-index l.pieces) ≡ list_all (λ k. list_any (λ o. second_of l.pairs o.name == k.name) l.pieces) l.pieces
