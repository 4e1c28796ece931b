use Rattle.std.proofs.Common.{◌≡◌, drop}
use Rattle.std.specs.List.{list_all}
use Rattle.poly_distinct.specs.Distinct.{tells_names}
use Rattle.poly_distinct.specs.Exchange.{second_of}
use Rattle.poly_distinct.proofs.exchange.tell_names.Given as goal

-- those that are left tell
abbrev pub invariant-loop-piece : goal.invariant-loop-piece
invariant-loop-piece l =
    list_all (λ k. list_all (λ o. tells_names l.puzzle (second_of l.pairs) k.name o.name) l.pieces) (drop l.piece-index l.pieces) ≡ list_all (λ k. list_all (λ o. tells_names l.puzzle (second_of l.pairs) k.name o.name) l.pieces) l.pieces
