use Rattle.std.proofs.Common.{◌≡◌, drop}
use Rattle.std.specs.List.{list_all}
use Rattle.poly_distinct.specs.Distinct.{tells_names}
use Rattle.poly_distinct.specs.Exchange.{second_of}
use Rattle.poly_distinct.proofs.exchange.tell_name.Given as goal

-- those that are left tell
abbrev pub invariant-loop-piece : goal.invariant-loop-piece
invariant-loop-piece l =
    list_all (λ k. tells_names l.puzzle (second_of l.pairs) l.name k.name) (drop l.piece-index l.pieces) ≡ list_all (λ k. tells_names l.puzzle (second_of l.pairs) l.name k.name) l.pieces
