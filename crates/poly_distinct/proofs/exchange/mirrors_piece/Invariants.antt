use Rattle.std.proofs.Common.{◌≡◌, ◌==◌, ◌&&◌, drop}
use Rattle.std.specs.List.{list_any}
use Rattle.poly_distinct.specs.Exchange.{second_of, has_form}
use Rattle.poly_distinct.proofs.exchange.mirrors_piece.Given as goal

-- those that are left tell
abbrev pub invariant-loop-other : goal.invariant-loop-other
invariant-loop-other l =
    list_any (λ o. (o.name == second_of l.pairs l.piece.name) && has_form o.images l.piece.cells) (drop l.other-index l.pieces) ≡ list_any (λ o. (o.name == second_of l.pairs l.piece.name) && has_form o.images l.piece.cells) l.pieces
