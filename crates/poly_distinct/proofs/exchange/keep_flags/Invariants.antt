use Rattle.std.proofs.Common.{◌≡◌, drop}
use Rattle.std.specs.List.{list_all}
use Rattle.poly_distinct.specs.Distinct.{keeps_flags}
use Rattle.poly_distinct.specs.Exchange.{second_of}
use Rattle.poly_distinct.proofs.exchange.keep_flags.Given as goal

-- those that are left tell
abbrev pub invariant-loop-piece : goal.invariant-loop-piece
invariant-loop-piece l =
    list_all (λ k. keeps_flags l.puzzle (second_of l.pairs) k.name) (drop l.piece-index l.pieces) ≡ list_all (λ k. keeps_flags l.puzzle (second_of l.pairs) k.name) l.pieces
