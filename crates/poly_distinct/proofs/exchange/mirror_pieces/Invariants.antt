use Rattle.std.proofs.Common.{◌≡◌, drop}
use Rattle.std.specs.List.{list_all}
use Rattle.poly_distinct.specs.Exchange.{second_of}
use Rattle.poly_distinct.proofs.ExchangeLemmas.{has_mirror}
use Rattle.poly_distinct.proofs.exchange.mirror_pieces.Given as goal

-- those that are left tell
abbrev pub invariant-loop-piece : goal.invariant-loop-piece
invariant-loop-piece l = list_all (has_mirror l.pieces (second_of l.pairs)) (drop l.piece-index l.pieces) ≡ list_all (has_mirror l.pieces (second_of l.pairs)) l.pieces
