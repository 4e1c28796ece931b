use Rattle.std.proofs.Common.{◌≡◌, ◌==◌, ◌&&◌, drop}
use Rattle.poly_distinct.specs.Exchange.{is_image, partner, rank_among}
use Rattle.poly_distinct.proofs.ExchangeLemmas.{first_of}
use Rattle.poly_distinct.proofs.exchange.partner.Given as goal

-- none of the pieces so far is the one
abbrev pub invariant-loop-other : goal.invariant-loop-other
invariant-loop-other l =
    first_of (λ k. k.name) (λ k. is_image l.piece k && (rank_among l.pieces k == rank_among l.pieces l.piece)) l.piece.name (drop l.other-index l.pieces) ≡ partner l.pieces l.piece
