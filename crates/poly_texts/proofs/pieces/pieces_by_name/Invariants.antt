use Rattle.std.proofs.Common.{◌≡◌, flat_map, take}
use Rattle.poly_texts.specs.Kinds.{kind_pieces}
use Rattle.poly_texts.proofs.pieces.pieces_by_name.Given as goal

-- the pieces of the kinds so far
abbrev pub invariant-loop-kind : goal.invariant-loop-kind
invariant-loop-kind l = l.pieces.entries ≡ flat_map kind_pieces (take l.kind-index l.kinds)
