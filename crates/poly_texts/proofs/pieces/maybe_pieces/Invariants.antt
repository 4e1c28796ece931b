use Rattle.std.proofs.Common.{◌≡◌, flat_map, take}
use Rattle.poly_texts.specs.Kinds.{kind_maybe}
use Rattle.poly_texts.proofs.pieces.maybe_pieces.Given as goal

-- the names of the kinds so far
abbrev pub invariant-loop-kind : goal.invariant-loop-kind
invariant-loop-kind l = l.names.items ≡ flat_map kind_maybe (take l.kind-index l.kinds)
