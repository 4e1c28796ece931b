use Rattle.std.proofs.Common.{take, map, vec_items}
use Rattle.poly_place.proofs.LoopLemmas.{AreSome}
use Rattle.poly_place.proofs.alike.carriers.Given as goal

-- the carriers of the symmetries so far
abbrev pub invariant-loop-symmetry : goal.invariant-loop-symmetry
invariant-loop-symmetry l = AreSome l.group l.region l.maybe (take l.symmetry-index l.symmetry-items) (map vec_items l.carriers.items)
