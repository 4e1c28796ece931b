use Rattle.std.proofs.Common.{◌≡◌, map, take, vec_items}
use Rattle.poly_place.specs.Forms.{key_of}
use Rattle.poly_place.proofs.forms.all_keys.Given as goal

-- the keys so far
abbrev pub invariant-loop-packing : goal.invariant-loop-packing
invariant-loop-packing l = map vec_items l.keys.items ≡ map (key_of l.region (map vec_items l.carriers)) (take l.packing-index l.packings)
