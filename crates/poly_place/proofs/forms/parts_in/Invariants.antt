use Rattle.std.proofs.Common.{◌≡◌, ◌-◌, drop}
use Rattle.poly_place.specs.Forms.{parts_in}
use Rattle.poly_place.proofs.forms.parts_in.Given as goal

-- the parts of the last placements
abbrev pub invariant-loop-k : goal.invariant-loop-k
invariant-loop-k l = l.parts.items ≡ parts_in l.region (drop (l.count - l.k) l.placements)
