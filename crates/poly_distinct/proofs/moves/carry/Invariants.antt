use Rattle.std.proofs.Common.{◌≡◌, ◌++◌, map, take, slice_index}
use Rattle.poly_distinct.proofs.moves.carry.Given as goal

-- the places so far are added
abbrev pub invariant-loop-place : goal.invariant-loop-place
invariant-loop-place l = l.there.items ≡ l.fn.there.items ++ map (slice_index l.carrier) (take l.place-index l.places)
