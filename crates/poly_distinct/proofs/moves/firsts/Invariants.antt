use Rattle.std.proofs.Common.{◌≡◌, Some, filter, take}
use Rattle.poly_place.specs.Lists.{lists_of}
use Rattle.poly_distinct.specs.Moves.{is_least_by}
use Rattle.poly_distinct.proofs.moves.firsts.Given as goal

-- those so far
abbrev pub invariant-loop-place : goal.invariant-loop-place
invariant-loop-place l = l.firsts.items ≡ filter (λ k. is_least_by (Some k) l.places (lists_of l.carriers)) (take l.place-index l.places)
