use Rattle.std.proofs.Common.{◌≡◌, take}
use Rattle.poly_place.specs.Lists.{lists_of}
use Rattle.poly_distinct.specs.Moves.{images_at}
use Rattle.poly_distinct.proofs.moves.all_carried.Given as goal

-- the lists so far
abbrev pub invariant-loop-carrier : goal.invariant-loop-carrier
invariant-loop-carrier l = lists_of l.images.items ≡ images_at l.fixed l.places (lists_of (take l.carrier-index l.carriers))
