use Rattle.std.proofs.Common.{◌≡◌, drop}
use Rattle.poly_place.specs.Lists.{lists_of}
use Rattle.poly_distinct.specs.Moves.{is_least_by}
use Rattle.poly_distinct.proofs.moves.is_least.Given as goal

-- what is left decides
abbrev pub invariant-loop-carrier : goal.invariant-loop-carrier
invariant-loop-carrier l = is_least_by l.fixed l.places (lists_of (drop l.carrier-index l.carriers)) ≡ is_least_by l.fixed l.places (lists_of l.carriers)
