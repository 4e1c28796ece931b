use Rattle.std.proofs.Common.{drop}
use Rattle.poly_distinct.proofs.StayLemmas.{Stays}
use Rattle.poly_distinct.proofs.moves.stays.Given as goal

-- if those that are left rise from here on and stay, all do
abbrev pub invariant-loop-place : goal.invariant-loop-place
invariant-loop-place l = Stays l.carrier l.next (drop l.place-index l.places) → Stays l.carrier 0 l.places
