use Rattle.std.proofs.Common.{◌≡◌, ◌++◌, take}
use Rattle.poly_place.specs.Listing.{packings_from}
use Rattle.poly_place.proofs.listing.write_packings.Given as goal

-- the packings so far are added
abbrev pub invariant-loop-k : goal.invariant-loop-k
invariant-loop-k l = l.text.items ≡ l.initial.text.items ++ packings_from l.compiled 1 (take l.k l.paths)
