use Rattle.std.proofs.Common.{◌≡◌, ◌≤◌, ◌*◌, take}
use Rattle.poly_distinct.specs.UpTo.{counted_in}
use Rattle.poly_distinct.proofs.part.AnchorPart.packings.Given as goal

-- the sum so far, of numbers below 2^64
abbrev pub invariant-loop-k : goal.invariant-loop-k
invariant-loop-k l = (l.packings ≡ counted_in l.self (take l.k l.visits)) × (l.packings ≤ l.k * 18446744073709551615)
