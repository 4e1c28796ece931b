use Rattle.std.proofs.Common.{◌≡◌, take}
use Rattle.poly_distinct.specs.UpTo.{whole_paths_of}
use Rattle.poly_distinct.proofs.part.AnchorPart.whole_paths.Given as goal

-- the paths so far
abbrev pub invariant-loop-k : goal.invariant-loop-k
invariant-loop-k l = l.paths ≡ whole_paths_of l.self (take l.k l.visits)
