use Rattle.std.proofs.Common.{◌≡◌, take}
use Rattle.poly_distinct.specs.UpTo.{counts_by}
use Rattle.poly_distinct.proofs.part.AnchorPart.counts.Given as goal

-- the counts so far
abbrev pub invariant-loop-choice : goal.invariant-loop-choice
invariant-loop-choice l = l.counts.items ≡ counts_by l.self (take l.choice-index l.choices)
