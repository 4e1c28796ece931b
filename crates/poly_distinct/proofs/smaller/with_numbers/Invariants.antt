use Rattle.std.proofs.Common.{◌≡◌, ◌++◌, ◌-◌, ◌+◌}
use Rattle.shared_words.specs.Lists.{numbers}
use Rattle.poly_distinct.proofs.smaller.with_numbers.Given as goal

-- the numbers so far
abbrev pub invariant-loop-k : goal.invariant-loop-k
invariant-loop-k l = l.list.items ≡ l.fn.list.items ++ numbers (l.k - l.low) (l.low + 1)
