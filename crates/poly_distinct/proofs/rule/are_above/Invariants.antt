use Rattle.std.proofs.Common.{◌≡◌, ◌+◌, ◌-◌, nat_lt, slice_index}
use Rattle.std.specs.List.{list_all}
use Rattle.shared_words.specs.Lists.{numbers}
use Rattle.poly_distinct.proofs.rule.are_above.Given as goal

-- the counts so far are above the number: those that are left tell
abbrev pub invariant-loop-item : goal.invariant-loop-item
invariant-loop-item l =
    list_all (λ i. nat_lt l.number (slice_index l.counts i)) (numbers (l.last - l.item) (l.item + 1)) ≡ list_all (λ i. nat_lt l.number (slice_index l.counts i)) (numbers l.last 1)
