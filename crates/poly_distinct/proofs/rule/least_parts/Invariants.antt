use Rattle.std.proofs.Common.{◌≡◌, filter, take}
use Rattle.poly_distinct.specs.Rule.{none_better, less_part}
use Rattle.poly_distinct.proofs.rule.least_parts.Given as goal

-- those so far that keep the least part
abbrev pub invariant-loop-tally : goal.invariant-loop-tally
invariant-loop-tally l = l.least.items ≡ filter (none_better less_part l.tallies) (take l.tally-index l.tallies)
