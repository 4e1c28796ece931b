use Rattle.std.proofs.Common.{◌≡◌, ◌<◌, ◌≤◌, length, filter, All}
use Rattle.shared_words.specs.Lists.{last_of}
use Rattle.cover_problem.specs.Plain.{is_in}
use Rattle.cover_problem.proofs.plain.last_left.Given as goal

abbrev pub invariant-loop-k : goal.invariant-loop-k
invariant-loop-k l = record {
  same : last_of (filter (is_in l.options l.times l.limit) l.rest) ≡ last_of (filter (is_in l.options l.times l.limit) l.holders);
  within : All (λ k. (0 < k) × (k ≤ length l.options)) l.rest;
}

abbrev pub decreases-loop-k : goal.decreases-loop-k
decreases-loop-k l = length l.rest
