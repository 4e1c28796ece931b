use Rattle.std.proofs.Common.{◌≡◌, ◌-◌, ◌+◌, find, slice_index_or, ◌==◌}
use Rattle.shared_words.specs.Lists.{numbers}
use Rattle.cover_problem.specs.declared.plain.TheConstants.{NEVER}
use Rattle.cover_problem.proofs.plain.first_uncovered.Given as goal

abbrev pub invariant-loop-item : goal.invariant-loop-item
invariant-loop-item l = find (λ i. slice_index_or l.times (i - 1) 0 == NEVER) (numbers (l.primary + 1 - l.item) l.item) ≡ find (λ i. slice_index_or l.times (i - 1) 0 == NEVER) (numbers (l.primary - l.after) (l.after + 1))
