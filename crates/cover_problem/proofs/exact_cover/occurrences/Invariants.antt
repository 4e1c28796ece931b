use Rattle.std.proofs.Common.{◌≡◌, take, count_by}
use Rattle.shared_words.specs.Lists.{has}
use Rattle.cover_problem.specs.Problem.{option_at}
use Rattle.cover_problem.proofs.exact_cover.occurrences.Given as goal

abbrev pub invariant-loop-k : goal.invariant-loop-k
invariant-loop-k l = l.count ≡ count_by (λ k. has (option_at l.problem k) l.item) (take l.k-index l.chosen)
