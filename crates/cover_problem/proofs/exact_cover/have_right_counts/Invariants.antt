use Rattle.std.proofs.Common.{◌≡◌, ◌+◌, ◌-◌, length}
use Rattle.std.specs.List.{list_all}
use Rattle.shared_words.specs.Lists.{numbers}
use Rattle.cover_problem.specs.CoverTest.{has_right_count}
use Rattle.cover_problem.proofs.exact_cover.have_right_counts.Given as goal

abbrev pub invariant-loop-item : goal.invariant-loop-item
invariant-loop-item l =
    list_all (has_right_count l.problem l.chosen) (numbers (length l.problem.names + 1 - l.item) l.item) ≡ list_all (has_right_count l.problem l.chosen) (numbers (length l.problem.names) 1)
