use Rattle.std.proofs.Common.{◌≡◌, drop}
use Rattle.std.specs.List.{list_all}
use Rattle.cover_problem.specs.CoverTest.{has_primary_item}
use Rattle.cover_problem.proofs.exact_cover.are_useful.Given as goal

abbrev pub invariant-loop-k : goal.invariant-loop-k
invariant-loop-k l = list_all (has_primary_item l.problem) (drop l.k-index l.chosen) ≡ list_all (has_primary_item l.problem) l.chosen
