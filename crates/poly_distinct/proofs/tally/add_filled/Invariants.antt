use Rattle.std.proofs.Common.{◌≡◌, ◌++◌, filter, map, take}
use Rattle.poly_distinct.specs.Counts.{cell_tally}
use Rattle.poly_distinct.proofs.TallyLemmas.{is_told}
use Rattle.poly_distinct.proofs.tally.add_filled.Given as goal

-- the tallies so far are added
abbrev pub invariant-loop-k : goal.invariant-loop-k
invariant-loop-k l =
    l.tallies.items ≡ l.initial.tallies.items ++ map (cell_tally l.moves) (filter (is_told l.moves) (take l.k l.cells))
