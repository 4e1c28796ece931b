use Rattle.std.proofs.Common.{◌≡◌, ◌+◌, ◌≤◌, drop}
use Rattle.poly_place.specs.Layers.{copy_rank}
use Rattle.poly_place.proofs.symbol.copy_rank.Given as goal

-- those so far and those to come are all
abbrev pub invariant-loop-other : goal.invariant-loop-other
invariant-loop-other l = record {
  rest : l.rank + copy_rank (drop l.other-index l.placements) l.choice ≡ copy_rank l.placements l.choice;
  few : l.rank ≤ l.other-index;
}
