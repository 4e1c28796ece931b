use Rattle.std.proofs.Common.{ℕ, ◌<◌, ◌↔◌}
use Rattle.std.specs.List.Sorted.{IsStrictlyIncreasing}
use Rattle.poly_cells.specs.Sets.{IsIn}
use Rattle.poly_cells.specs.Images.{HasSymmetry}
use Rattle.poly_cells.proofs.region.symmetries_of.Given as goal

abbrev pub invariant-loop-n : goal.invariant-loop-n
invariant-loop-n l = record {
  exactly : (m : ℕ) → IsIn m l.found.items ↔ ((m < l.n) × HasSymmetry m l.region);
  rises : IsStrictlyIncreasing l.found.items;
}
