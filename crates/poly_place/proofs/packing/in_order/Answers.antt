use Rattle.std.proofs.Common.{ap, ◌∙◌}
use Rattle.std.specs.Cmp.{unsigned_ties}
use Rattle.std.specs.Ordering.{nat_cmp}
use Rattle.std.proofs.lemmas.List.Filters.{dedup_is}
use Rattle.poly_cells.specs.Sets.{in_order}
use Rattle.poly_place.proofs.ChosenLemmas.{numbers_sorted}
use Rattle.poly_place.proofs.packing.in_order.Goals as goal

pub returns : goal.returns
returns c =
    numbers_sorted _ unsigned_ties _ _ _ c.sort_unstable.ensures.permutation c.sort_unstable.ensures.sorted (dedup_is _ _ _ c.dedup.ensures.filtered)
    ∙ ap (in_order nat_cmp) c.in_ok-numbers.ensures.items
