use Rattle.std.proofs.Common.{vec_items}
use Rattle.std.proofs.lemmas.List.Filters.{dedup_is}
use Rattle.poly_cells.proofs.SortLemmas.{after_sort}
use Rattle.poly_place.proofs.OrderLemmas.{cells_total, cells_exact, cells_ties}
use Rattle.poly_distinct.proofs.free.put_sets_in_order.Goals as goal

pub returns : goal.returns
returns c =
    after_sort vec_items cells_total cells_exact _ (λ a b. cells_ties (vec_items a) (vec_items b)) _ _ _
    c.sort_unstable.ensures.permutation c.sort_unstable.ensures.sorted (dedup_is _ _ _ c.dedup.ensures.filtered)
