use Rattle.std.proofs.Common.{vec_items}
use Rattle.std.proofs.lemmas.List.Filters.{dedup_is}
use Rattle.poly_cells.proofs.SortLemmas.{after_sort}
use Rattle.poly_place.proofs.KeyLemmas.{forms_total, forms_exact, forms_ties}
use Rattle.poly_distinct.proofs.free.put_carriers_in_order.Goals as goal

pub returns : goal.returns
returns c =
    after_sort vec_items forms_total forms_exact _ (λ a b. forms_ties (vec_items a) (vec_items b)) _ _ _
    c.sort_unstable.ensures.permutation c.sort_unstable.ensures.sorted (dedup_is _ _ _ c.dedup.ensures.filtered)
