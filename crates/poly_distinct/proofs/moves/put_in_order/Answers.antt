use Rattle.std.specs.Cmp.{unsigned_ties}
use Rattle.std.proofs.lemmas.List.Filters.{dedup_is}
use Rattle.poly_place.proofs.ChosenLemmas.{numbers_sorted}
use Rattle.poly_distinct.proofs.moves.put_in_order.Goals as goal

pub returns : goal.returns
returns c = numbers_sorted _ unsigned_ties _ _ _ c.sort_unstable.ensures.permutation c.sort_unstable.ensures.sorted (dedup_is _ _ _ c.dedup.ensures.filtered)
