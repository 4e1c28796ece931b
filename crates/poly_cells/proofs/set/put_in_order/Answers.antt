use Rattle.std.proofs.Common.{◌≡◌, ◌∙◌, sym, ap, subst, map-id}
use Rattle.std.proofs.lemmas.List.Filters.{dedup_is}
use Rattle.std.specs.List.Sorted.{IsStrictlySortedBy}
use Rattle.poly_cells.specs.Coordinates.{Coordinates, coordinates_cmp}
use Rattle.poly_cells.specs.Sets.{IsIn, in_order}
use Rattle.poly_cells.proofs.CoordinateLemmas.{coordinates_total, coordinates_exact, coordinates_ties}
use Rattle.poly_cells.proofs.SetLemmas.{in_order_rises, in_from_order, in_to_order}
use Rattle.poly_cells.proofs.SortLemmas.{after_sort}
use Rattle.poly_cells.proofs.set.put_in_order.Goals as goal

pub returns : goal.returns
returns c =
    let is : c.dedup.new.self.items ≡ in_order coordinates_cmp c.args.cells.now.items =
    sym (map-id _)
    ∙ after_sort (λ (v : Coordinates). v) coordinates_total coordinates_exact _ coordinates_ties _ _ _ c.sort_unstable.ensures.permutation c.sort_unstable.ensures.sorted (dedup_is _ _ _ c.dedup.ensures.filtered)
    ∙ ap (in_order coordinates_cmp) (map-id _) in
    record {
      value = is;
      rises = subst (IsStrictlySortedBy coordinates_cmp) (sym is) (in_order_rises coordinates_total _);
      members = λ v. (
        (λ i. in_from_order coordinates_cmp v _ (subst (IsIn v) is i)),
        (λ i. subst (IsIn v) (sym is) (in_to_order coordinates_exact v _ i)),
      );
    }
