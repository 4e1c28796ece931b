use Rattle.std.proofs.Common.{◌<◌, List, ap, sym, subst, ◌∙◌, length, vec_items, map, ltb-true}
use Rattle.std.specs.Option.{option_copied}
use Rattle.std.proofs.lemmas.List.{length-map}
use Rattle.poly_cells.specs.Coordinates.{Coordinates}
use Rattle.poly_cells.specs.Sets.{IsIn}
use Rattle.poly_cells.specs.Shapes.{IsShape}
use Rattle.poly_place.proofs.ClassLemmas.{count_is, carriers_below}
use Rattle.poly_place.proofs.ClassCountLemmas.{value_is, none_value}
use Rattle.poly_place.specs.Forms.{key_of}
use Rattle.poly_place.proofs.WalkLemmas.{item_in}
use Rattle.poly_place.proofs.alike.classes.Goals as goal

pub all_keys-requires-clause-shape : goal.all_keys-requires-clause-shape
all_keys-requires-clause-shape c = subst IsShape (sym c.cells.ensures.value) c.cells.ensures.shape

pub all_keys-requires-clause-carriers : goal.all_keys-requires-clause-carriers
all_keys-requires-clause-carriers c g i k j =
    subst (λ (vs : List Coordinates). k < length vs) (sym c.cells.ensures.value)
    (carriers_below _ _ _ _ c.cells.ensures.shape c.in_ok-carriers.ensures g (subst (λ vs. IsIn g (map vec_items vs)) c.as_slice.ensures.value i) k j)

pub returns : goal.returns
returns c =
    let here = item_in _ _ _ (ltb-true _ _ (sym c.in-Some.ensures.item.0)) c.in-Some.ensures.item.1 in
    let counted = count_is c.args.group c.args.packings.now c.in-Some.first.now _ _ _ _ _ _ _ c.region-region.ensures c.cells.ensures.value c.maybe_cells.ensures c.cells.ensures.shape c.in_ok-carriers.ensures here c.requires
    (c.in_ok-keys.ensures ∙ ap (λ gs. map (key_of c.cells.result.now (map vec_items gs)) c.args.packings.now) c.as_slice.ensures.value)
    c.put_keys_in_order.ensures (c.len.ensures ∙ c.put_keys_in_order.new.keys.ok.0 ∙ sym (length-map c.put_keys_in_order.new.keys.items vec_items)) in
    record {
      value = value_is c.args.group c.args.packings.now c.in-Some.first.now _ (subst IsShape c.region-region.ensures c.cells.ensures.shape) here c.requires counted;
      counts = counted;
    }

pub returns-in_default-clause-value : goal.returns-in_default-clause-value
returns-in_default-clause-value c = none_value c.args.group c.args.packings.now (sym c.first.ensures.value ∙ ap option_copied c.in_default.is)
