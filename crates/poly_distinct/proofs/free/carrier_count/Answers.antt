use Rattle.std.proofs.Common.{sym, ◌∙◌, vec_items}
use Rattle.std.proofs.lemmas.List.{length-map}
use Rattle.poly_distinct.proofs.FreeLemmas.{ways_counted}
use Rattle.poly_distinct.proofs.free.carrier_count.Goals as goal

pub returns : goal.returns
returns c =
    ways_counted c.args.compiled.now c.choices-sound.ensures.puzzle c.args.group _ _ _ _ _ c.region.ensures c.maybe_cells.ensures c.in_ok-carriers.ensures
    c.put_carriers_in_order.ensures (c.len.ensures ∙ c.put_carriers_in_order.new.carriers.ok.0 ∙ sym (length-map c.put_carriers_in_order.new.carriers.items vec_items))
