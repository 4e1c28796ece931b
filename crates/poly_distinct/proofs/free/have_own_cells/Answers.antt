use Rattle.std.proofs.Common.{sym, ◌∙◌, vec_items}
use Rattle.std.proofs.lemmas.List.{length-map}
use Rattle.poly_distinct.proofs.FreeLemmas.{own_counted}
use Rattle.poly_distinct.proofs.free.have_own_cells.Goals as goal

pub returns : goal.returns
returns c =
    own_counted c.args.compiled.now c.choices-choices.result.now _ _ _ c.choices-choices.ensures.value c.in_ok-sets.ensures c.put_sets_in_order.ensures
    (c.len.ensures ∙ c.put_sets_in_order.new.sets.ok.0 ∙ sym (length-map c.put_sets_in_order.new.sets.items vec_items))
