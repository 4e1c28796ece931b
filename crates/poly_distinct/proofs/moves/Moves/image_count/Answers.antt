use Rattle.std.proofs.Common.{map, vec_items, ap, sym, subst, ◌∙◌}
use Rattle.std.proofs.lemmas.List.{length-map}
use Rattle.poly_place.specs.Lists.{lists_of}
use Rattle.poly_distinct.specs.Moves.{MovesValue, AreMoves, thing_of}
use Rattle.poly_distinct.proofs.MovesLemmas.{have_by}
use Rattle.poly_distinct.proofs.ImageCountLemmas.{images_counted}
use Rattle.poly_distinct.proofs.moves.Moves.image_count.Goals as goal

pub all_carried-requires : goal.all_carried-requires
all_carried-requires c =
    let gs = lists_of c.self.inside.carriers.items in
    let m = subst (λ (q : MovesValue). AreMoves q.puzzle q.group c.self.inside.places.items gs) c.self.view_is c.self.invariant in
    have_by c.args.self.now.puzzle m.sound c.args.self.now.group gs m.carriers_are (thing_of c.args.anchor.now) c.requires.anchor c.args.cells.now c.requires.inside _ _ _
    c.fixed-fixed.ensures (c.as_slice-list.ensures.value ∙ c.in_ok-places.ensures) (ap (map vec_items) c.as_slice-carriers.ensures.value)

pub returns : goal.returns
returns c =
    let gs = lists_of c.self.inside.carriers.items in
    let m = subst (λ (q : MovesValue). AreMoves q.puzzle q.group c.self.inside.places.items gs) c.self.view_is c.self.invariant in
    c.len.ensures ∙ c.put_lists_in_order.new.lists.ok.0 ∙ sym (length-map _ vec_items)
    ∙ images_counted c.args.self.now.puzzle m.sound c.args.self.now.group gs m.carriers_are (thing_of c.args.anchor.now) c.requires.anchor c.args.cells.now c.requires.inside _ _ _
    c.fixed-fixed.ensures (c.as_slice-list.ensures.value ∙ c.in_ok-places.ensures) (ap (map vec_items) c.as_slice-carriers.ensures.value)
    _ _ c.in_ok-images.ensures c.put_lists_in_order.ensures
