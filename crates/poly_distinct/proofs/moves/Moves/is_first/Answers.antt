use Rattle.std.proofs.Common.{Bool, map, vec_items, ap, subst, ◌∙◌}
use Rattle.shared_words.specs.Answers.{Returns}
use Rattle.poly_place.specs.Lists.{lists_of}
use Rattle.poly_distinct.specs.Moves.{MovesValue, AreMoves, thing_of}
use Rattle.poly_distinct.proofs.MovesLemmas.{have_by, least_by}
use Rattle.poly_distinct.proofs.moves.Moves.is_first.Goals as goal

pub is_least-requires : goal.is_least-requires
is_least-requires c =
    let gs = lists_of c.self.inside.carriers.items in
    let m = subst (λ (q : MovesValue). AreMoves q.puzzle q.group c.self.inside.places.items gs) c.self.view_is c.self.invariant in
    have_by c.args.self.now.puzzle m.sound c.args.self.now.group gs m.carriers_are (thing_of c.args.anchor.now) c.requires.anchor c.args.cells.now c.requires.inside _ _ _
    c.fixed-fixed.ensures (c.as_slice-list.ensures.value ∙ c.in_ok-places.ensures) (ap (map vec_items) c.as_slice-carriers.ensures.value)

pub returns : goal.returns
returns c =
    let gs = lists_of c.self.inside.carriers.items in
    let m = subst (λ (q : MovesValue). AreMoves q.puzzle q.group c.self.inside.places.items gs) c.self.view_is c.self.invariant in
    subst (λ (b : Bool). Returns c.is_least.result b)
    (least_by c.args.self.now.puzzle m.sound c.args.self.now.group gs m.carriers_are (thing_of c.args.anchor.now) c.requires.anchor c.args.cells.now c.requires.inside _ _ _
    c.fixed-fixed.ensures (c.as_slice-list.ensures.value ∙ c.in_ok-places.ensures) (ap (map vec_items) c.as_slice-carriers.ensures.value)) c.is_least.ensures
