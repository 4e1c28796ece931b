use Rattle.std.proofs.Common.{ℕ, List, map, vec_items, ap, subst, sym, filter, Some, ◌∙◌}
use Rattle.shared_words.specs.Answers.{ReturnsItems}
use Rattle.poly_place.specs.Lists.{lists_of}
use Rattle.poly_distinct.specs.Moves.{HavePlaces, MovesValue, AreMoves, is_least_by}
use Rattle.poly_distinct.proofs.MovesLemmas.{have_below, firsts_are}
use Rattle.poly_distinct.proofs.moves.Moves.first_among.Goals as goal

pub firsts-requires : goal.firsts-requires
firsts-requires c k i =
    let gs = lists_of c.self.inside.carriers.items in
    let m = subst (λ (q : MovesValue). AreMoves q.puzzle q.group c.self.inside.places.items gs) c.self.view_is c.self.invariant in
    subst (λ (hs : List (List ℕ)). HavePlaces (Some k) c.args.places.now hs) (sym (ap (map vec_items) c.as_slice.ensures.value))
    (have_below c.args.self.now.puzzle m.sound c.args.self.now.group gs m.carriers_are c.args.places.now c.requires k i)

pub returns : goal.returns
returns c cells a =
    let gs = lists_of c.self.inside.carriers.items in
    let ks = c.args.places.now in
    let m = subst (λ (q : MovesValue). AreMoves q.puzzle q.group c.self.inside.places.items gs) c.self.view_is c.self.invariant in
    subst (λ (ns : List ℕ). ReturnsItems c.firsts.result ns)
    (ap (λ (hs : List (List ℕ)). filter (λ k. is_least_by (Some k) ks hs) ks) (ap (map vec_items) c.as_slice.ensures.value)
    ∙ firsts_are c.args.self.now.puzzle m.sound c.args.self.now.group gs m.carriers_are cells ks a) c.firsts.ensures
