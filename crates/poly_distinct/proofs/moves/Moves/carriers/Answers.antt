use Rattle.std.proofs.Common.{ℕ, Vec, List, map, vec_items, sym, subst}
use Rattle.std.specs.declared.alloc.Global.{Global}
use Rattle.poly_place.specs.Lists.{lists_of}
use Rattle.poly_place.specs.Forms.{AreCarriers}
use Rattle.poly_distinct.specs.Moves.{MovesValue, AreMoves}
use Rattle.poly_distinct.proofs.moves.Moves.carriers.Goals as goal

pub returns : goal.returns
returns c =
    let gs = lists_of c.self.inside.carriers.items in
    let m = subst (λ (q : MovesValue). AreMoves q.puzzle q.group c.self.inside.places.items gs) c.self.view_is c.self.invariant in
    subst (λ (vs : List (Vec ℕ Global)). AreCarriers c.args.self.now.group c.args.self.now.puzzle.region c.args.self.now.puzzle.maybe_cells (map vec_items vs)) (sym c.as_slice.ensures.value)
    m.carriers_are
