use Rattle.std.proofs.Common.{ℕ, ◌<◌, List, length, vec_items, sym, subst}
use Rattle.poly_cells.proofs.SetLemmas.{in_map}
use Rattle.poly_place.proofs.WalkLemmas.{item_in}
use Rattle.poly_distinct.proofs.moves.is_least.Goals as goal

pub leaves-requires : goal.leaves-requires
leaves-requires c k e =
    subst (λ (vs : List ℕ). k < length vs) (sym c.as_slice.ensures.value)
    (c.requires.one (vec_items c.carrier-item.result) (in_map vec_items c.carrier-item.result c.args.carriers.now (item_in _ _ _ c.loop-carrier-test.true c.carrier-item.is)) k e)

pub lowers-requires : goal.lowers-requires
lowers-requires c k i =
    subst (λ (vs : List ℕ). k < length vs) (sym c.as_slice-then-leaves.ensures.value)
    (c.requires.each (vec_items c.carrier-item.result) (in_map vec_items c.carrier-item.result c.args.carriers.now (item_in _ _ _ c.loop-carrier-test.true c.carrier-item.is)) k i)
