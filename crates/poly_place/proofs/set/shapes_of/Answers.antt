use Rattle.std.proofs.Common.{sym, vec_items, rules, subst}
use Rattle.std.proofs.lemmas.Iterator.Consumers.{YieldsList-turn}
use Rattle.std.proofs.lemmas.Iterator.Adapters.{YieldsList-from_vec}
use Rattle.poly_cells.specs.Sets.{IsIn}
use Rattle.poly_cells.specs.Shapes.{IsShape}
use Rattle.poly_cells.proofs.SetLemmas.{in_map, in_at}
use Rattle.poly_place.proofs.set.shapes_of.Goals as goal
use Rattle.poly_place.proofs.set.shapes_of.Goals.{In-Some}

-- each set is a shape
here : (c : In-Some) → IsShape (vec_items c.in-Some.set)
here c =
    let turn =
    YieldsList-turn (YieldsList-from_vec {s = c.into_iter-set-iterator.result} c.args.sets.items (search rules) (search rules)) c.loop-set.yielded c.loop-set.set-iterator c.loop-set.yielded_by
    c.next.result c.next.new.self c.in-Some.set c.in-Some.is c.next.ensures.steps in
    c.requires (vec_items c.in-Some.set) (in_map vec_items c.in-Some.set c.args.sets.items (subst (λ s. IsIn s c.args.sets.items) (sym turn.1) (in_at c.args.sets.items _ _ turn.0)))

pub new-requires-clause-some : goal.new-requires-clause-some
new-requires-clause-some c = (here (goal.at.new-requires-clause-some c).In-Some).some

pub new-requires-clause-rises : goal.new-requires-clause-rises
new-requires-clause-rises c = (here (goal.at.new-requires-clause-rises c).In-Some).rises
