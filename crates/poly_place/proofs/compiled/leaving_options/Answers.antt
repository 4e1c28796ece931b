use Rattle.std.proofs.Common.{ℕ, List, subst, vec_items}
use Rattle.poly_cells.specs.Sets.{IsIn}
use Rattle.poly_cells.proofs.SetLemmas.{in_map}
use Rattle.poly_place.proofs.WalkLemmas.{item_in}
use Rattle.poly_place.proofs.LeavingsLemmas.{IsCopy}
use Rattle.poly_place.proofs.LeftLemmas.{left_members}
use Rattle.poly_place.proofs.compiled.leaving_options.Goals as goal
use Rattle.poly_place.proofs.compiled.leaving_options.Goals.{After-as_slice}

-- each of the names is that of a copy that may be left out
copy : (c : After-as_slice) (n : ℕ) → IsIn n c.as_slice.result.now → IsCopy c.args.numbers.now n
copy c n i =
    let here = item_in c.args.lefts.now c.loop-left.left-index c.left-item.result c.loop-left-test.true c.left-item.is in
    let there = subst (λ (ls : List (List ℕ)). IsIn c.left-item.result.items ls) c.requires.lefts (in_map vec_items c.left-item.result c.args.lefts.now here) in
    left_members c.args.numbers.now c.requires.puzzle c.left-item.result.items there n (subst (λ (ns : List ℕ). IsIn n ns) c.as_slice.ensures.value i)

pub items_of-requires-clause-members : goal.items_of-requires-clause-members
items_of-requires-clause-members c n i = (copy (goal.at.items_of-requires-clause-members c).After-as_slice n i).named

pub items_of-requires-clause-single : goal.items_of-requires-clause-single
items_of-requires-clause-single c n i = (copy (goal.at.items_of-requires-clause-single c).After-as_slice n i).single
