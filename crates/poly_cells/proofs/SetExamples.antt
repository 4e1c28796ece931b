-- The example of specs/Sets.antt, computed.
use Rattle.std.proofs.Common.{◌≡◌, [], ◌∷◌, refl, nat_cmp}
use Rattle.poly_cells.specs.Sets.{in_order}

each_once : in_order nat_cmp (3 ∷ 1 ∷ 3 ∷ 2 ∷ []) ≡ 1 ∷ 2 ∷ 3 ∷ []
unfolding in_order
each_once = refl
