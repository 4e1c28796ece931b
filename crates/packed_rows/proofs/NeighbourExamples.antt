-- The example of specs/Neighbours.antt, computed.
use Rattle.std.proofs.Common.{◌≡◌, [], ◌∷◌, refl}
use Rattle.packed_rows.specs.Neighbours.{list_step, told_from, told_lists}

pub told_lists-three : told_lists ((4 ∷ 5 ∷ []) ∷ (4 ∷ 7 ∷ []) ∷ (4 ∷ []) ∷ []) ≡ 4 ∷ 4 ∷ 5 ∷ 5 ∷ 2 ∷ 4 ∷ []
unfolding list_step told_from
told_lists-three = refl
