-- The example of specs/Written.antt.
use Rattle.std.proofs.Common.{◌≡◌, [], ◌∷◌, ◌++◌, codes, refl}
use Rattle.x_texts.specs.Written.{visits_said}

two_lines : visits_said (codes "visit 4 5 1" ++ 10 ∷ codes "visit" ++ 10 ∷ []) ≡ (4 ∷ 5 ∷ 1 ∷ []) ∷ [] ∷ []
unfolding visits_said
two_lines = refl
