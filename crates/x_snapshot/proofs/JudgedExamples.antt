-- The examples of what is judged, computed on the small problem.
use Rattle.std.proofs.Common.{◌≡◌, true, false, [], ◌∷◌, refl}
use Rattle.cover_problem.specs.Covering.{active, remaining, choice}
use Rattle.cover_problem.specs.Path.{taken, covered_by}
use Rattle.cover_problem.proofs.CoverExamples.{small}
use Rattle.x_snapshot.specs.Judged.{is_valid}

taken_in_turn : is_valid small (4 ∷ 5 ∷ 1 ∷ []) ≡ true
unfolding active remaining choice taken covered_by
taken_in_turn = refl

not_the_chosen_item : is_valid small (3 ∷ []) ≡ false
unfolding active remaining choice taken covered_by
not_the_chosen_item = refl
