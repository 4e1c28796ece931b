use Rattle.poly_cells.proofs.GroupLemmas.{are_rotations}
use Rattle.poly_cells.proofs.laws.rotations_have_determinant_one.Goals as goal

pub returns : goal.returns
returns c = are_rotations
