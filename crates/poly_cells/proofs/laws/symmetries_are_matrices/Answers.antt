use Rattle.poly_cells.proofs.NumberLemmas.{are_matrices}
use Rattle.poly_cells.proofs.laws.symmetries_are_matrices.Goals as goal

pub returns : goal.returns
returns c = are_matrices
