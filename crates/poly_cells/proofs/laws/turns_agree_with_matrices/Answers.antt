use Rattle.poly_cells.specs.Symmetries.{matrix}
use Rattle.poly_cells.proofs.ImageLemmas.{lift, turn_is_lifted}
use Rattle.poly_cells.proofs.laws.turns_agree_with_matrices.Goals as goal

pub returns : goal.returns
returns c = λ n. (lift (matrix n), turn_is_lifted n)
