use Rattle.poly_cells.proofs.GroupLemmas.{is_group}
use Rattle.poly_cells.proofs.laws.symmetries_are_a_group.Goals as goal

pub returns : goal.returns
returns c = is_group
