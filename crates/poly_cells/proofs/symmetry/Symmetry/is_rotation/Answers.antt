use Rattle.std.proofs.Common.{◌∙◌}
use Rattle.poly_cells.proofs.SymmetryTables.{parity_is}
use Rattle.poly_cells.proofs.symmetry.Symmetry.is_rotation.Goals as goal

pub returns : goal.returns
returns c = parity_is _ _ _ c.matrix-m.ensures.limit c.has_odd_permutation-odd.ensures (c.m.view_is ∙ c.matrix-m.ensures.value)
