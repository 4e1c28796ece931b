use Rattle.std.proofs.Common.{arith}
use Rattle.poly_cells.proofs.SymmetryTables.{matrix_from}
use Rattle.poly_cells.proofs.symmetry.Symmetry.matrix.Goals as goal
use Rattle.poly_cells.proofs.symmetry.Symmetry.matrix.Goals.{in-0, in-1, in-2, in-3, in-4, in_default}

pub returns-clause-value : goal.returns-clause-value
returns-clause-value c =
    elim c.match-self-div8.branch [
      | in-0 w ↦ matrix_from _ _ 0 _ c.self.view_is w.in-0.is w.from_x-is
      | in-1 w ↦ matrix_from _ _ 1 _ c.self.view_is w.in-1.is w.from_x-is
      | in-2 w ↦ matrix_from _ _ 2 _ c.self.view_is w.in-2.is w.from_x-is
      | in-3 w ↦ matrix_from _ _ 3 _ c.self.view_is w.in-3.is w.from_x-is
      | in-4 w ↦ matrix_from _ _ 4 _ c.self.view_is w.in-4.is w.from_x-is
      | in_default w ↦ matrix_from _ _ 5 _ c.self.view_is (omega arith) w.from_x-is
    ]
