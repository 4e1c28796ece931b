use Rattle.std.proofs.Common.{◌≡◌, subst, sym, ap, ◌∙◌}
use Rattle.poly_cells.specs.Symmetries.{IsComposed, is_rotation}
use Rattle.poly_cells.specs.Products.{inverse_of, transposed, matrix_number}
use Rattle.poly_cells.proofs.SymmetryTables.{undone_before, undone_behind, rotation_inverse}
use Rattle.poly_cells.proofs.symmetry.Symmetry.inverse.Goals as goal
use Rattle.poly_cells.proofs.symmetry.Symmetry.inverse.Goals.{After-number}

number : (c : After-number) → c.number.result ≡ inverse_of c.args.self
unfolding inverse_of
number c = c.number.ensures.value ∙ ap matrix_number (c.transposed.ensures ∙ ap transposed c.matrix.ensures.value)

pub returns-clause-before : goal.returns-clause-before
returns-clause-before c = subst (λ n. IsComposed n c.args.self 0) (sym (number (goal.at.returns-clause-before c).After-number)) (undone_before _ c.matrix.ensures.limit)

pub returns-clause-behind : goal.returns-clause-behind
returns-clause-behind c = subst (λ n. IsComposed c.args.self n 0) (sym (number (goal.at.returns-clause-behind c).After-number)) (undone_behind _ c.matrix.ensures.limit)

pub returns-clause-rotation : goal.returns-clause-rotation
returns-clause-rotation c = λ r. ap is_rotation (number (goal.at.returns-clause-rotation c).After-number) ∙ rotation_inverse _ c.matrix.ensures.limit r
