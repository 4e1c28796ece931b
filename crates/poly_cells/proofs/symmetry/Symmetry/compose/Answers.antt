use Rattle.std.proofs.Common.{◌≡◌, subst, sym, ap, ap₂, ◌∙◌}
use Rattle.poly_cells.specs.Symmetries.{IsComposed, is_rotation}
use Rattle.poly_cells.specs.Products.{composed, product, matrix_number}
use Rattle.poly_cells.proofs.SymmetryTables.{is_composed, rotation_composed}
use Rattle.poly_cells.proofs.symmetry.Symmetry.compose.Goals as goal
use Rattle.poly_cells.proofs.symmetry.Symmetry.compose.Goals.{After-number}

number : (c : After-number) → c.number.result ≡ composed c.args.a c.args.b
unfolding composed
number c = c.number.ensures.value ∙ ap matrix_number (c.product.ensures ∙ ap₂ product c.matrix.ensures.value c.matrix-2.ensures.value)

pub returns-clause-composed : goal.returns-clause-composed
returns-clause-composed c = subst (λ n. IsComposed c.args.a c.args.b n) (sym (number (goal.at.returns-clause-composed c).After-number)) (is_composed _ _ c.matrix.ensures.limit c.matrix-2.ensures.limit)

pub returns-clause-rotation : goal.returns-clause-rotation
returns-clause-rotation c = λ a b. ap is_rotation (number (goal.at.returns-clause-rotation c).After-number) ∙ rotation_composed _ _ c.matrix.ensures.limit c.matrix-2.ensures.limit a b
