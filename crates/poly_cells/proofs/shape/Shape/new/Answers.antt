use Rattle.std.proofs.Common.{ap, subst, ◌∙◌}
use Rattle.poly_cells.specs.Shapes.{AllInGrid, corner}
use Rattle.poly_cells.proofs.shape.Shape.new.Goals as goal

pub invariant_of-result : goal.invariant_of-result
invariant_of-result c = (
  record { some = c.requires.some; rises = c.requires.rises; limits = subst AllInGrid c.as_slice.ensures.value c.corner_of-lowest.ensures.limits },
  c.corner_of-lowest.ensures.value ∙ ap corner c.as_slice.ensures.value,
)
