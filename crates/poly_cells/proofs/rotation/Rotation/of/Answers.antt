use Rattle.std.proofs.Common.{◌<◌, subst, ap, ◌∙◌, slice_index, ◌/◌}
use Rattle.poly_cells.specs.Symmetries.{rotations}
use Rattle.poly_cells.proofs.SymmetryTables.{rotation_at_half}
use Rattle.poly_cells.proofs.rotation.Rotation.of.Goals as goal

pub returns-clause-value : goal.returns-clause-value
returns-clause-value c =
    ap (λ n. slice_index rotations (n / 2)) c.number.ensures.value
    ∙ rotation_at_half _ (subst (λ n. n < 48) c.number.ensures.value c.number.ensures.limit) c.requires
