use Rattle.poly_cells.proofs.rotation.Rotation.inverse.Goals as goal

pub of-requires : goal.of-requires
of-requires c = c.inverse.ensures.rotation c.symmetry.ensures.rotation
