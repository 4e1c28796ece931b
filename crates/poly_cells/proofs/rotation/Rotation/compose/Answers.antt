use Rattle.poly_cells.proofs.rotation.Rotation.compose.Goals as goal

pub of-requires : goal.of-requires
of-requires c = c.compose.ensures.rotation c.symmetry.ensures.rotation c.symmetry-2.ensures.rotation
