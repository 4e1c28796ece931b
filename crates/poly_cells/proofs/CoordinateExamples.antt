-- The example of specs/Coordinates.antt, computed.
use Rattle.std.proofs.Common.{◌≡◌, refl, Less}
use Rattle.poly_cells.specs.Coordinates.{coordinates, coordinates_cmp}

by_x_first : coordinates_cmp (coordinates 0 2 1) (coordinates 1 0 0) ≡ Less
by_x_first = refl

by_z_last : coordinates_cmp (coordinates 1 0 0) (coordinates 1 0 3) ≡ Less
by_z_last = refl
