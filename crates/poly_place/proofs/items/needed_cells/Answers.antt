use Rattle.std.proofs.Common.{subst, sym}
use Rattle.poly_cells.specs.Shapes.{AllInGrid}
use Rattle.poly_place.proofs.NumberLemmas.{maybe_places}
use Rattle.poly_place.proofs.items.needed_cells.Goals as goal

pub table_of-requires : goal.table_of-requires
table_of-requires c = subst AllInGrid (sym c.maybe_cells.ensures) (maybe_places _ c.region.ensures.puzzle)
