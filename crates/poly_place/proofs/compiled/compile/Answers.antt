use Rattle.std.proofs.Common.{sym, subst, ◌∙◌}
use Rattle.poly_cells.specs.Shapes.{AllInGrid}
use Rattle.poly_place.proofs.NumberLemmas.{filled_places}
use Rattle.poly_place.proofs.compiled.compile.Goals as goal

pub table_of-requires : goal.table_of-requires
table_of-requires c = subst AllInGrid (sym (c.as_slice.ensures.value ∙ c.in_ok-cells.ensures)) (filled_places c.args.puzzle.now c.is_sound.ensures.puzzle)
