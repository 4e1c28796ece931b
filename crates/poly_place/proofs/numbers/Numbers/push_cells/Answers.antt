use Rattle.std.proofs.Common.{subst}
use Rattle.poly_texts.specs.Puzzle.{PuzzleValue}
use Rattle.poly_place.specs.Compiled.{AreNumbers}
use Rattle.poly_place.proofs.NumberedLemmas.{cell_more, table_at}
use Rattle.poly_place.proofs.numbers.Numbers.push_cells.Goals as goal

pub loop-cell-preserved : goal.loop-cell-preserved
loop-cell-preserved c =
    let are = subst (λ (p : PuzzleValue). AreNumbers p c.self.inside.cells.items) c.self.view_is c.self.invariant.items in
    let at =
    table_at c.self.inside.cells.items c.cell-item.result c.x.result c.y.result c.z.result c.bit_index.result c.index.result.now _ are.long c.x.ensures.value c.y.ensures.value c.z.ensures.value
    c.x.ensures.limit c.y.ensures.limit c.z.ensures.limit c.bit_index.ensures c.index.ensures in
    cell_more c.args.self.now c.self.inside.cells.items are c.args.cells.now c.requires c.loop-cell.cell-index c.cell-item.result c.index.result.now c.args.option.now.items c.loop-cell.option.items
    c.push.new.self.items c.loop-cell-test.true c.cell-item.is at c.in_ok-push.ensures.items c.loop-cell.invariant
