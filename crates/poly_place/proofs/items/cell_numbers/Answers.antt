use Rattle.std.proofs.Common.{arith, refl, ◌+◌, ◌∙◌, ap, length, ◌≤◌}
use Rattle.poly_place.proofs.CountLemmas.{are_few, needed_count}
use Rattle.poly_place.proofs.NumberLemmas.{written_numbers}
use Rattle.poly_place.proofs.items.cell_numbers.Goals as goal
use Rattle.poly_place.proofs.items.cell_numbers.Goals.{After-maybe_pieces}

-- how many there are at most of the required pieces, of the cells that have to be filled, and of the other pieces
few : (c : After-maybe_pieces) → (length c.args.pieces.now ≤ 62) × (length c.args.cells.now ≤ 4096) × (length c.maybe_pieces.result.now ≤ 62)
few c =
    let all = are_few c.args.puzzle.now c.requires.puzzle in
    let a = ap length c.requires.pieces in
    let b = ap length c.requires.cells in
    let d = ap length c.maybe_pieces.ensures in
    (omega arith, omega arith, omega arith)

pub overflow_add-second-2 : goal.overflow_add-second-2
overflow_add-second-2 c = let low = few (goal.at.overflow_add-second-2 c).After-maybe_pieces in omega arith

pub overflow_cast-first : goal.overflow_cast-first
overflow_cast-first c = let low = few (goal.at.overflow_cast-first c).After-maybe_pieces in omega arith

pub number_cells-requires-clause-room : goal.number_cells-requires-clause-room
number_cells-requires-clause-room c = let low = few (goal.at.number_cells-requires-clause-room c).After-maybe_pieces in omega arith

pub overflow_cast-second : goal.overflow_cast-second
overflow_cast-second c = let low = few (goal.at.overflow_cast-second c).After-maybe_pieces in omega arith

pub number_cells-requires-2-clause-room : goal.number_cells-requires-2-clause-room
number_cells-requires-2-clause-room c =
    let low = few (goal.at.number_cells-requires-2-clause-room c).After-maybe_pieces in
    let empty = (are_few c.args.puzzle.now c.requires.puzzle).maybe_cells in
    let e = ap length c.maybe_cells.ensures in
    omega arith

pub returns : goal.returns
returns c =
    let count = needed_count c.args.puzzle.now in
    let a = ap length c.requires.pieces in
    let b = ap length c.requires.cells in
    let d = ap length c.maybe_pieces.ensures in
    written_numbers c.args.puzzle.now c.requires.puzzle c.deref_mut.result.now c.number_cells.new.numbers c.deref_mut-2.result.now c.number_cells-2.new.numbers _ _ _
    c.args.cells.now c.maybe_cells.result.now (length c.args.pieces.now) (length c.args.pieces.now + length c.args.cells.now + length c.maybe_pieces.result.now) c.in_ok-numbers.numbers.len
    (ap length c.deref_mut.ensures.value ∙ c.in_ok-numbers.ensures.long) c.deref_mut.ensures.len c.requires.cells c.maybe_cells.ensures a (omega (arith, a, b, d, count))
    c.number_cells.ensures c.deref_mut-2.ensures.value c.number_cells-2.ensures refl
