use Rattle.std.proofs.Common.{arith, sym, ◌∙◌, ap, subst, ℕ, List, map, length, ◌<◌, ◌≤◌, ◌+◌}
use Rattle.poly_place.specs.Packings.{a_piece, index_among}
use Rattle.poly_place.proofs.CountLemmas.{are_few, needed_count}
use Rattle.poly_place.proofs.NumberLemmas.{needed_item, maybe_item}
use Rattle.poly_place.proofs.items.piece_number.Goals as goal
use Rattle.poly_place.proofs.items.piece_number.Goals.{After-index_among}

-- the number of the item of a piece that may be left out is small
small : (c : After-index_among) → c.args.primary + c.index_among.result < 65535
small c =
    let few = are_few c.args.puzzle.now c.requires.puzzle in
    let count = needed_count c.args.puzzle.now in
    let same = ap length c.maybe_pieces.ensures in
    omega arith

pub overflow_cast-result-else-place-needed : goal.overflow_cast-result-else-place-needed
overflow_cast-result-else-place-needed c = let low = small (goal.at.overflow_cast-result-else-place-needed c).After-index_among in omega arith

pub overflow_add-result-else-place-needed : goal.overflow_add-result-else-place-needed
overflow_add-result-else-place-needed c = let low = small (goal.at.overflow_add-result-else-place-needed c).After-index_among in omega arith

pub overflow_add-result-else-place-needed-2 : goal.overflow_add-result-else-place-needed-2
overflow_add-result-else-place-needed-2 c = let low = small (goal.at.overflow_add-result-else-place-needed-2 c).After-index_among in omega arith

pub returns-then-place-needed : goal.returns-then-place-needed
returns-then-place-needed c =
    sym (needed_item c.args.puzzle.now c.args.name c.index_among-place.result
    (c.index_among-place.ensures.value ∙ ap (λ (ns : List ℕ). index_among (a_piece c.args.name) (map a_piece ns)) c.requires.needed)
    (subst (λ (ns : List ℕ). c.index_among-place.result < length ns) c.requires.needed c.if-place-needed.true))

pub returns-else-place-needed : goal.returns-else-place-needed
returns-else-place-needed c =
    let item = maybe_item c.args.puzzle.now c.args.name c.index_among-place.result c.index_among.result c.requires.member c.requires.single
    (c.index_among-place.ensures.value ∙ ap (λ (ns : List ℕ). index_among (a_piece c.args.name) (map a_piece ns)) c.requires.needed)
    (subst (λ (ns : List ℕ). length ns ≤ c.index_among-place.result) c.requires.needed c.if-place-needed.false)
    (c.index_among.ensures.value ∙ ap (λ (ns : List ℕ). index_among (a_piece c.args.name) (map a_piece ns)) c.maybe_pieces.ensures) in
    omega arith
