use Rattle.std.proofs.Common.{◌≡◌, false, sym, subst}
use Rattle.poly_cells.specs.Sets.{IsIn}
use Rattle.poly_texts.specs.Puzzle.{PuzzleValue, names_of, pieces_of}
use Rattle.poly_place.specs.Packings.{is_any}
use Rattle.poly_place.proofs.WalkLemmas.{item_in}
use Rattle.poly_place.proofs.numbers.Numbers.items_of.Goals as goal

pub piece_number-requires-clause-member : goal.piece_number-requires-clause-member
piece_number-requires-clause-member c =
    subst (λ (p : PuzzleValue). IsIn c.name-item.result (names_of (pieces_of p))) (sym c.self.view_is)
    (c.requires.members c.name-item.result (item_in c.args.names.now c.loop-name.name-index c.name-item.result c.loop-name-test.true c.name-item.is))

pub piece_number-requires-clause-single : goal.piece_number-requires-clause-single
piece_number-requires-clause-single c =
    subst (λ (p : PuzzleValue). is_any p c.name-item.result ≡ false) (sym c.self.view_is)
    (c.requires.single c.name-item.result (item_in c.args.names.now c.loop-name.name-index c.name-item.result c.loop-name-test.true c.name-item.is))
