use Rattle.std.proofs.Common.{ℕ, List, subst, sym}
use Rattle.poly_cells.specs.Coordinates.{Coordinates}
use Rattle.poly_cells.specs.Sets.{IsIn}
use Rattle.poly_texts.specs.Puzzle.{names_of, pieces_of}
use Rattle.poly_place.proofs.NumberedLemmas.{choice_member, choice_placed}
use Rattle.poly_place.proofs.numbers.Numbers.option_of.Goals as goal

pub push_piece-requires-clause-member : goal.push_piece-requires-clause-member
push_piece-requires-clause-member c =
    subst (λ (n : ℕ). IsIn n (names_of (pieces_of c.args.self.now))) (sym c.name.ensures) (choice_member c.args.self.now c.requires.puzzle c.args.choice.now c.requires.member)

pub push_cells-requires : goal.push_cells-requires
push_cells-requires c v i =
    let placed = choice_placed c.args.self.now c.requires.puzzle c.args.choice.now c.requires.member in
    placed.placed.inside v (subst (λ (vs : List Coordinates). IsIn v vs) c.cells-2.ensures i)
