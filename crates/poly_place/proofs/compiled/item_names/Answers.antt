use Rattle.poly_texts.specs.Puzzle.{PuzzleValue, maybe_names}
use Rattle.std.proofs.Common.{refl, ℕ, List, [], ◌∷◌, ◌++◌, map, ap, ap₂, ◌∙◌}
use Rattle.std.specs.String.{string_bytes}
use Rattle.poly_cells.specs.CellWords.{cell_word}
use Rattle.poly_place.proofs.MadeLemmas.{names_are}
use Rattle.poly_place.proofs.compiled.item_names.Goals as goal

pub returns : goal.returns
returns c =
    let piece_names = λ (ns : List ℕ). map (λ (n : ℕ). n ∷ []) ns in
    let both = λ (xs ys : List (List ℕ)). xs ++ ys in
    c.in_ok-add_node_names.ensures
    ∙ ap₂ both
    (c.in_ok-add_cell_names-2.ensures
    ∙ ap₂ both
    (c.in_ok-add_piece_names-2.ensures
    ∙ ap₂ both
    (c.in_ok-add_cell_names.ensures
    ∙ ap₂ both (c.in_ok-add_piece_names.ensures ∙ ap₂ both (ap (map string_bytes) c.new-names.ensures.items) (ap piece_names c.requires.pieces)) (ap (map cell_word) c.requires.cells))
    (ap piece_names (c.maybe_pieces.ensures ∙ ap maybe_names c.puzzle-puzzle.ensures)))
    (ap (map cell_word) (c.maybe_cells.ensures ∙ ap (λ (p : PuzzleValue). p.maybe_cells) c.puzzle-puzzle.ensures)))
    refl
    ∙ names_are c.args.numbers.now
