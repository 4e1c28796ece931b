-- The example of lines and the puzzle that they say, computed.
use Rattle.std.proofs.Common.{true, ◌≡◌, [], ◌∷◌, false, codes, refl}
use Rattle.poly_cells.specs.Coordinates.{coordinates}
use Rattle.poly_cells.specs.Sets.{in_order}
use Rattle.poly_cells.specs.Shapes.{normal}
use Rattle.poly_texts.specs.declared.usage.Usage.TheVariants as usages
use Rattle.poly_texts.specs.Usages.{pieces_named}
use Rattle.poly_texts.specs.Kinds.{form_of, kind_with}
use Rattle.poly_texts.specs.Puzzle.{puzzle_from}
use Rattle.poly_texts.specs.Plain.{plain_piece, plain_words}
use Rattle.poly_texts.specs.Grammar.{kind, box, cut, line_words, is_line, puzzle_by}

words_of_a_piece : line_words (kind (kind_with (form_of usages.Once false 0) (65 ∷ []) (coordinates 1 0 0 ∷ coordinates 2 10 31 ∷ []))) ≡ codes "piece" ∷ codes "A" ∷ codes "100" ∷ codes "2av" ∷ []
words_of_a_piece = refl

said_together : puzzle_by (kind (kind_with (form_of usages.Once false 0) (65 ∷ []) (coordinates 1 0 0 ∷ coordinates 2 0 0 ∷ [])) ∷ box 2 2 1 ∷ cut (coordinates 0 0 0 ∷ coordinates 1 1 0 ∷ []) ∷ []) ≡
    puzzle_from (kind_with (form_of usages.Once false 0) (65 ∷ []) (coordinates 0 0 0 ∷ coordinates 1 0 0 ∷ []) ∷ []) (coordinates 0 1 0 ∷ coordinates 1 0 0 ∷ []) []
unfolding in_order normal
said_together = refl

words_of_a_range : line_words (kind (kind_with (form_of usages.Copies true 1) (65 ∷ 66 ∷ 67 ∷ []) (coordinates 0 0 0 ∷ []))) ≡ codes "mirror" ∷ codes "copies" ∷ codes "AB+C" ∷ codes "000" ∷ []
words_of_a_range = refl

words_of_copies : line_words (kind (kind_with (form_of usages.Copies false 0) (65 ∷ 66 ∷ []) (coordinates 0 0 0 ∷ []))) ≡ codes "copies" ∷ codes "AB" ∷ codes "000" ∷ []
words_of_copies = refl

more_spare_than_there : is_line (kind (kind_with (form_of usages.Copies false 3) (65 ∷ 66 ∷ []) (coordinates 0 0 0 ∷ []))) ≡ false
more_spare_than_there = refl

shown_by_two : pieces_named usages.Any (65 ∷ 66 ∷ []) ≡ 65 ∷ []
shown_by_two = refl

two_pieces : pieces_named usages.Copies (65 ∷ 66 ∷ []) ≡ 65 ∷ 66 ∷ []
two_pieces = refl

words_of_a_plain_line : plain_words (plain_piece true 65 (coordinates 0 0 0 ∷ [])) ≡ codes "maybe" ∷ codes "piece" ∷ codes "A" ∷ codes "000" ∷ []
words_of_a_plain_line = refl
