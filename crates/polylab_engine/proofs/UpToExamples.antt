-- The examples of specs/UpTo.antt, computed.
use Rattle.std.proofs.Common.{◌≡◌, [], ◌∷◌, ◌++◌, Some, None, true, false, codes, refl}
use Rattle.std.specs.Fmt.{digits}
use Rattle.text_lines.specs.Writing.{line_text, text_of}
use Rattle.poly_cells.specs.Coordinates.{coordinates}
use Rattle.poly_place.specs.declared.alike.Group.TheVariants.{Rotations, Symmetries}
use Rattle.poly_place.specs.Packings.{a_piece, a_cell}
use Rattle.polylab_engine.specs.UpTo.{class_line, comment_lines}

its_classes : line_text (class_line Symmetries 240) ≡ codes "symmetries 240" ++ 10 ∷ []
unfolding digits
its_classes = refl

-- at the piece Z
its_comment
    : text_of (comment_lines Rotations (Some (a_piece 90)) (Some 24) true)
    ≡ codes "# up to rotations" ++ 10 ∷ codes "# anchor Z" ++ 10 ∷ codes "# packings for each cover 24" ++ 10 ∷ codes "# no two covers are alike" ++ 10 ∷ []
unfolding digits
its_comment = refl

-- at the cell 0 10 31, where covers don't all stand for as many
other_comment
    : text_of (comment_lines Symmetries (Some (a_cell (coordinates 0 10 31))) None false)
    ≡ codes "# up to symmetries" ++ 10 ∷ codes "# anchor 0av" ++ 10 ∷ []
other_comment = refl
