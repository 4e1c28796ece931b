-- The example of specs/Labelled.antt; and a puzzle in which other pieces don't differ.
use Rattle.std.proofs.Common.{◌≡◌, ℕ, List, [], ◌∷◌, map, inl, inr, refl, sym, ap, subst, ◌∙◌, arith, pos}
use Rattle.poly_cells.specs.Coordinates.{Coordinates, coordinates}
use Rattle.poly_cells.specs.Points.{Point, point, point_at, translated}
use Rattle.poly_cells.specs.Symmetries.{matrix, is_rotation, sent_by}
use Rattle.poly_cells.specs.Sets.{IsIn, in_order}
use Rattle.poly_cells.specs.Shapes.{normal, turned}
use Rattle.poly_cells.specs.Images.{IsImage}
use Rattle.poly_texts.specs.Puzzle.{pieces_of, equal_names, copy_symbols}
use Rattle.poly_place.specs.declared.alike.Group.TheVariants.{Rotations}
use Rattle.poly_place.specs.Packings.{ChoiceValue, choice_with, IsPacking}
use Rattle.poly_place.specs.Chosen.{is_among}
use Rattle.poly_place.specs.ClassCount.{image_in, carries, are_alike, class_count}
use Rattle.poly_place.specs.Labelled.{packing_with, AreAlikeByName, OthersDiffer}
use Rattle.poly_place.proofs.CarryLemmas.{nothing, image_neutral}
use Rattle.poly_place.proofs.ChosenLemmas.{among_from_in}
use Rattle.poly_place.proofs.PackingExamples.{pair, one_cell, row_of_two, equals}

-- the cell 1 0 0 alone
abbrev pub next_cell : List Coordinates
next_cell = coordinates 1 0 0 ∷ []

-- A 000, B 100
abbrev pub in_turn : List ChoiceValue
in_turn = choice_with 65 one_cell ∷ choice_with 66 next_cell ∷ []

-- A 100, B 000
abbrev pub swapped : List ChoiceValue
swapped = choice_with 65 next_cell ∷ choice_with 66 one_cell ∷ []

-- equal pieces are in order in a packing of the puzzle
not_in_order : IsPacking equals (is_among swapped) → ⊥
unfolding equal_names
not_in_order k =
    let less = k.ordered (choice_with 65 next_cell) (choice_with 66 one_cell) (among_from_in swapped (choice_with 65 next_cell) (inl refl)) (among_from_in swapped (choice_with 66 one_cell) (inr (inl refl))) (inl refl) in
    cc

-- half a turn about y, and then a translation by 1 0 0
abbrev shift : Point
shift = point_at (pos 1) (pos 0) (pos 0)

first_sent : point (coordinates 1 0 0) ≡ translated shift (sent_by 5 (point (coordinates 0 0 0)))
unfolding matrix
first_sent = refl

second_sent : point (coordinates 0 0 0) ≡ translated shift (sent_by 5 (point (coordinates 1 0 0)))
unfolding matrix
second_sent = refl

only : {X : Type 0} (x y : X) → IsIn x (y ∷ []) → x ≡ y
only x y (inl e) = e
only x y (inr none) = absurd none

to_next : IsImage 5 shift one_cell next_cell
to_next = record {
  onto = λ w i. (coordinates 0 0 0, inl refl, ap point (only w (coordinates 1 0 0) i) ∙ first_sent);
  into = λ v i. (coordinates 1 0 0, inl refl, first_sent ∙ ap (λ (u : Coordinates). translated shift (sent_by 5 (point u))) (sym (only v (coordinates 0 0 0) i)));
}

from_next : IsImage 5 shift next_cell one_cell
from_next = record {
  onto = λ w i. (coordinates 1 0 0, inl refl, ap point (only w (coordinates 0 0 0) i) ∙ second_sent);
  into = λ v i. (coordinates 0 0 0, inl refl, second_sent ∙ ap (λ (u : Coordinates). translated shift (sent_by 5 (point u))) (sym (only v (coordinates 1 0 0) i)));
}

row_turned : IsImage 5 shift row_of_two row_of_two
row_turned = record {
  onto = λ w i. elim i [
    | inl e ↦ (coordinates 1 0 0, inr (inl refl), ap point e ∙ second_sent)
    | inr j ↦ (coordinates 0 0 0, inl refl, ap point (only w (coordinates 1 0 0) j) ∙ first_sent)
  ];
  into = λ v i. elim i [
    | inl e ↦ (coordinates 1 0 0, inr (inl refl), first_sent ∙ ap (λ (u : Coordinates). translated shift (sent_by 5 (point u))) (sym e))
    | inr j ↦ (coordinates 0 0 0, inl refl, second_sent ∙ ap (λ (u : Coordinates). translated shift (sent_by 5 (point u))) (sym (only v (coordinates 1 0 0) j)))
  ];
}

-- half a turn carries each piece of the one onto that of the other
by_half_a_turn : AreAlikeByName Rotations (packing_with equals in_turn) (packing_with equals swapped)
unfolding is_rotation matrix
by_half_a_turn = record {
  symmetry = 5;
  limit = omega arith;
  member = refl;
  by = shift;
  carried = record {
    region = row_turned;
    optional = λ v w i s. refl;
    forth = λ c i. elim i [
      | inl e ↦ (choice_with 65 next_cell, inl refl, ap (λ (d : ChoiceValue). d.name) (sym e), subst (λ (d : ChoiceValue). IsImage 5 shift d.cells next_cell) (sym e) to_next)
      | inr j ↦
          let e = only c (choice_with 66 next_cell) j in
          (choice_with 66 one_cell, inr (inl refl), ap (λ (d : ChoiceValue). d.name) (sym e), subst (λ (d : ChoiceValue). IsImage 5 shift d.cells one_cell) (sym e) from_next)
    ];
    back = λ c i. elim i [
      | inl e ↦ (choice_with 65 one_cell, inl refl, ap (λ (d : ChoiceValue). d.name) (sym e), subst (λ (d : ChoiceValue). IsImage 5 shift one_cell d.cells) (sym e) to_next)
      | inr j ↦
          let e = only c (choice_with 66 one_cell) j in
          (choice_with 66 next_cell, inr (inl refl), ap (λ (d : ChoiceValue). d.name) (sym e), subst (λ (d : ChoiceValue). IsImage 5 shift next_cell d.cells) (sym e) from_next)
    ];
  };
}

-- so both are of one class
pub one_class : class_count (are_alike Rotations) (map (packing_with equals) (in_turn ∷ swapped ∷ [])) ≡ 1
unfolding copy_symbols class_count are_alike carries image_in matrix is_rotation turned normal in_order
one_class = refl

-- all pieces of the puzzle are equal, so no others are one shape
others_differ : OthersDiffer equals
unfolding pieces_of equal_names
others_differ q r n d i j low image = inr (65 ∷ 66 ∷ [], inl refl, named q i, named r j)
  where
    named : (t : ℕ × List Coordinates) → IsIn t (pieces_of equals) → IsIn (t.0) (65 ∷ 66 ∷ [])
    named t (inl e) = inl (ap (λ (u : ℕ × List Coordinates). u.0) e)
    named t (inr (inl e)) = inr (inl (ap (λ (u : ℕ × List Coordinates). u.0) e))
    named t (inr (inr none)) = absurd none

-- the pieces A and B of one cell each, where they aren't equal, don't differ
alike_pieces : OthersDiffer pair → ⊥
unfolding pieces_of equal_names
alike_pieces differ =
    elim (differ (65, one_cell) (66, one_cell) 0 nothing (inl refl) (inr (inl refl)) (omega arith) (image_neutral one_cell)) [
      | inl same ↦ absurd (omega (arith, same))
      | inr g ↦ absurd g.1
    ]
