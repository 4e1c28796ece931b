-- The examples of specs/Classes.antt, specs/Forms.antt and specs/FormTables.antt, computed.
use Rattle.std.proofs.Common.{◌≡◌, List, [], ◌∷◌, map, inl, inr, refl, sym, subst, arith}
use Rattle.poly_cells.specs.Coordinates.{Coordinates, coordinates, IsInGrid, coordinates_cmp}
use Rattle.poly_cells.specs.Symmetries.{matrix, is_rotation}
use Rattle.poly_cells.specs.Sets.{in_order}
use Rattle.poly_cells.specs.Shapes.{IsShape, normal, turned}
use Rattle.poly_cells.proofs.RegionLemmas.{symmetry_from_forms}
use Rattle.poly_cells.proofs.SetLemmas.{rising_cons, rising_none}
use Rattle.poly_place.specs.declared.alike.Group.TheVariants.{Rotations}
use Rattle.poly_place.specs.Packings.{choice_with}
use Rattle.poly_place.specs.Chosen.{PackingValue}
use Rattle.poly_place.specs.Classes.{AreAlike, part_at}
use Rattle.poly_place.specs.ClassCount.{image_in, carries, are_alike, class_count}
use Rattle.poly_place.specs.Forms.{first_form}
use Rattle.poly_place.specs.FormTables.{firsts_from}
use Rattle.poly_place.proofs.FormLemmas.{alike_form}
use Rattle.poly_place.proofs.ClassLemmas.{alike}

-- a row of three cells
abbrev row : List Coordinates
row = coordinates 0 0 0 ∷ coordinates 1 0 0 ∷ coordinates 2 0 0 ∷ []

-- the packings of the row that read AAB and BAA
abbrev left : PackingValue
left = record { region = row; maybe_cells = []; placements = choice_with 65 (coordinates 0 0 0 ∷ coordinates 1 0 0 ∷ []) ∷ choice_with 66 (coordinates 2 0 0 ∷ []) ∷ []; symbols = [] }

abbrev right : PackingValue
right = record { region = row; maybe_cells = []; placements = choice_with 65 (coordinates 1 0 0 ∷ coordinates 2 0 0 ∷ []) ∷ choice_with 66 (coordinates 0 0 0 ∷ []) ∷ []; symbols = [] }

its_parts : map (part_at left.placements) row ≡ 2 ∷ 2 ∷ 1 ∷ []
its_parts = refl

-- rotation by half a turn about y, which is symmetry 5, brings 0 0 0 to 2 0 0
turned_about : map (image_in row 5) row ≡ coordinates 2 0 0 ∷ coordinates 1 0 0 ∷ coordinates 0 0 0 ∷ []
unfolding image_in matrix
turned_about = refl

row_is_shape : IsShape row
row_is_shape = record {
  some = omega arith;
  rises =
      rising_cons coordinates_cmp (coordinates 0 0 0) (coordinates 1 0 0 ∷ coordinates 2 0 0 ∷ [])
      (λ v i. elim i [ inl e ↦ subst (λ w. coordinates_cmp (coordinates 0 0 0) w ≡ coordinates_cmp (coordinates 0 0 0) (coordinates 1 0 0)) (sym e) refl | inr j ↦ elim j [ inl e ↦ subst (λ w. coordinates_cmp (coordinates 0 0 0) w ≡ coordinates_cmp (coordinates 0 0 0) (coordinates 1 0 0)) (sym e) refl | inr none ↦ absurd none ] ])
      (rising_cons coordinates_cmp (coordinates 1 0 0) (coordinates 2 0 0 ∷ [])
      (λ v i. elim i [ inl e ↦ subst (λ w. coordinates_cmp (coordinates 1 0 0) w ≡ coordinates_cmp (coordinates 0 0 0) (coordinates 1 0 0)) (sym e) refl | inr none ↦ absurd none ])
      (rising_cons coordinates_cmp (coordinates 2 0 0) [] (λ v i. absurd i) (rising_none coordinates_cmp)));
  limits = λ v i. elim i [
    | inl e ↦ subst IsInGrid (sym e) (record { x_in = omega arith; y_in = omega arith; z_in = omega arith })
    | inr j ↦ elim j [
      | inl e ↦ subst IsInGrid (sym e) (record { x_in = omega arith; y_in = omega arith; z_in = omega arith })
      | inr k ↦ elim k [ inl e ↦ subst IsInGrid (sym e) (record { x_in = omega arith; y_in = omega arith; z_in = omega arith }) | inr none ↦ absurd none ]
    ]
  ];
}

both_are_alike : AreAlike Rotations left right
unfolding image_in matrix is_rotation first_form turned normal in_order
both_are_alike =
    alike Rotations left right row_is_shape refl refl (
      5,
      record { limit = omega arith; member = refl; symmetry = symmetry_from_forms 5 row row_is_shape refl; optional = refl },
      alike_form row (part_at left.placements) (λ v. part_at right.placements (image_in row 5 v)) refl,
    )

a_form : first_form (2 ∷ 0 ∷ 2 ∷ 1 ∷ []) ≡ 1 ∷ 0 ∷ 1 ∷ 4 ∷ []
unfolding first_form
a_form = refl

its_table : firsts_from 0 (2 ∷ 0 ∷ 2 ∷ 1 ∷ []) (0 ∷ 0 ∷ 0 ∷ []) ≡ 2 ∷ 4 ∷ 1 ∷ []
its_table = refl

-- the packing of the row that reads ABC
abbrev apart : PackingValue
apart = record { region = row; maybe_cells = []; placements = choice_with 65 (coordinates 0 0 0 ∷ []) ∷ choice_with 66 (coordinates 1 0 0 ∷ []) ∷ choice_with 67 (coordinates 2 0 0 ∷ []) ∷ []; symbols = [] }

two_classes : class_count (are_alike Rotations) (left ∷ right ∷ apart ∷ []) ≡ 2
unfolding class_count are_alike carries image_in matrix is_rotation turned normal in_order
two_classes = refl
