-- What is told of the pieces of a kind, computed.
use Rattle.std.proofs.Common.{◌≡◌, [], ◌∷◌, true, false, refl}
use Rattle.poly_cells.specs.Coordinates.{coordinates}
use Rattle.poly_texts.specs.declared.usage.Usage.TheVariants as usages
use Rattle.poly_texts.specs.Usages.{are_so_many, may_spare}
use Rattle.poly_texts.specs.Kinds.{KindValue, form_of, kind_with, kind_names, kind_pieces, kind_maybe, kind_any, kind_mirrored, kind_equal, kind_copies, kind_needed, kind_spare, is_unneeded}

-- `mirror copies AB+C 000 100`
abbrev two_or_three : KindValue
two_or_three = kind_with (form_of usages.Copies true 1) (65 ∷ 66 ∷ 67 ∷ []) (coordinates 0 0 0 ∷ coordinates 1 0 0 ∷ [])

three_pieces : kind_pieces two_or_three ≡
    (65, coordinates 0 0 0 ∷ coordinates 1 0 0 ∷ []) ∷ (66, coordinates 0 0 0 ∷ coordinates 1 0 0 ∷ []) ∷ (67, coordinates 0 0 0 ∷ coordinates 1 0 0 ∷ []) ∷ []
three_pieces = refl

all_are_mirrored : kind_mirrored two_or_three ≡ 65 ∷ 66 ∷ 67 ∷ []
all_are_mirrored = refl

one_group : kind_equal two_or_three ≡ (65 ∷ 66 ∷ 67 ∷ []) ∷ []
one_group = refl

the_last_is_spare : kind_spare two_or_three ≡ 67 ∷ []
the_last_is_spare = refl

the_first_are_needed : kind_needed two_or_three ≡ 65 ∷ 66 ∷ []
the_first_are_needed = refl

some_are_needed : is_unneeded two_or_three ≡ false
some_are_needed = refl

all_are_spare : is_unneeded (record two_or_three { spare = 3 }) ≡ true
all_are_spare = refl

-- `any piece AB 000`
abbrev any_number : KindValue
any_number = kind_with (form_of usages.Any false 0) (65 ∷ 66 ∷ []) (coordinates 0 0 0 ∷ [])

one_piece : kind_names any_number ≡ 65 ∷ []
one_piece = refl

shown_by_both : kind_copies any_number ≡ (65 ∷ 66 ∷ []) ∷ []
shown_by_both = refl

used_any_number_of_times : kind_any any_number ≡ 65 ∷ []
used_any_number_of_times = refl

not_left_out : kind_maybe any_number ≡ []
not_left_out = refl

no_group : kind_equal any_number ≡ []
no_group = refl

-- one piece has one symbol, and two or more equal ones have as many; only they may be spare
two_of_one : are_so_many usages.Once 2 ≡ false
two_of_one = refl

one_of_several : are_so_many usages.Copies 1 ≡ false
one_of_several = refl

no_spare_piece : may_spare usages.Maybe 1 1 ≡ false
no_spare_piece = refl
