-- The example of specs/Counts.antt, computed; a puzzle with one packing; and one with a spare copy, whose number of packings is a sum.
use Rattle.std.proofs.Common.{◌≡◌, ℕ, Bool, true, false, cond, List, [], ◌∷◌, inl, inr, refl, sym, ap, ap₂, subst, ◌∙◌, arith}
use Rattle.std.specs.Cmp.{both_ways as same_tests}
use Rattle.std.specs.List.Sorted.{IsStrictlySortedBy}
use Rattle.std.proofs.lemmas.Bool.{and_parts}
use Rattle.poly_cells.specs.Coordinates.{Coordinates, coordinates, coordinates_cmp}
use Rattle.poly_cells.specs.Symmetries.{matrix, is_rotation}
use Rattle.poly_cells.specs.Sets.{IsIn}
use Rattle.poly_cells.proofs.SetLemmas.{same_members}
use Rattle.poly_cells.proofs.CoordinateLemmas.{coordinates_total}
use Rattle.poly_cells.proofs.CellTestLemmas.{in_from_has}
use Rattle.poly_cells.proofs.GroupLemmas.{in_from_rotation}
use Rattle.poly_texts.specs.declared.usage.Usage.TheVariants as usages
use Rattle.poly_texts.specs.Kinds.{form_of, kind_with}
use Rattle.poly_texts.specs.Puzzle.{PuzzleValue, IsPuzzle, puzzle_from, pieces_of, maybe_names, any_names, mirrored_names, equal_names, spare_names, has_name}
use Rattle.poly_place.specs.Packings.{ChoiceValue, choice_with, IsPlaced, IsPacking}
use Rattle.poly_place.specs.Chosen.{is_among}
use Rattle.poly_place.specs.Ranges.{fixed_without}
use Rattle.poly_place.specs.Counts.{AreAllPackings, IsPackingCount, spare_ends}
use Rattle.poly_place.proofs.CarryLemmas.{nothing, image_neutral}
use Rattle.poly_place.proofs.ChosenLemmas.{in_from_among, among_from_in}
use Rattle.poly_place.proofs.SumLemmas.{one_count, ranges_add_up}
use Rattle.poly_place.proofs.PackingExamples.{one_cell, one_rises, none_rise, one_limits, are_kinds}

-- the pieces A and B are equal, and C and D; B and D are spare
abbrev pub two_ranges : PuzzleValue
two_ranges = puzzle_from (kind_with (form_of usages.Copies false 1) (65 ∷ 66 ∷ []) one_cell ∷ kind_with (form_of usages.Copies false 1) (67 ∷ 68 ∷ []) one_cell ∷ []) one_cell []

pub four_ways : spare_ends two_ranges ≡ [] ∷ (68 ∷ []) ∷ (66 ∷ []) ∷ (66 ∷ 68 ∷ []) ∷ []
unfolding equal_names spare_names
four_ways = refl

-- a list that has a packing twice is no list of all packings
not_twice : (p : PuzzleValue) (cs : List ChoiceValue) → AreAllPackings p (cs ∷ cs ∷ []) → ⊥
not_twice p cs a = a.once.0 cs (inl refl) (λ c. refl)

-- ---- one piece of one cell, in a region of one cell

-- the equal pieces A and B of one cell each, of which B is spare, in a region of one cell
abbrev ranged : PuzzleValue
ranged = puzzle_from (kind_with (form_of usages.Copies false 1) (65 ∷ 66 ∷ []) one_cell ∷ []) one_cell []

is_ranged : IsPuzzle ranged
unfolding pieces_of
is_ranged = record {
  kinds_are = are_kinds 1 (omega arith);
  new = refl;
  some_piece = omega arith;
  few_pieces = omega arith;
  some_cell = omega arith;
  few = omega arith;
  rises = one_rises;
  limits = one_limits;
  maybe_rises = none_rise;
  maybe_within = refl;
  required = refl;
}

-- A alone
abbrev single : PuzzleValue
single = fixed_without (66 ∷ []) ranged

-- A and B, both of which have to be used
abbrev double : PuzzleValue
double = fixed_without [] ranged

-- what lies there is the cell
lies_there : (cells : List Coordinates) → IsStrictlySortedBy coordinates_cmp cells → IsIn (coordinates 0 0 0) cells → ((v : Coordinates) → IsIn v cells → IsIn v one_cell) → cells ≡ one_cell
lies_there cells rises some inside =
    same_members coordinates_total cells one_cell rises one_rises inside
    (λ v i. elim i [ inl e ↦ subst (λ (w : Coordinates). IsIn w cells) (sym e) some | inr none ↦ absurd none ])

has_it : (cells : List Coordinates) (v : Coordinates) → IsIn v cells → ((w : Coordinates) → IsIn w cells → IsIn w one_cell) → IsIn (coordinates 0 0 0) cells
has_it cells v i inside = elim (inside v i) [ inl e ↦ subst (λ (w : Coordinates). IsIn w cells) e i | inr none ↦ absurd none ]

-- the one choice
abbrev first : ChoiceValue
first = choice_with 65 one_cell

first_placed : IsPlaced single first
unfolding pieces_of maybe_names any_names mirrored_names equal_names spare_names is_rotation matrix
first_placed = record {
  piece = one_cell;
  named = inl refl;
  rises = one_rises;
  placed = record { symmetry = 0; by = nothing; turned = in_from_rotation 0 (omega arith) refl; image = image_neutral one_cell; inside = λ v i. i };
  useful = inl refl;
}

is_first : (c : ChoiceValue) → is_among (first ∷ []) c ≡ true → c ≡ first
is_first c t = elim (in_from_among (first ∷ []) c t) [ inl e ↦ e | inr none ↦ absurd none ]

first_packs : IsPacking single (is_among (first ∷ []))
unfolding pieces_of equal_names
first_packs = record {
  placed = λ c t. subst (λ (d : ChoiceValue). IsPlaced single d) (sym (is_first c t)) first_placed;
  once = λ c d s t one e. is_first c s ∙ sym (is_first d t);
  used = λ n i needed sure. elim i [ inl e ↦ (first, among_from_in (first ∷ []) first (inl refl), sym e) | inr none ↦ absurd none ];
  filled = λ v must. (first, among_from_in (first ∷ []) first (inl refl), in_from_has one_cell v (and_parts _ _ must).0);
  apart = λ v c d s t i j. is_first c s ∙ sym (is_first d t);
  ordered = λ c d s t i. absurd i;
  in_turn = λ m n i u. absurd i;
}

-- each choice that may be made for A alone
only_first : (c : ChoiceValue) → IsPlaced single c → c ≡ first
unfolding pieces_of
only_first c h =
    elim h.named [
      | inl e ↦
          let v = h.placed.image.into (coordinates 0 0 0) (subst (λ (vs : List Coordinates). IsIn (coordinates 0 0 0) vs) (sym (ap (λ (q : ℕ × List Coordinates). q.1) e)) (inl refl)) in
          ap₂ choice_with (ap (λ (q : ℕ × List Coordinates). q.0) e) (lies_there c.cells h.rises (has_it c.cells v.0 v.1 h.placed.inside) h.placed.inside)
      | inr none ↦ absurd none
    ]

one_packing : IsPackingCount single 1
unfolding pieces_of maybe_names any_names spare_names
one_packing = (
  (first ∷ []) ∷ [],
  record {
    sound = λ cs i. elim i [ inl e ↦ subst (λ (ds : List ChoiceValue). IsPacking single (is_among ds)) (sym e) first_packs | inr none ↦ absurd none ];
    complete = λ chosen k. (
      first ∷ [],
      inl refl,
      λ c. same_tests (is_among (first ∷ []) c) (chosen c)
          (λ t.
          let u = k.used 65 (inl refl) refl refl in
          subst (λ (d : ChoiceValue). chosen d ≡ true) (only_first u.0 (k.placed u.0 u.1) ∙ sym (is_first c t)) u.1)
          (λ t. among_from_in (first ∷ []) c (inl (only_first c (k.placed c t)))),
    );
    once = ((λ q i s. i), tt);
  },
  refl,
)

-- it has no other number of packings
not_two : IsPackingCount single 2 → ⊥
not_two two = let e = one_count single 1 2 one_packing two in absurd (omega (arith, e))

-- ---- a sum

-- where A and B both have to be used they meet
none_packs : (chosen : ChoiceValue → Bool) → IsPacking double chosen → ⊥
unfolding pieces_of maybe_names any_names spare_names
none_packs chosen k =
    let c = k.used 65 (inl refl) refl refl in
    let d = k.used 66 (inr (inl refl)) refl refl in
    let same = k.apart (coordinates 0 0 0) c.0 d.0 c.1 d.1 (laid c.0 (k.placed c.0 c.1)) (laid d.0 (k.placed d.0 d.1)) in
    let e = sym c.2 ∙ ap (λ (b : ChoiceValue). b.name) same ∙ d.2 in
    absurd (omega (arith, e))
  where
    laid : (c : ChoiceValue) → IsPlaced double c → IsIn (coordinates 0 0 0) c.cells
    laid c h =
        let piece : IsIn (coordinates 0 0 0) h.piece = elim h.named [
          | inl e ↦ subst (λ (vs : List Coordinates). IsIn (coordinates 0 0 0) vs) (sym (ap (λ (q : ℕ × List Coordinates). q.1) e)) (inl refl)
          | inr r ↦ elim r [
            | inl e ↦ subst (λ (vs : List Coordinates). IsIn (coordinates 0 0 0) vs) (sym (ap (λ (q : ℕ × List Coordinates). q.1) e)) (inl refl)
            | inr none ↦ absurd none
          ]
        ] in
        let v = h.placed.image.into (coordinates 0 0 0) piece in
        has_it c.cells v.0 v.1 h.placed.inside

no_packing : IsPackingCount double 0
no_packing = ([], record { sound = λ cs i. absurd i; complete = λ chosen k. absurd (none_packs chosen k); once = tt }, refl)

-- how many packings there are where these copies are left out
abbrev without : List ℕ → ℕ
without gone = cond (has_name gone 66) 1 0

-- with both pieces there is no packing, and without B there is one: together one
sum_is_one : IsPackingCount ranged 1
unfolding equal_names spare_names
sum_is_one = (ranges_add_up ranged without is_ranged counted 1).1 refl
  where
    counted : (gone : List ℕ) → IsIn gone (spare_ends ranged) → IsPackingCount (fixed_without gone ranged) (without gone)
    counted gone i =
        elim i [
          | inl e ↦ subst (λ (g : List ℕ). IsPackingCount (fixed_without g ranged) (without g)) (sym e) no_packing
          | inr r ↦ elim r [
            | inl e ↦ subst (λ (g : List ℕ). IsPackingCount (fixed_without g ranged) (without g)) (sym e) one_packing
            | inr none ↦ absurd none
          ]
        ]
