-- The form of a packing as it lies tells its forms where it is carried: they are those of its parts, carried.
use Rattle.std.proofs.Common.{◌≡◌, ℕ, ◌+◌, ◌<◌, ◌==◌, List, [], ◌∷◌, length, slice_index, inl, inr, refl, sym, ap, subst, ◌∙◌, arith, eqb-true, eq-eqb}
use Rattle.std.specs.Cmp.{both_ways as same_tests}
use Rattle.std.proofs.lemmas.Bool.{cases_Bool, both_ways, cond-true, cond-false}
use Rattle.std.proofs.lemmas.List.{get_or-map, length-map}
use Rattle.poly_cells.specs.Coordinates.{Coordinates}
use Rattle.poly_cells.specs.Sets.{IsIn}
use Rattle.poly_cells.proofs.SetLemmas.{in_at, in_from_map}
use Rattle.poly_place.specs.Packings.{ChoiceValue}
use Rattle.poly_place.specs.Classes.{part_at}
use Rattle.poly_place.specs.Chosen.{place_in}
use Rattle.poly_place.specs.Forms.{AllAreBelow, AreBelow, first_form, form_by, least_form, least_from, lesser, parts_in}
use Rattle.poly_place.proofs.FormLemmas.{PartAlike, place_tells, same_form}
use Rattle.poly_distinct.specs.Form.{EachIsMove}
use Rattle.poly_distinct.proofs.NotedLemmas.{form_long}

place_low : (xs : List ℕ) (x : ℕ) → IsIn x xs → place_in xs x < length xs
place_low [] x i = absurd i
place_low (y ∷ ys) x i =
    elim (cases_Bool (y == x)) [
      | inl t ↦ let e = cond-true (y == x) 0 (1 + place_in ys x) t in omega (arith, e)
      | inr n ↦
          let e = cond-false (y == x) 0 (1 + place_in ys x) n in
          let rest = place_low ys x (elim i [ inl same ↦ absurd (both_ways (y == x) n (eq-eqb y x (sym same))) | inr j ↦ j ]) in
          omega (arith, e, rest)
    ]

module _ (parts : List ℕ) where
  abbrev form : List ℕ
  form = first_form parts

  told : (v : ℕ) → v < length parts → slice_index form v ≡ place_in (0 ∷ parts) (slice_index parts v)
  unfolding first_form
  told v lt = get_or-map (place_in (0 ∷ parts)) parts v 0 0 lt

  among : (v : ℕ) → v < length parts → IsIn (slice_index parts v) (0 ∷ parts)
  among v lt = inr (in_at parts v 0 lt)

  alike : (g : List ℕ) → AreBelow (length parts) g → PartAlike g (slice_index form) (slice_index parts)
  alike g low = record {
    empty = λ v i.
        let lt = low v i in
        same_tests (slice_index form v == 0) (slice_index parts v == 0)
        (λ t. eq-eqb (slice_index parts v) 0 (place_tells (0 ∷ parts) (slice_index parts v) 0 (among v lt) (inl refl) (sym (told v lt) ∙ eqb-true (slice_index form v) 0 t)))
        (λ t. eq-eqb (slice_index form v) 0 (told v lt ∙ ap (place_in (0 ∷ parts)) (eqb-true (slice_index parts v) 0 t)));
    parts = λ v w i j.
        let lt = low v i in
        let lu = low w j in
        same_tests (slice_index form v == slice_index form w) (slice_index parts v == slice_index parts w)
        (λ t.
        eq-eqb (slice_index parts v) (slice_index parts w)
        (place_tells (0 ∷ parts) (slice_index parts v) (slice_index parts w) (among v lt) (among w lu) (sym (told v lt) ∙ eqb-true (slice_index form v) (slice_index form w) t ∙ told w lu)))
        (λ t. eq-eqb (slice_index form v) (slice_index form w) (told v lt ∙ ap (place_in (0 ∷ parts)) (eqb-true (slice_index parts v) (slice_index parts w) t) ∙ sym (told w lu)));
  }

  same_by : (g : List ℕ) → AreBelow (length parts) g → form_by form g ≡ form_by parts g
  same_by g low = same_form g (slice_index form) (slice_index parts) (alike g low)

  same_from : (best : List ℕ) (gs : List (List ℕ)) → AllAreBelow (length parts) gs → least_from form best gs ≡ least_from parts best gs
  unfolding least_from
  same_from best [] low = refl
  same_from best (g ∷ gs) low =
      ap (λ (f : List ℕ). least_from form (lesser f best) gs) (same_by g (low g (inl refl))) ∙ same_from (lesser (form_by parts g) best) gs (λ h i. low h (inr i))

  below : AreBelow (length form + 1) form
  unfolding first_form
  below k i =
      let x = in_from_map (place_in (0 ∷ parts)) k parts i in
      let low = place_low (0 ∷ parts) x.0 (inr x.1) in
      let long = form_long parts in
      let e = x.2 in
      omega (arith, low, long, e)

  -- ---- a list that is that form

  module _ (fs : List ℕ) (is : fs ≡ least_form parts []) where
    is_form : fs ≡ form
    unfolding least_from
    is_form = is

    pub form_below : AreBelow (length fs + 1) fs
    form_below = subst (λ (xs : List ℕ). AreBelow (length xs + 1) xs) (sym is_form) below

    pub form_as_long : length fs ≡ length parts
    form_as_long = ap (λ (xs : List ℕ). length xs) is_form ∙ form_long parts

    pub least_told : (gs : List (List ℕ)) → EachIsMove (length parts) gs → least_from fs fs gs ≡ least_form parts gs
    least_told gs all = ap (λ (xs : List ℕ). least_from xs xs gs) is_form ∙ same_from form gs (λ g i. (all g i).below)

pub parts_long : (region : List Coordinates) (cs : List ChoiceValue) → length (parts_in region cs) ≡ length region
parts_long region cs = length-map region (part_at cs)
