-- The packing that is made of an exact cover is one, and stands for it.
use Rattle.std.proofs.Common.{◌≡◌, ℕ, ◌≤◌, List, get_or, Bool, true, nat_le, sym, ap, subst, ◌∙◌, nat_cmp, IsPermutation, IsSorted}
use Rattle.std.proofs.lemmas.Bool.{leb-true, le-leb}
use Rattle.std.specs.List.{dedup}
use Rattle.std.proofs.lemmas.Map.Lookups.{exact_unsigned}
use Rattle.std.proofs.lemmas.List.{map-id}
use Rattle.std.proofs.lemmas.Cmp.{nat_cmp_total}
use Rattle.std.specs.Ordering.{eq_by_cmp}
use Rattle.poly_cells.specs.Sets.{IsIn, IsExact, in_order}
use Rattle.poly_cells.proofs.SetLemmas.{in_map, in_from_map, in_from_order, in_to_order, in_at}
use Rattle.poly_cells.proofs.SortLemmas.{after_sort}
use Rattle.poly_texts.specs.Puzzle.{PuzzleValue, IsPuzzle}
use Rattle.shared_words.specs.Lists.{has}
use Rattle.cover_problem.specs.ExactCover.{IsExactCover}
use Rattle.poly_place.specs.Packings.{ChoiceValue, IsPacking, SetStandsFor, choice_at, laying_count, packing_problem}
use Rattle.poly_place.specs.Chosen.{same_choice, is_among, ArePositive, laying, chosen_by}
use Rattle.poly_place.proofs.DistinctLemmas.{in_from_name, name_from_in}
use Rattle.poly_place.proofs.PackingLemmas.{same_choice_is, same_choice_itself, count_back, stands_from, are_packings}
use Rattle.poly_place.proofs.StandLemmas.{LaysWhat}
use Rattle.poly_cells.proofs.MemberLemmas.{some_passes, passes_some, in_filter, in_from_filter}

pub nat_exact : IsExact nat_cmp
nat_exact m n h = exact_unsigned m n h

-- ---- choices of a list

pub in_from_among : (cs : List ChoiceValue) (c : ChoiceValue) → is_among cs c ≡ true → IsIn c cs
in_from_among cs c h = let d = some_passes (same_choice c) cs h in subst (λ (e : ChoiceValue). IsIn e cs) (sym (same_choice_is c d.0 d.2)) d.1

pub among_from_in : (cs : List ChoiceValue) (c : ChoiceValue) → IsIn c cs → is_among cs c ≡ true
among_from_in cs c i = passes_some (same_choice c) c cs i (same_choice_itself c)

-- ---- the choices of options

-- the numbers of options that lay a piece
abbrev lays : PuzzleValue → ℕ → Bool
lays p o = nat_le o (laying_count p)

pub in_laying : (p : PuzzleValue) (path : List ℕ) (o : ℕ) → IsIn o (laying p path) → IsIn o path × (o ≤ laying_count p)
in_laying p path o i =
    let kept = in_from_filter (lays p) o (in_order nat_cmp path) i in
    (in_from_order nat_cmp o path kept.0, leb-true o (laying_count p) kept.1)

cover_lays : (p : PuzzleValue) (path : List ℕ) → IsExactCover (packing_problem p) (has path) → LaysWhat p (has path) (is_among (chosen_by p path))
cover_lays p path e = record {
  within = λ o h. let at = e.options o h in (at.0, count_back p o at.1);
  forth = λ o h le.
      let there = in_filter (lays p) o (in_order nat_cmp path) (in_to_order nat_exact o path (in_from_name path o h)) (le-leb o (laying_count p) le) in
      passes_some (same_choice (choice_at p o)) (choice_at p o) (chosen_by p path) (in_map (choice_at p) o (laying p path) there) (same_choice_itself (choice_at p o));
  back = λ c h.
      let d = some_passes (same_choice c) (chosen_by p path) h in
      let o = in_from_map (choice_at p) d.0 (laying p path) d.1 in
      let there = in_laying p path o.0 o.1 in
      (o.0, name_from_in path o.0 there.0, there.1, sym o.2 ∙ sym (same_choice_is c d.0 d.2));
}

pub cover_stands : (p : PuzzleValue) → IsPuzzle p → (path : List ℕ) → IsExactCover (packing_problem p) (has path) → SetStandsFor p (has path) (is_among (chosen_by p path))
cover_stands p z path e = stands_from p z (has path) (is_among (chosen_by p path)) (cover_lays p path e) e

pub cover_packs : (p : PuzzleValue) → IsPuzzle p → (path : List ℕ) → IsExactCover (packing_problem p) (has path) → IsPacking p (is_among (chosen_by p path))
cover_packs p z path e = (are_packings p z).packs (has path) (is_among (chosen_by p path)) (cover_stands p z path e) e

-- ---- the numbers in order

pub numbers_sorted : (E : ℕ → ℕ → Bool) → ((a b : ℕ) → E a b ≡ eq_by_cmp nat_cmp a b) → (xs ys zs : List ℕ) → IsPermutation xs ys → IsSorted nat_cmp ys → zs ≡ dedup E ys → zs ≡ in_order nat_cmp xs
numbers_sorted E ties xs ys zs p sorted is =
    sym (map-id zs) ∙ after_sort (λ (n : ℕ). n) nat_cmp_total nat_exact E ties xs ys zs p sorted is ∙ ap (in_order nat_cmp) (map-id xs)

-- each of them numbers a choice
pub numbered : (p : PuzzleValue) (path numbers : List ℕ) → IsExactCover (packing_problem p) (has path) → numbers ≡ in_order nat_cmp path → ArePositive numbers
numbered p path numbers e is i lt =
    let o = get_or numbers i 0 in
    let here : IsIn o (in_order nat_cmp path) = subst (λ (ns : List ℕ). IsIn o ns) is (in_at numbers i 0 lt) in
    (e.options o (name_from_in path o (in_from_order nat_cmp o path here))).0
