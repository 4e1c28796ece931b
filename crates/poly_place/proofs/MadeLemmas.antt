-- What is made for a puzzle are the parts of its problem, which is within the limits exactly where there is room.
use Rattle.std.proofs.Common.{◌≡◌, ℕ, ◌+◌, ◌<◌, ◌≤◌, List, [], ◌∷◌, ◌++◌, map, filter, flat_map, length, Bool, cond, true, false, ◌&&◌, nat_le, refl, sym, ap, ap₂, subst, ◌∙◌, arith, sum_by, Result, Ok}
use Rattle.std.proofs.lemmas.Bool.{and_parts, and_from, both_ways, le-leb, false_from_ne_true, leb-true}
use Rattle.std.proofs.lemmas.List.{length-append, length-map, map-append, append_assoc}
use Rattle.std.specs.List.{list_all}
use Rattle.poly_cells.specs.Coordinates.{Coordinates}
use Rattle.poly_cells.specs.CellWords.{cell_word}
use Rattle.cover_problem.specs.Problem.{is_small, ProblemValue}
use Rattle.poly_texts.specs.Puzzle.{PuzzleValue, IsPuzzle, is_spare, maybe_names, equal_names}
use Rattle.poly_place.specs.Packings.{ChoiceValue, pairs, partings, leavings_of, leavings, leaving_option, every_choice, Thing, a_piece, a_cell, needed_things, other_things, things, thing_item, nodes, things_of, option_of, thing_name, packing_problem}
use Rattle.std.specs.Cmp.{both_ways as same_tests}
use Rattle.std.proofs.lemmas.List.Sums.{sum_by-cons, sum_by-append}
use Rattle.cover_problem.specs.declared.limits.TheConstants.{MOST_ITEMS, MOST_OPTIONS, MOST_ENTRIES}
use Rattle.text_lines.specs.declared.refusal.Refusal.{Refusal}
use Rattle.text_lines.specs.declared.refusal.Refusal.TheVariants as refusals
use Rattle.text_lines.specs.Answers.{IsFaultOf}
use Rattle.text_lines.proofs.ResultLemmas.{no_fault}
use Rattle.cover_problem.specs.Validation.{problem_from}
use Rattle.cover_problem.specs.declared.fault.Fault.{Fault}
use Rattle.cover_problem.proofs.ProblemLemmas.{made_again}
use Rattle.poly_place.specs.Compiled.{needed_names, filled_cells, left_from, left_out, left_items, leaving_entries, entries_of, has_room, has_room_beside}
use mathlib.Core.List.{map-map}
use Rattle.poly_place.proofs.CompiledLemmas.{is_problem}

-- ---- the names of the items

pub names_are : (p : PuzzleValue)
    → (((map (λ (n : ℕ). n ∷ []) (needed_names p) ++ map cell_word (filled_cells p)) ++ map (λ (n : ℕ). n ∷ []) (maybe_names p)) ++ map cell_word p.maybe_cells) ++ map thing_name (flat_map (nodes p) (pairs p))
    ≡ map thing_name (things p)
names_are p =
    ap (λ (xs : List (List ℕ)). xs ++ map thing_name trees)
    (append_assoc (map (λ (n : ℕ). n ∷ []) (needed_names p) ++ map cell_word (filled_cells p)) (map (λ (n : ℕ). n ∷ []) (maybe_names p)) (map cell_word p.maybe_cells)
    ∙ ap₂ (λ (xs ys : List (List ℕ)). xs ++ ys) (two (needed_names p) (filled_cells p)) (two (maybe_names p) p.maybe_cells))
    ∙ append_assoc (map thing_name (needed_things p)) (map thing_name (map a_piece (maybe_names p) ++ map a_cell p.maybe_cells)) (map thing_name trees)
    ∙ ap (λ (xs : List (List ℕ)). map thing_name (needed_things p) ++ xs) (sym (map-append thing_name (map a_piece (maybe_names p) ++ map a_cell p.maybe_cells) trees))
    ∙ ap (λ (xs : List Thing). map thing_name (needed_things p) ++ map thing_name xs) (append_assoc (map a_piece (maybe_names p)) (map a_cell p.maybe_cells) trees)
    ∙ sym (map-append thing_name (needed_things p) (other_things p))
  where
    trees : List Thing
    trees = flat_map (nodes p) (pairs p)

    two : (ns : List ℕ) (vs : List Coordinates) → map (λ (n : ℕ). n ∷ []) ns ++ map cell_word vs ≡ map thing_name (map a_piece ns ++ map a_cell vs)
    two ns vs = ap₂ (λ (xs ys : List (List ℕ)). xs ++ ys) (sym (map-map thing_name a_piece ns)) (sym (map-map thing_name a_cell vs)) ∙ sym (map-append thing_name (map a_piece ns) (map a_cell vs))

-- ---- what is made

entries_same : (p : PuzzleValue) (cs : List ChoiceValue) → sum_by length (map (option_of p) cs) + length (map (option_of p) cs) ≡ entries_of p cs
entries_same p [] = refl
entries_same p (c ∷ cs) =
    let rest = entries_same p cs in
    let same = length-map (things_of p c) (thing_item p) in
    let sum = sum_by-cons length (option_of p c) (map (option_of p) cs) in
    let all = sum_by-cons (λ (d : ChoiceValue). length (things_of p d) + 1) c cs in
    omega (arith, rest, same, sum, all)

-- ---- what is left out

abbrev kept : PuzzleValue → List (List ℕ × List ℕ) → List (List ℕ × List ℕ)
kept p qs = filter (λ (parts : List ℕ × List ℕ). list_all (is_spare p) (parts.1)) qs

abbrev ends : List (List ℕ × List ℕ) → List (List ℕ)
ends qs = map (λ (parts : List ℕ × List ℕ). parts.1) qs

abbrev longer : ℕ → List (List ℕ × List ℕ) → List (List ℕ × List ℕ)
longer n qs = map (λ (parts : List ℕ × List ℕ). (n ∷ parts.0, parts.1)) qs

same_ends : (p : PuzzleValue) (n : ℕ) (qs : List (List ℕ × List ℕ)) → ends (kept p (longer n qs)) ≡ ends (kept p qs)
same_ends p n [] = refl
same_ends p n (q ∷ qs) = by_test (list_all (is_spare p) (q.1)) (same_ends p n qs)
  where
    by_test : (b : Bool) → ends (kept p (longer n qs)) ≡ ends (kept p qs) → ends (cond b ((n ∷ q.0, q.1) ∷ kept p (longer n qs)) (kept p (longer n qs))) ≡ ends (cond b (q ∷ kept p qs) (kept p qs))
    by_test true rest = ap (λ (es : List (List ℕ)). q.1 ∷ es) rest
    by_test false rest = rest

one_group : (p : PuzzleValue) (g : List ℕ) → left_from (is_spare p) g ≡ ends (kept p (partings g))
one_group p [] = refl
one_group p (n ∷ ns) = by_test (list_all (is_spare p) (n ∷ ns)) (one_group p ns ∙ sym (same_ends p n (partings ns)))
  where
    by_test : (b : Bool) → left_from (is_spare p) ns ≡ ends (kept p (longer n (partings ns)))
        → cond b ((n ∷ ns) ∷ []) [] ++ left_from (is_spare p) ns ≡ ends (cond b (([], n ∷ ns) ∷ kept p (longer n (partings ns))) (kept p (longer n (partings ns))))
    by_test true rest = ap (λ (es : List (List ℕ)). (n ∷ ns) ∷ es) rest
    by_test false rest = rest

all_groups : (p : PuzzleValue) (gs : List (List ℕ)) → flat_map (left_from (is_spare p)) gs ≡ ends (flat_map (leavings_of p) gs)
all_groups p [] = refl
all_groups p (g ∷ gs) =
    ap₂ (λ (xs ys : List (List ℕ)). xs ++ ys) (one_group p g) (all_groups p gs)
    ∙ sym (map-append (λ (parts : List ℕ × List ℕ). parts.1) (leavings_of p g) (flat_map (leavings_of p) gs))

-- as the ends of the groups
pub left_out_is : (p : PuzzleValue) → left_out p ≡ map (λ (parts : List ℕ × List ℕ). parts.1) (leavings p)
unfolding leavings
left_out_is p = all_groups p (equal_names p)

pub leaving_options : (p : PuzzleValue) → map (left_items p) (left_out p) ≡ map (leaving_option p) (leavings p)
leaving_options p = ap (map (left_items p)) (left_out_is p) ∙ map-map (left_items p) (λ (parts : List ℕ × List ℕ). parts.1) (leavings p)

left_same : (p : PuzzleValue) (lefts : List (List ℕ)) → sum_by length (map (left_items p) lefts) + length (map (left_items p) lefts) ≡ leaving_entries lefts
left_same p [] = refl
left_same p (names ∷ lefts) =
    let rest = left_same p lefts in
    let first = length-map (map a_piece names) (thing_item p) in
    let second = length-map names a_piece in
    let sum = sum_by-cons length (left_items p names) (map (left_items p) lefts) in
    let all = sum_by-cons (λ (ns : List ℕ). length ns + 1) names lefts in
    omega (arith, rest, first, second, sum, all)

-- ---- how lists_long

module _ (p : PuzzleValue) where
  item_words : List (List ℕ)
  item_words = map thing_name (things p)

  option_lists : List (List ℕ)
  option_lists = map (option_of p) (every_choice p) ++ map (leaving_option p) (leavings p)

  words_long : length item_words ≡ length (things p)
  unfolding item_words
  words_long = length-map (things p) thing_name

  lists_long : length option_lists ≡ length (every_choice p) + length (left_out p)
  unfolding option_lists
  lists_long =
      let all = length-append (map (option_of p) (every_choice p)) (map (leaving_option p) (leavings p)) in
      let first = length-map (every_choice p) (option_of p) in
      let second = ap length (leaving_options p) in
      let third = length-map (left_out p) (left_items p) in
      omega (arith, all, first, second, third)

  entries_all : sum_by length option_lists + length option_lists ≡ entries_of p (every_choice p) + leaving_entries (left_out p)
  unfolding option_lists
  entries_all =
      let all = length-append (map (option_of p) (every_choice p)) (map (leaving_option p) (leavings p)) in
      let sum = sum_by-append length (map (option_of p) (every_choice p)) (map (leaving_option p) (leavings p)) in
      let first = entries_same p (every_choice p) in
      let second = left_same p (left_out p) in
      let same = ap (sum_by length) (leaving_options p) in
      let count = ap length (leaving_options p) in
      omega (arith, all, sum, first, second, same, count)

  is_small_parts : is_small (packing_problem p) ≡ ((nat_le (length item_words) MOST_ITEMS && nat_le (length option_lists) MOST_OPTIONS) && nat_le (length item_words + sum_by length option_lists + length option_lists + 2) MOST_ENTRIES)
  unfolding packing_problem item_words option_lists
  is_small_parts = refl

  -- where there are too lists_long items the problem is large
  pub large_is : MOST_ITEMS < length (things p) → is_small (packing_problem p) ≡ false
  large_is more =
      false_from_ne_true _ (λ t.
      let parts = and_parts (nat_le (length item_words) MOST_ITEMS && nat_le (length option_lists) MOST_OPTIONS) (nat_le (length item_words + sum_by length option_lists + length option_lists + 2) MOST_ENTRIES) (sym is_small_parts ∙ t) in
      let first = and_parts (nat_le (length item_words) MOST_ITEMS) (nat_le (length option_lists) MOST_OPTIONS) parts.0 in
      let few = leb-true (length item_words) MOST_ITEMS first.0 in
      let l = words_long in
      omega (arith, few, l, more))

  -- the problem is small exactly where there is room for all option_lists
  pub small_is : length (things p) ≤ MOST_ITEMS → is_small (packing_problem p) ≡ has_room_beside (length (every_choice p)) (length (things p) + entries_of p (every_choice p) + 2) (left_out p)
  small_is few =
      is_small_parts
      ∙ same_tests ((nat_le (length item_words) MOST_ITEMS && nat_le (length option_lists) MOST_OPTIONS) && nat_le (length item_words + sum_by length option_lists + length option_lists + 2) MOST_ENTRIES)
      (has_room_beside (length (every_choice p)) (length (things p) + entries_of p (every_choice p) + 2) (left_out p))
      (λ t.
      let parts = and_parts (nat_le (length item_words) MOST_ITEMS && nat_le (length option_lists) MOST_OPTIONS) (nat_le (length item_words + sum_by length option_lists + length option_lists + 2) MOST_ENTRIES) t in
      let first = and_parts (nat_le (length item_words) MOST_ITEMS) (nat_le (length option_lists) MOST_OPTIONS) parts.0 in
      let count = leb-true (length option_lists) MOST_OPTIONS first.1 in
      let size = leb-true (length item_words + sum_by length option_lists + length option_lists + 2) MOST_ENTRIES parts.1 in
      let l = words_long in
      let m = lists_long in
      let e = entries_all in
      and_from _ _ (le-leb (length (every_choice p) + length (left_out p)) MOST_OPTIONS (omega (arith, count, m)))
      (le-leb (length (things p) + entries_of p (every_choice p) + 2 + leaving_entries (left_out p)) MOST_ENTRIES (omega (arith, size, l, e))))
      (λ t.
      let parts = and_parts (nat_le (length (every_choice p) + length (left_out p)) MOST_OPTIONS) (nat_le (length (things p) + entries_of p (every_choice p) + 2 + leaving_entries (left_out p)) MOST_ENTRIES) t in
      let count = leb-true (length (every_choice p) + length (left_out p)) MOST_OPTIONS parts.0 in
      let size = leb-true (length (things p) + entries_of p (every_choice p) + 2 + leaving_entries (left_out p)) MOST_ENTRIES parts.1 in
      let l = words_long in
      let m = lists_long in
      let e = entries_all in
      and_from _ _ (and_from _ _ (le-leb (length item_words) MOST_ITEMS (omega (arith, few, l))) (le-leb (length option_lists) MOST_OPTIONS (omega (arith, count, m))))
      (le-leb (length item_words + sum_by length option_lists + length option_lists + 2) MOST_ENTRIES (omega (arith, size, l, e))))

  -- where there is no room for the choices the problem is large
  pub large_by_choices : length (things p) ≤ MOST_ITEMS → has_room p (length (things p)) (every_choice p) ≡ false → is_small (packing_problem p) ≡ false
  large_by_choices few h =
      small_is few
      ∙ false_from_ne_true _ (λ t.
      let parts = and_parts (nat_le (length (every_choice p) + length (left_out p)) MOST_OPTIONS) (nat_le (length (things p) + entries_of p (every_choice p) + 2 + leaving_entries (left_out p)) MOST_ENTRIES) t in
      let count = leb-true (length (every_choice p) + length (left_out p)) MOST_OPTIONS parts.0 in
      let size = leb-true (length (things p) + entries_of p (every_choice p) + 2 + leaving_entries (left_out p)) MOST_ENTRIES parts.1 in
      both_ways (has_room p (length (things p)) (every_choice p)) h
      (and_from _ _ (le-leb (length (every_choice p)) MOST_OPTIONS (omega (arith, count))) (le-leb (length (things p) + entries_of p (every_choice p) + 2) MOST_ENTRIES (omega (arith, size)))))

-- the parts are those of the problem
pub record AreParts (p : PuzzleValue) (names : List (List ℕ)) (primary : ℕ) (options : List (List ℕ)) : Type 0 where
  pub names_are : names ≡ map thing_name (things p)
  pub primary_is : primary ≡ length (needed_things p)
  pub options_are : options ≡ map (option_of p) (every_choice p) ++ map (left_items p) (left_out p)

same_made : (p : PuzzleValue) (names : List (List ℕ)) (primary : ℕ) (options : List (List ℕ)) → AreParts p names primary options
    → problem_from names primary options ≡ problem_from (map thing_name (things p)) (length (needed_things p)) (map (option_of p) (every_choice p) ++ map (leaving_option p) (leavings p))
same_made p names primary options a =
    ap (λ (ns : List (List ℕ)). problem_from ns primary options) a.names_are ∙ ap (λ (k : ℕ). problem_from (map thing_name (things p)) k options) a.primary_is
    ∙ ap (problem_from (map thing_name (things p)) (length (needed_things p))) (a.options_are ∙ ap (λ (os : List (List ℕ)). map (option_of p) (every_choice p) ++ os) (leaving_options p))

-- these parts make the problem of the puzzle
pub parts_make : (p : PuzzleValue) → IsPuzzle p → (names : List (List ℕ)) (primary : ℕ) (options : List (List ℕ)) → AreParts p names primary options → is_small (packing_problem p) ≡ true
    → problem_from names primary options ≡ Ok (packing_problem p)
unfolding packing_problem
parts_make p z names primary options a small = same_made p names primary options a ∙ made_again (packing_problem p) (is_problem p z small)

-- what is made has no fault
pub not_faulty : (f : Refusal Fault) (g : Fault) (found : Result ProblemValue Fault) (q : ProblemValue) → found ≡ Ok q → f ≡ refusals.Fault g → IsFaultOf f found → ⊥
not_faulty f g found q made is fault = no_fault g q (sym (subst (λ (h : Refusal Fault). IsFaultOf h found) is fault) ∙ made)
