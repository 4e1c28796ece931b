-- The option of a choice by a table of numbers, and where there is no room for some choices, there is none for more.
use Rattle.std.proofs.Common.{◌≡◌, ℕ, ◌+◌, ◌<◌, List, [], ◌∷◌, ◌++◌, map, length, get_or, take, drop, true, false, nat_le, refl, sym, ap, ap₂, subst, ◌∙◌, arith}
use Rattle.std.specs.List.{flat_map}
use Rattle.std.proofs.lemmas.Bool.{and_parts, and_from, leb-true, le-leb, false_from_ne_true, both_ways}
use Rattle.std.proofs.lemmas.Grind.{flat_map-append}
use Rattle.std.proofs.lemmas.List.Sums.{sum_by-append}
use Rattle.std.proofs.lemmas.List.{flat_map_more, take-append-drop, length-append, map_more}
use Rattle.poly_cells.specs.Coordinates.{Coordinates}
use Rattle.poly_cells.specs.Sets.{IsIn}
use Rattle.poly_texts.specs.Puzzle.{PuzzleValue, IsPuzzle, pieces_of}
use Rattle.cover_problem.specs.declared.limits.TheConstants.{MOST_OPTIONS, MOST_ENTRIES}
use Rattle.poly_place.specs.Packings.{ChoiceValue, IsPlaced, choices_of_piece, every_choice, things_of, option_of}
use Rattle.poly_place.specs.Compiled.{entries_of, has_room}
use Rattle.poly_cells.proofs.SetLemmas.{in_at, take_next}
use Rattle.poly_place.proofs.PlacedLemmas.{has_shapes, placed_in}

-- a choice of the list is placed
pub chosen_at : (p : PuzzleValue) → IsPuzzle p → (cs : List ChoiceValue) (i : ℕ) (c : ChoiceValue) → cs ≡ every_choice p → i < length cs → c ≡ get_or cs i c → IsPlaced p c × IsIn c (every_choice p)
chosen_at p z cs i c same lt is =
    let here : IsIn c (every_choice p) = subst (λ (ds : List ChoiceValue). IsIn c ds) same (subst (λ (d : ChoiceValue). IsIn d cs) (sym is) (in_at cs i c lt)) in
    (placed_in p (has_shapes p z) c here, here)

pub one_option : (p : PuzzleValue) (cs : List ChoiceValue) (i : ℕ) (c : ChoiceValue) (before after : List (List ℕ)) → i < length cs → c ≡ get_or cs i c → after ≡ before ++ option_of p c ∷ []
    → before ≡ map (option_of p) (take i cs) → after ≡ map (option_of p) (take (i + 1) cs)
one_option p cs i c before after lt is push so = push ∙ ap₂ (λ os d. os ++ option_of p d ∷ []) so is ∙ sym (map_more (option_of p) cs i c lt)

-- ---- the choices of the pieces, one by one

-- the choices of the first k pieces
abbrev pub choices_before : PuzzleValue → List (ℕ × List Coordinates) → ℕ → List ChoiceValue
choices_before p pieces k = flat_map (choices_of_piece p) (take k pieces)

pub choices_next : (p : PuzzleValue) (pieces : List (ℕ × List Coordinates)) (k : ℕ) (q : ℕ × List Coordinates) → k < length pieces → q ≡ get_or pieces k q
    → choices_before p pieces (k + 1) ≡ choices_before p pieces k ++ choices_of_piece p q
choices_next p pieces k q lt is =
    sym (flat_map_more (choices_of_piece p) [] (take k pieces) q
    ∙ ap (flat_map (choices_of_piece p)) (sym (take_next pieces k q lt is)))

pub choices_all : (p : PuzzleValue) → flat_map (choices_of_piece p) (pieces_of p) ≡ every_choice p
unfolding every_choice
choices_all p = refl

-- ---- room

pub entries_append : (p : PuzzleValue) (xs ys : List ChoiceValue) → entries_of p (xs ++ ys) ≡ entries_of p xs + entries_of p ys
entries_append p xs ys = sum_by-append (λ (c : ChoiceValue). length (things_of p c) + 1) xs ys

fewer : (p : PuzzleValue) (n : ℕ) (xs ys : List ChoiceValue) → has_room p n (xs ++ ys) ≡ true → has_room p n xs ≡ true
fewer p n xs ys h =
    let parts = and_parts (nat_le (length (xs ++ ys)) MOST_OPTIONS) (nat_le (n + entries_of p (xs ++ ys) + 2) MOST_ENTRIES) h in
    let a = leb-true (length (xs ++ ys)) MOST_OPTIONS parts.0 in
    let b = leb-true (n + entries_of p (xs ++ ys) + 2) MOST_ENTRIES parts.1 in
    let l = length-append xs ys in
    let s = entries_append p xs ys in
    and_from (nat_le (length xs) MOST_OPTIONS) (nat_le (n + entries_of p xs + 2) MOST_ENTRIES) (le-leb (length xs) MOST_OPTIONS (omega (arith, a, l)))
    (le-leb (n + entries_of p xs + 2) MOST_ENTRIES (omega (arith, b, l, s)))

no_room : (p : PuzzleValue) (n : ℕ) (xs ys : List ChoiceValue) → has_room p n xs ≡ false → has_room p n (xs ++ ys) ≡ false
no_room p n xs ys h = false_from_ne_true _ (λ t. both_ways (has_room p n xs) h (fewer p n xs ys t))

-- where there is no room for the choices of the first pieces, there is none for all
pub no_room_before : (p : PuzzleValue) (n : ℕ) (pieces : List (ℕ × List Coordinates)) (k : ℕ) → pieces ≡ pieces_of p → has_room p n (choices_before p pieces k) ≡ false
    → has_room p n (every_choice p) ≡ false
no_room_before p n pieces k same f =
    ap (has_room p n) (sym (choices_all p) ∙ ap (flat_map (choices_of_piece p)) (sym same ∙ sym (take-append-drop k pieces)) ∙ flat_map-append (choices_of_piece p) (take k pieces) (drop k pieces))
    ∙ no_room p n (choices_before p pieces k) (flat_map (choices_of_piece p) (drop k pieces)) f
