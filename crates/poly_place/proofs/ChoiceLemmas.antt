-- Which placements of a piece may be chosen, as the code tells it: by a table of the cells that have to be filled.
use Rattle.std.proofs.Common.{◌≡◌, ◌<◌, ℕ, length, List, [], ◌∷◌, ◌++◌, map, filter, Bool, true, false, cond, not, ◌||◌, sym, ap, ap₂, ◌∙◌, append-nil, append_assoc}
use Rattle.std.specs.List.{list_any}
use Rattle.std.specs.Cmp.{both_ways as same_tests}
use Rattle.std.proofs.lemmas.Bool.{and_parts}
use Rattle.std.proofs.lemmas.List.{map-append}
use Rattle.std.proofs.lemmas.List.Elements.{filter-append}
use Rattle.poly_cells.specs.Coordinates.{Coordinates}
use Rattle.poly_cells.specs.CellTests.{has_cell}
use Rattle.poly_texts.specs.Puzzle.{PuzzleValue, is_needed}
use Rattle.poly_cells.proofs.CellTestLemmas.{in_from_has, has_from_in}
use Rattle.poly_place.specs.Tables.{IsCellTable, has_bit}
use Rattle.poly_cells.specs.Sets.{IsIn}
use Rattle.poly_place.specs.Placements.{ArePlacements}
use Rattle.poly_place.specs.Packings.{choice_with, must_fill, is_useful, first_cell}
use Rattle.poly_place.proofs.PlaceLemmas.{first_in}
use Rattle.poly_place.specs.Compiled.{filled_cells}
use Rattle.poly_cells.proofs.MemberLemmas.{in_from_filter, in_filter, same_function}

filled_is : (p : PuzzleValue) (v : Coordinates) → has_cell (filled_cells p) v ≡ must_fill p v
filled_is p v =
    same_tests (has_cell (filled_cells p) v) (must_fill p v) (λ h. (in_from_filter (must_fill p) v p.region (in_from_has (filled_cells p) v h)).1)
    (λ h.
    let parts = and_parts (has_cell p.region v) (not (has_cell p.maybe_cells v)) h in
    has_from_in (filled_cells p) v (in_filter (must_fill p) v p.region (in_from_has p.region v parts.0) h))

meets_is : (p : PuzzleValue) (bits : List Bool) → IsCellTable (filled_cells p) bits → (vs : List Coordinates) → list_any (has_bit bits) vs ≡ list_any (must_fill p) vs
meets_is p bits t vs = ap (λ (test : Coordinates → Bool). list_any test vs) (same_function (has_bit bits) (must_fill p) (λ v. t.same v ∙ filled_is p v))

-- the code's test of a placement
pub useful_is : (p : PuzzleValue) (bits : List Bool) (name : ℕ) (cells : List Coordinates) (needed : Bool) → IsCellTable (filled_cells p) bits
    → needed ≡ is_needed p name → needed || list_any (has_bit bits) cells ≡ is_useful p (choice_with name cells)
useful_is p bits name cells needed t e = ap₂ (λ a b. a || b) e (meets_is p bits t cells)

-- the least cell of a placement lies in the region
pub placed_first : (turns : List ℕ) (piece region : List Coordinates) (sets : List (List Coordinates)) (set : List Coordinates) → ArePlacements turns piece region sets → IsIn set sets → 0 < length set → IsIn (first_cell set) region
placed_first turns piece region sets set are i some = (are.sound set i).1.inside (first_cell set) (first_in set some)

-- ---- a list that is mapped and then filtered, one by one

one_more : {X Y : Type 0} (f : X → Y) (test : Y → Bool) (xs : List X) (x : X) → filter test (map f (xs ++ x ∷ [])) ≡ filter test (map f xs) ++ cond (test (f x)) (f x ∷ []) []
one_more f test xs x = ap (filter test) (map-append f xs (x ∷ [])) ∙ filter-append test (map f xs) (f x ∷ [])

pub mapped_kept : {X Y : Type 0} (f : X → Y) (test : Y → Bool) (xs : List X) (x : X) (start old new : List Y) → test (f x) ≡ true → new ≡ old ++ f x ∷ []
    → old ≡ start ++ filter test (map f xs) → new ≡ start ++ filter test (map f (xs ++ x ∷ []))
mapped_kept {X} {Y} f test xs x start old new t push so =
    push ∙ ap (λ (ys : List Y). ys ++ f x ∷ []) so ∙ append_assoc start (filter test (map f xs)) (f x ∷ [])
    ∙ ap (λ (ys : List Y). start ++ ys) (sym (one_more f test xs x ∙ ap (λ b. filter test (map f xs) ++ cond b (f x ∷ []) []) t))

pub mapped_left : {X Y : Type 0} (f : X → Y) (test : Y → Bool) (xs : List X) (x : X) (start old : List Y) → test (f x) ≡ false → old ≡ start ++ filter test (map f xs)
    → old ≡ start ++ filter test (map f (xs ++ x ∷ []))
mapped_left {X} {Y} f test xs x start old t so =
    so ∙ ap (λ (ys : List Y). start ++ ys)
    (sym (one_more f test xs x ∙ ap (λ b. filter test (map f xs) ++ cond b (f x ∷ []) []) t ∙ append-nil (filter test (map f xs))))
