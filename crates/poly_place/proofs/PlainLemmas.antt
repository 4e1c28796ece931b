-- A plain puzzle has the problem that is said for it.
use Rattle.std.proofs.Common.{◌≡◌, ℕ, ◌+◌, ◌*◌, arith, List, [], ◌∷◌, ◌++◌, map, filter, flat_map, length, Bool, true, false, cond, not, ◌&&◌, ◌||◌, ap, ap₂, ◌∙◌, append-nil, refl}
use Rattle.std.specs.List.{list_any}
use Rattle.std.proofs.lemmas.Bool.{le-leb}
use Rattle.poly_cells.specs.Coordinates.{Coordinates}
use Rattle.poly_cells.proofs.MemberLemmas.{same_function}
use Rattle.poly_texts.specs.Puzzle.{PuzzleValue, has_name, is_needed, names_of, pieces_of, maybe_names, spare_names}
use Rattle.poly_place.specs.declared.alike.Group.TheVariants.{Rotations, Symmetries}
use Rattle.poly_place.specs.Placements.{placements, turns_by}
use Rattle.poly_place.specs.Packings.{ChoiceValue, choice_with, neighbours, pairs, is_useful, sure_followers, has_room_for, cells_beside, leaves_room, may_be_chosen, must_fill, Thing, a_piece, a_cell, needed_things, things, given, nodes, nodes_by, things_of, thing_item, index_among, option_of, leaving_option, leavings_of, leavings, every_choice, packing_problem}
use Rattle.poly_place.specs.Plain.{plain_needed, plain_things, plain_option, plain_choices, plain_problem, IsPlainPuzzle, PlainStay}

and_true : (b : Bool) → (b && true) ≡ b
and_true true = refl
and_true false = refl

module _ (p : PuzzleValue) (h : IsPlainPuzzle p) where
  no_pairs : pairs p ≡ []
  no_pairs = ap (λ (gs : List (List ℕ)). flat_map neighbours gs) h.none_equal

  needed_same : (n : ℕ) → is_needed p n ≡ not (has_name (maybe_names p) n)
  needed_same n = ap (λ (ns : List ℕ). not (has_name (maybe_names p) n) && not (has_name ns n)) h.none_any ∙ and_true (not (has_name (maybe_names p) n))

  needed_things_same : needed_things p ≡ plain_needed p
  needed_things_same =
      ap (λ (test : ℕ → Bool). map a_piece (filter test (names_of (pieces_of p))) ++ map a_cell (filter (must_fill p) p.region)) (same_function (is_needed p) (λ n. not (has_name (maybe_names p) n)) needed_same)

  things_same : things p ≡ plain_things p
  things_same =
      ap₂ (λ (xs ys : List Thing). xs ++ ys) needed_things_same
      (ap (λ (qs : List (ℕ × ℕ)). map a_piece (maybe_names p) ++ (map a_cell p.maybe_cells ++ flat_map (nodes p) qs)) no_pairs
      ∙ ap (λ (xs : List Thing). map a_piece (maybe_names p) ++ xs) (append-nil (map a_cell p.maybe_cells)))

  parts_same : (c : ChoiceValue) → things_of p c ≡ a_piece c.name ∷ map a_cell c.cells
  parts_same c =
      ap₂ (λ (ns : List ℕ) (qs : List (ℕ × ℕ)). given (not (has_name ns c.name)) (a_piece c.name ∷ []) ++ (map a_cell c.cells ++ flat_map (nodes_by p c) qs)) h.none_any no_pairs
      ∙ ap (λ (xs : List Thing). a_piece c.name ∷ xs) (append-nil (map a_cell c.cells))

  option_same : (c : ChoiceValue) → option_of p c ≡ plain_option p c
  unfolding thing_item
  option_same c = ap₂ (λ (all ts : List Thing). map (λ (t : Thing). index_among t all + 1) ts) things_same (parts_same c)

  -- no copies follow, so there is room for them
  room_left : (c : ChoiceValue) → leaves_room p c ≡ true
  room_left c =
      ap (λ (qs : List (ℕ × ℕ)). has_room_for p (length (sure_followers (spare_names p) qs c.name)) c.cells) no_pairs ∙ le-leb (0 * length c.cells) (cells_beside p c.cells) (omega arith)

  chosen_same : (c : ChoiceValue) → may_be_chosen p c ≡ (not (has_name (maybe_names p) c.name) || list_any (must_fill p) c.cells)
  chosen_same c =
      ap (λ (b : Bool). is_useful p c && b) (room_left c) ∙ and_true (is_useful p c) ∙ ap (λ (b : Bool). b || list_any (must_fill p) c.cells) (needed_same c.name)

  choices_same : every_choice p ≡ plain_choices p
  unfolding every_choice
  choices_same =
      ap₂ (λ (ns : List ℕ) (test : ChoiceValue → Bool).
      flat_map (λ (n : ℕ × List Coordinates). filter test (map (choice_with (n.0)) (placements (turns_by (cond (has_name ns (n.0)) Symmetries Rotations)) (n.1) p.region))) (pieces_of p)) h.none_mirrored
      (same_function (may_be_chosen p) (λ c. not (has_name (maybe_names p) c.name) || list_any (must_fill p) c.cells) chosen_same)

  -- nothing is left out, as there are no equal pieces
  options_same : map (option_of p) (every_choice p) ++ map (leaving_option p) (leavings p) ≡ map (option_of p) (every_choice p)
  unfolding leavings
  options_same =
      ap (λ (gs : List (List ℕ)). map (option_of p) (every_choice p) ++ map (leaving_option p) (flat_map (leavings_of p) gs)) h.none_equal ∙ append-nil (map (option_of p) (every_choice p))

  pub problem_same : packing_problem p ≡ plain_problem p
  unfolding packing_problem
  problem_same =
      ap₂ (λ (needed all : List Thing). record {
        names = map Rattle.poly_place.specs.Packings.thing_name all;
        primary = length needed;
        options = map (option_of p) (every_choice p) ++ map (leaving_option p) (leavings p);
      }) needed_things_same things_same
      ∙ ap (λ (os : List (List ℕ)). record {
        names = map Rattle.poly_place.specs.Packings.thing_name (plain_things p);
        primary = length (plain_needed p);
        options = os;
      }) options_same
      ∙ ap₂ (λ (f : ChoiceValue → List ℕ) (cs : List ChoiceValue). record {
        names = map Rattle.poly_place.specs.Packings.thing_name (plain_things p);
        primary = length (plain_needed p);
        options = map f cs;
      }) (same_function (option_of p) (plain_option p) option_same) choices_same

pub plain_stay : PlainStay
plain_stay p h = problem_same p h
