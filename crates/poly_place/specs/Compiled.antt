-- How the items of a puzzle's problem are numbered, by tables of cells and by the places of nodes, and when there is room for its options.
use Rattle.std.specs.Prelude.{◌≡◌, ℕ, ◌+◌, ◌^◌, ◌≤◌, ◌==◌, nat_le, Bool, cond, not, ◌&&◌, List, [], ◌∷◌, ◌++◌, map, filter, flat_map, length, sum_by, slice_index_or, slice_set}
use Rattle.std.specs.List.{list_all}
use Rattle.poly_cells.specs.Coordinates.{Coordinates, IsInGrid}
use Rattle.poly_cells.specs.Sets.{IsIn}
use Rattle.poly_texts.specs.Puzzle.{PuzzleValue, names_of, is_needed, is_spare, pieces_of, maybe_names, equal_names}
use Rattle.cover_problem.specs.declared.limits.TheConstants.{MOST_ITEMS, MOST_OPTIONS, MOST_ENTRIES}
use Rattle.poly_place.specs.Packings.{ChoiceValue, every_choice, things, must_fill, a_cell, a_piece, thing_item, place_of, pairs, tree_levels, needed_things, things_of, given, is_any, nodes, nodes_by, thing_name}
use Rattle.poly_place.specs.Turns.{from_right, from_left}
use Rattle.poly_place.specs.Tables.{grid_cells, bit_index}

-- ---- items

-- the names of the pieces that may not be left out
abbrev pub needed_names : PuzzleValue → List ℕ
needed_names p = filter (is_needed p) (names_of (pieces_of p))

-- the cells that have to be filled
abbrev pub filled_cells : PuzzleValue → List Coordinates
filled_cells p = filter (must_fill p) p.region

-- what a table of numbers has at the place of the cell's bit
abbrev pub item_number_at : List ℕ → Coordinates → ℕ
item_number_at numbers v = slice_index_or numbers (bit_index v) 0

-- the table after these cells are numbered from k on
abbrev pub numbered : List ℕ → ℕ → List Coordinates → List ℕ
numbered numbers k [] = numbers
numbered numbers k (v ∷ vs) = numbered (slice_set numbers (bit_index v) k) (k + 1) vs

-- the table has the number of the item of each cell of the region
pub record AreNumbers (p : PuzzleValue) (numbers : List ℕ) : Type 0 where
  pub long : length numbers ≡ grid_cells
  pub same : (v : Coordinates) → IsIn v p.region → item_number_at numbers v ≡ thing_item p (a_cell v)

-- the table has, for each cell of the region, one more than how many of the region's cells come before it
pub record ArePlaces (p : PuzzleValue) (places : List ℕ) : Type 0 where
  pub long : length places ≡ grid_cells
  pub same : (v : Coordinates) → IsIn v p.region → item_number_at places v ≡ place_of p.region v + 1

-- how many items come before the nodes
abbrev pub before_nodes : PuzzleValue → ℕ
before_nodes p = length (needed_things p) + length (maybe_names p) + length p.maybe_cells

-- the table has, for each cell of the region, one more than how many of the region's cells come before it, and 0 for each other cell
pub record ArePlacesOf (region : List Coordinates) (places : List ℕ) : Type 0 where
  pub long : length places ≡ grid_cells
  pub same : (v : Coordinates) → IsIn v region → item_number_at places v ≡ place_of region v + 1
  pub others : (v : Coordinates) → IsInGrid v → ¬ IsIn v region → item_number_at places v ≡ 0

-- what tells the number of each item: the table of the cells' items, that of their places, the pairs of equal pieces, the levels of
-- their trees with how many leaves each has, and how many items come before the nodes
pub record IsNumbering (p : PuzzleValue) (cells places : List ℕ) (pairs_are : List (ℕ × ℕ)) (levels_are leaves before : ℕ) : Type 0 where
  pub items : AreNumbers p cells
  pub places_are : ArePlaces p places
  pub pairs_same : pairs_are ≡ pairs p
  pub levels_same : levels_are ≡ tree_levels p
  pub leaves_same : leaves ≡ 2 ^ tree_levels p
  pub before_same : before ≡ before_nodes p

-- ---- options

-- these numbers, if it is so
abbrev pub numbers_if : Bool → List ℕ → List ℕ
numbers_if b ns = cond b ns []

-- the item of a piece, unless it may be used any number of times
abbrev pub piece_items : PuzzleValue → ℕ → List ℕ
piece_items p name = map (thing_item p) (given (not (is_any p name)) (a_piece name ∷ []))

-- the items of cells
abbrev pub cell_items : PuzzleValue → List Coordinates → List ℕ
cell_items p cells = map (thing_item p) (map a_cell cells)

-- the items of the nodes of a choice
abbrev pub node_items : PuzzleValue → ChoiceValue → List ℕ
node_items p c = map (thing_item p) (flat_map (nodes_by p c) (pairs p))

-- the names of all nodes
abbrev pub node_names : PuzzleValue → List (List ℕ)
node_names p = map thing_name (flat_map (nodes p) (pairs p))

-- the items of the nodes that a leaf reaches from the right, where the item of node h is numbered h more than `before`
abbrev pub items_from_right : ℕ → ℕ → ℕ → List ℕ
items_from_right before levels leaf = map (λ h. before + h) (from_right levels leaf)

-- and from the left
abbrev pub items_from_left : ℕ → ℕ → ℕ → List ℕ
items_from_left before levels leaf = map (λ h. before + h) (from_left levels leaf)

-- the items of the nodes of a pair's tree that a leaf reaches: from the right where the name is that of the piece that comes first, and
-- from the left where it is that of the second; the item of node h is numbered h more than `before`
abbrev pub pair_items : ℕ → ℕ × ℕ → ℕ → ℕ → ℕ → List ℕ
pair_items name pair before levels leaf =
    numbers_if (name == pair.0) (items_from_right before levels leaf) ++ numbers_if (name == pair.1) (items_from_left before levels leaf)

-- ---- room

-- the ends of a list that pass the test throughout, from the longest on
abbrev pub left_from : (ℕ → Bool) → List ℕ → List (List ℕ)
left_from test [] = []
left_from test (n ∷ ns) = cond (list_all test (n ∷ ns)) ((n ∷ ns) ∷ []) [] ++ left_from test ns

-- the copies that an option leaves out, of each that leaves out some
abbrev pub left_out : PuzzleValue → List (List ℕ)
left_out p = flat_map (left_from (is_spare p)) (equal_names p)

-- the items of these pieces
abbrev pub left_items : PuzzleValue → List ℕ → List ℕ
left_items p names = map (thing_item p) (map a_piece names)

-- the entries that the options of these choices take: one for each item, and a spacer
abbrev pub entries_of : PuzzleValue → List ChoiceValue → ℕ
entries_of p cs = sum_by (λ c. length (things_of p c) + 1) cs

-- the entries that options take which leave out these copies
abbrev pub leaving_entries : List (List ℕ) → ℕ
leaving_entries lefts = sum_by (λ names. length names + 1) lefts

-- there is room for this many items and the options of these choices
abbrev pub has_room : PuzzleValue → ℕ → List ChoiceValue → Bool
has_room p items cs = nat_le (length cs) MOST_OPTIONS && nat_le (items + entries_of p cs + 2) MOST_ENTRIES

-- beside so many options and entries there is room for options that leave out these copies
abbrev pub has_room_beside : ℕ → ℕ → List (List ℕ) → Bool
has_room_beside options entries lefts = nat_le (options + length lefts) MOST_OPTIONS && nat_le (entries + leaving_entries lefts) MOST_ENTRIES

-- so many options lay a piece, and so many entries has a table with these alone; both are within the limits, and so is the number of items
pub record LaysWithin (p : PuzzleValue) (options entries : ℕ) : Type 0 where
  pub count : options ≡ length (every_choice p)
  pub sum : entries ≡ length (things p) + entries_of p (every_choice p) + 2
  pub items : length (things p) ≤ MOST_ITEMS
  pub few : options ≤ MOST_OPTIONS
  pub low : entries ≤ MOST_ENTRIES
