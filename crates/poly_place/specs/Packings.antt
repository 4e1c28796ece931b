-- Packings of a puzzle, and the exact cover problem that stands for them.
-- Its items are pieces and cells: first those that are required, then those that may be left out, and then nodes of trees that keep
-- equal pieces in order (specs/Turns.antt). Its options are placements, and then the ways to leave out spare copies.
--
-- Example: the puzzle of two pieces A and B of one cell each and the region 0 0 0, 1 0 0, in which B may be left out and
-- 1 0 0 may stay empty, has the items A, 000, B and 100. A has the options A 000 and A 100, and B has B 000 alone
-- (proofs/PackingExamples.antt). If A and B are equal pieces that have to be used, A has the option A 000 alone: after 1 0 0 there is no
-- room for B.
use Rattle.std.specs.Prelude.{◌^◌, nat_le, ◌/◌, ◌%◌, ◌≡◌, ℕ, ◌+◌, ◌*◌, ◌-◌, ◌<◌, ◌≤◌, ◌==◌, Bool, true, false, not, ◌&&◌, ◌||◌, cond, List, [], ◌∷◌, ◌++◌, ◌⊎◌, ◌↔◌, map, filter, flat_map, length, slice_index_or}
use Rattle.std.specs.List.{list_all, list_any, position_or_len, range_with_len}
use Rattle.std.specs.declared.cmp.Ordering.TheVariants.{Less}
use Rattle.std.specs.List.Sorted.{IsStrictlySortedBy}
use Rattle.poly_cells.specs.Coordinates.{Coordinates, coordinates, coordinates_cmp}
use Rattle.poly_cells.specs.Sets.{IsIn}
use Rattle.poly_cells.specs.CellTests.{is_same, has_cell}
use Rattle.poly_cells.specs.CellWords.{cell_word, symbol}
use Rattle.poly_texts.specs.Puzzle.{PuzzleValue, IsPuzzle, names_of, has_name, is_needed, is_spare, pieces_of, maybe_names, any_names, mirrored_names, equal_names, spare_names}
use Rattle.cover_problem.specs.Problem.{ProblemValue, IsProblem, is_small}
use Rattle.cover_problem.specs.ExactCover.{IsExactCover}
use Rattle.poly_place.specs.declared.alike.Group.{Group}
use Rattle.poly_place.specs.declared.alike.Group.TheVariants.{Rotations, Symmetries}
use Rattle.poly_place.specs.Placements.{IsPlacement, placements, turns_by}
use Rattle.poly_place.specs.Turns.{from_right, from_left, leaf}

-- a piece's name, and a set of cells for it
pub record ChoiceValue : Type 0 where
  pub name : ℕ
  pub cells : List Coordinates

-- the choice of these cells for the piece with this name
abbrev pub choice_with : ℕ → List Coordinates → ChoiceValue
choice_with name cells = record { name = name; cells = cells }

-- the piece may be used any number of times
abbrev pub is_any : PuzzleValue → ℕ → Bool
is_any p name = has_name (any_names p) name

-- the piece is turned by rotations, or also by reflections where it may be reflected
abbrev pub turning_group : PuzzleValue → ℕ → Group
turning_group p name = cond (has_name (mirrored_names p) name) Symmetries Rotations

-- the symmetries by which the piece may be turned
abbrev pub turns_of : PuzzleValue → ℕ → List ℕ
turns_of p name = turns_by (turning_group p name)

-- each name with the one after it
abbrev pub neighbours : List ℕ → List (ℕ × ℕ)
neighbours [] = []
neighbours (m ∷ []) = []
neighbours (m ∷ n ∷ ns) = (m, n) ∷ neighbours (n ∷ ns)

-- each two equal pieces of which the second one follows the first
abbrev pub pairs : PuzzleValue → List (ℕ × ℕ)
pairs p = flat_map neighbours (equal_names p)

-- the least of the cells
abbrev pub first_cell : List Coordinates → Coordinates
first_cell [] = coordinates 0 0 0
first_cell (v ∷ vs) = v

-- the region has the cell, which may not stay empty
abbrev pub must_fill : PuzzleValue → Coordinates → Bool
must_fill p v = has_cell p.region v && not (has_cell p.maybe_cells v)

-- the cells are a placement of the piece, which is required or fills one of the cells that have to be filled
pub record IsPlaced (p : PuzzleValue) (c : ChoiceValue) : Type 0 where
  pub piece : List Coordinates
  pub named : IsIn (c.name, piece) (pieces_of p)
  pub rises : IsStrictlySortedBy coordinates_cmp c.cells
  pub placed : IsPlacement (turns_of p c.name) piece p.region c.cells
  pub useful : (is_needed p c.name ≡ true) ⊎ ((v : Coordinates) × IsIn v c.cells × (must_fill p v ≡ true))

-- the piece is used: it is laid somewhere
abbrev pub IsUsed : (ChoiceValue → Bool) → ℕ → Type 0
IsUsed chosen name = (c : ChoiceValue) × (chosen c ≡ true) × (c.name ≡ name)

-- some pieces, the required ones among them, each in one placement (those that may be used any number of times in some), which fill
-- each required cell and meet nowhere; of two equal pieces the one that comes first has the lesser of their least cells, and is used
-- where the other one is, by pairs of equal pieces; given as a test on choices
pub record IsPackingBy (p : PuzzleValue) (order : List (ℕ × ℕ)) (chosen : ChoiceValue → Bool) : Type 0 where
  pub placed : (c : ChoiceValue) → chosen c ≡ true → IsPlaced p c
  pub once : (c d : ChoiceValue) → chosen c ≡ true → chosen d ≡ true → is_any p c.name ≡ false → c.name ≡ d.name → c ≡ d
  pub used : (name : ℕ) → IsIn name (names_of (pieces_of p)) → is_needed p name ≡ true → is_spare p name ≡ false → IsUsed chosen name
  pub filled : (v : Coordinates) → must_fill p v ≡ true → (c : ChoiceValue) × (chosen c ≡ true) × IsIn v c.cells
  pub apart : (v : Coordinates) (c d : ChoiceValue) → chosen c ≡ true → chosen d ≡ true → IsIn v c.cells → IsIn v d.cells → c ≡ d
  pub ordered : (c d : ChoiceValue) → chosen c ≡ true → chosen d ≡ true → IsIn (c.name, d.name) order
      → coordinates_cmp (first_cell c.cells) (first_cell d.cells) ≡ Less
  pub in_turn : (m n : ℕ) → IsIn (m, n) order → IsUsed chosen n → IsUsed chosen m

-- that is so by the pairs of equal pieces of the puzzle
abbrev pub IsPacking : PuzzleValue → (ChoiceValue → Bool) → Type 0
IsPacking p chosen = IsPackingBy p (pairs p) chosen

-- ---- the problem

-- the piece is required, or a cell that has to be filled is one of these
abbrev pub is_useful : PuzzleValue → ChoiceValue → Bool
is_useful p c = is_needed p c.name || list_any (must_fill p) c.cells

-- the names that follow this one, in turn
abbrev pub followers_in : List (ℕ × ℕ) → ℕ → List ℕ
followers_in [] name = []
followers_in (pair ∷ ps) name = cond (pair.0 == name) (pair.1 ∷ followers_in ps (pair.1)) (followers_in ps name)

-- those of them that aren't spare
abbrev pub sure_followers : List ℕ → List (ℕ × ℕ) → ℕ → List ℕ
sure_followers spare ps name = filter (λ n. not (has_name spare n)) (followers_in ps name)

-- the equal pieces that follow this one and have to be used
abbrev pub followers : PuzzleValue → ℕ → List ℕ
followers p name = sure_followers (spare_names p) (pairs p) name

-- how many of the cells come before this one
abbrev pub place_of : List Coordinates → Coordinates → ℕ
place_of [] v = 0
place_of (c ∷ cs) v = cond (is_same c v) 0 (1 + place_of cs v)

-- how many of the region's cells, from the least of these on, are none of these
abbrev pub cells_beside : PuzzleValue → List Coordinates → ℕ
cells_beside p cells = length p.region - place_of p.region (first_cell cells) - length cells

-- so many copies of as many cells have room in these
abbrev pub has_room_for : PuzzleValue → ℕ → List Coordinates → Bool
has_room_for p copies cells = nat_le (copies * length cells) (cells_beside p cells)

-- from the least cell on the region has room, beside the piece, for the equal ones that follow it and have to be used
abbrev pub leaves_room : PuzzleValue → ChoiceValue → Bool
leaves_room p c = has_room_for p (length (followers p c.name)) c.cells

-- both are so
abbrev pub may_be_chosen : PuzzleValue → ChoiceValue → Bool
may_be_chosen p c = is_useful p c && leaves_room p c

-- what may be chosen for a piece, in the order of its placements
abbrev pub choices_of_piece : PuzzleValue → ℕ × List Coordinates → List ChoiceValue
choices_of_piece p named = filter (may_be_chosen p) (map (choice_with (named.0)) (placements (turns_of p (named.0)) (named.1) p.region))

-- what may be chosen, piece by piece
unfoldable pub every_choice : PuzzleValue → List ChoiceValue
every_choice p = flat_map (choices_of_piece p) (pieces_of p)

-- the ways to part equal pieces in two: those that are used, and one at least that is left out
abbrev pub partings : List ℕ → List (List ℕ × List ℕ)
partings [] = []
partings (n ∷ ns) = ([], n ∷ ns) ∷ map (λ parts. (n ∷ parts.0, parts.1)) (partings ns)

-- those that leave out spare copies alone
abbrev pub leavings_of : PuzzleValue → List ℕ → List (List ℕ × List ℕ)
leavings_of p group = filter (λ parts. list_all (is_spare p) (parts.1)) (partings group)

-- the ways to leave out spare copies, group by group
unfoldable pub leavings : PuzzleValue → List (List ℕ × List ℕ)
leavings p = flat_map (leavings_of p) (equal_names p)

-- what an item stands for: a piece, by its name; a cell; or a node of the tree that keeps two equal pieces in order, by the name of
-- the one that comes first
pub data Thing : Type 0 where
  a_piece : ℕ → Thing
  a_cell : Coordinates → Thing
  a_node : ℕ → ℕ → Thing

-- the two are the same
abbrev pub same_thing : Thing → Thing → Bool
same_thing (a_piece m) (a_piece n) = m == n
same_thing (a_cell v) (a_cell w) = is_same v w
same_thing (a_node m h) (a_node n i) = (m == n) && (h == i)
same_thing (a_piece m) (a_cell w) = false
same_thing (a_piece m) (a_node n i) = false
same_thing (a_cell v) (a_piece n) = false
same_thing (a_cell v) (a_node n i) = false
same_thing (a_node m h) (a_piece n) = false
same_thing (a_node m h) (a_cell w) = false

-- the required pieces, and then the cells that have to be filled
abbrev pub needed_things : PuzzleValue → List Thing
needed_things p = map a_piece (filter (is_needed p) (names_of (pieces_of p))) ++ map a_cell (filter (must_fill p) p.region)

-- so many levels has a tree with a leaf for each of so many cells, 4,096 at most
unfoldable pub levels_for : ℕ → ℕ
levels_for n = position_or_len (λ k. nat_le n (2 ^ k)) (range_with_len 0 12)

-- the levels of the trees that keep equal pieces in order
unfoldable pub tree_levels : PuzzleValue → ℕ
tree_levels p = levels_for (length p.region)

-- the nodes of the tree of two equal pieces, without its leaves
abbrev pub nodes : PuzzleValue → ℕ × ℕ → List Thing
nodes p pair = map (a_node (pair.0)) (range_with_len 1 (2 ^ tree_levels p - 1))

-- and then the pieces that may be left out, the cells that may stay empty, and the nodes
abbrev pub other_things : PuzzleValue → List Thing
other_things p = map a_piece (maybe_names p) ++ (map a_cell p.maybe_cells ++ flat_map (nodes p) (pairs p))

-- all of them
abbrev pub things : PuzzleValue → List Thing
things p = needed_things p ++ other_things p

-- how many come before the thing
abbrev pub index_among : Thing → List Thing → ℕ
index_among t [] = 0
index_among t (s ∷ ss) = cond (same_thing t s) 0 (index_among t ss + 1)

-- the number of the item that stands for the thing
unfoldable pub thing_item : PuzzleValue → Thing → ℕ
thing_item p t = index_among t (things p) + 1

-- the leaf of the least cell
abbrev pub leaf_of : PuzzleValue → ChoiceValue → ℕ
leaf_of p c = leaf (tree_levels p) (place_of p.region (first_cell c.cells))

-- these things, if it is so
abbrev pub given : Bool → List Thing → List Thing
given b ts = cond b ts []

-- the nodes of a pair's tree that the leaf of the least cell reaches from the right, where the piece comes first, or from the left
abbrev pub nodes_by : PuzzleValue → ChoiceValue → ℕ × ℕ → List Thing
nodes_by p c pair =
    given (c.name == pair.0) (map (a_node (pair.0)) (from_right (tree_levels p) (leaf_of p c)))
    ++ given (c.name == pair.1) (map (a_node (pair.0)) (from_left (tree_levels p) (leaf_of p c)))

-- the piece, unless it may be used any number of times; then its cells in order, and the nodes
abbrev pub things_of : PuzzleValue → ChoiceValue → List Thing
things_of p c = given (not (is_any p c.name)) (a_piece c.name ∷ []) ++ (map a_cell c.cells ++ flat_map (nodes_by p c) (pairs p))

-- the option that stands for the choice
abbrev pub option_of : PuzzleValue → ChoiceValue → List ℕ
option_of p c = map (thing_item p) (things_of p c)

-- the option that stands for leaving out these copies
abbrev pub leaving_option : PuzzleValue → List ℕ × List ℕ → List ℕ
leaving_option p parts = map (thing_item p) (map a_piece (parts.1))

-- the name of a node of a pair's tree: the name of the one that comes first, `_`, and the node's number in three symbols
abbrev pub node_word : ℕ → ℕ → List ℕ
node_word name h = name ∷ 95 ∷ symbol (h / 1024) ∷ symbol (h / 32 % 32) ∷ symbol (h % 32) ∷ []

-- the name of an item: the piece's, or the symbols of the cell's three coordinates, or the node's
abbrev pub thing_name : Thing → List ℕ
thing_name (a_piece name) = name ∷ []
thing_name (a_cell v) = cell_word v
thing_name (a_node name h) = node_word name h

-- the problem that stands for the puzzle
unfoldable pub packing_problem : PuzzleValue → ProblemValue
packing_problem p = record {
  names = map thing_name (things p);
  primary = length (needed_things p);
  options = map (option_of p) (every_choice p) ++ map (leaving_option p) (leavings p);
}

-- whether that problem is within the limits
abbrev pub problem_fits : PuzzleValue → Bool
problem_fits p = is_small (packing_problem p)

-- what stands for a puzzle is a problem, where it is within the limits: no name comes twice, and no item in an option
abbrev pub PuzzlesHaveProblems : Type 0
PuzzlesHaveProblems = (p : PuzzleValue) → IsPuzzle p → problem_fits p ≡ true → IsProblem (packing_problem p)

-- ---- packings and exact covers

-- how many options lay a piece
abbrev pub laying_count : PuzzleValue → ℕ
laying_count p = length (every_choice p)

-- how many options there are
abbrev pub option_count : PuzzleValue → ℕ
option_count p = length (every_choice p) + length (leavings p)

-- the choice for which the option numbered o stands
abbrev pub choice_at : PuzzleValue → ℕ → ChoiceValue
choice_at p o = slice_index_or (every_choice p) (o - 1) (choice_with 0 [])

-- what the option numbered o leaves out, after the options that lay a piece
abbrev pub leaving_at : PuzzleValue → ℕ → List ℕ × List ℕ
leaving_at p o = slice_index_or (leavings p) (o - length (every_choice p) - 1) ([], [])

-- of the equal pieces the first ones are used, and the others aren't
pub record LeavesOut (chosen : ChoiceValue → Bool) (parts : List ℕ × List ℕ) : Type 0 where
  pub used : (n : ℕ) → IsIn n (parts.0) → IsUsed chosen n
  pub left : (n : ℕ) → IsIn n (parts.1) → IsUsed chosen n → ⊥

-- a set of options and a test on choices stand for each other: options that lay a piece for what is chosen, and those that leave out
-- spare copies for what is left
pub record SetStandsFor (p : PuzzleValue) (set : ℕ → Bool) (chosen : ChoiceValue → Bool) : Type 0 where
  pub within : (o : ℕ) → set o ≡ true → (0 < o) × (o ≤ option_count p)
  pub forth : (o : ℕ) → set o ≡ true → o ≤ laying_count p → chosen (choice_at p o) ≡ true
  pub back : (c : ChoiceValue) → chosen c ≡ true → (o : ℕ) × (set o ≡ true) × (o ≤ laying_count p) × (choice_at p o ≡ c)
  pub left : (o : ℕ) → laying_count p < o → o ≤ option_count p → ((set o ≡ true) ↔ LeavesOut chosen (leaving_at p o))

-- packings and exact covers are the same, one for one
pub record ArePackings (p : PuzzleValue) : Type 0 where
  pub packs : (set : ℕ → Bool) (chosen : ChoiceValue → Bool) → SetStandsFor p set chosen → IsExactCover (packing_problem p) set
      → IsPacking p chosen
  pub covers : (set : ℕ → Bool) (chosen : ChoiceValue → Bool) → SetStandsFor p set chosen → IsPacking p chosen
      → IsExactCover (packing_problem p) set
  pub some_packing : (set : ℕ → Bool) → IsExactCover (packing_problem p) set → (chosen : ChoiceValue → Bool) × SetStandsFor p set chosen
  pub some_cover : (chosen : ChoiceValue → Bool) → IsPacking p chosen → (set : ℕ → Bool) × SetStandsFor p set chosen
  pub one_packing : (set : ℕ → Bool) (chosen other : ChoiceValue → Bool) → SetStandsFor p set chosen → SetStandsFor p set other
      → (c : ChoiceValue) → chosen c ≡ other c
  pub one_cover : (set other : ℕ → Bool) (chosen : ChoiceValue → Bool) → SetStandsFor p set chosen → SetStandsFor p other chosen
      → (o : ℕ) → set o ≡ other o

-- so it is for each puzzle
abbrev pub CoversArePackings : Type 0
CoversArePackings = (p : PuzzleValue) → IsPuzzle p → ArePackings p

-- each placement of a packing leaves room
abbrev pub PackingsHaveRoom : Type 0
PackingsHaveRoom = (p : PuzzleValue) (chosen : ChoiceValue → Bool) (c : ChoiceValue) → IsPuzzle p → IsPacking p chosen → chosen c ≡ true → leaves_room p c ≡ true
