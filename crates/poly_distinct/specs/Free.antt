-- Free anchors: no symmetry brings a choice that is kept at the anchor to itself, unless it leaves each cell of the region where it is.
-- Then no two exact covers of the smaller problem are alike, and each of them is a class of its own.
--
-- Example: in the row of three cells with the pieces A of two cells and B of one there are two ways in which rotations move the region's
-- cells. They bring the choice of A that is kept to two sets of cells, so that the rotations act freely at A. They don't at B, since both
-- ways leave the cell in the middle where it is (proofs/FreeExamples.antt).
use Rattle.std.specs.Prelude.{ℕ, ◌==◌, Bool, false, ◌&&◌, List, map, filter, length, Option, None, Some}
use Rattle.std.specs.List.{range_with_len}
use Rattle.poly_cells.specs.Coordinates.{Coordinates}
use Rattle.poly_cells.specs.Sets.{in_order}
use Rattle.poly_texts.specs.Puzzle.{PuzzleValue}
use Rattle.poly_place.specs.declared.alike.Group.{Group}
use Rattle.poly_place.specs.Placements.{cells_cmp}
use Rattle.poly_place.specs.Packings.{ChoiceValue, Thing, every_choice}
use Rattle.poly_place.specs.Forms.{carrier, forms_cmp}
use Rattle.poly_distinct.specs.Distinct.{images_by, keeps_region}
use Rattle.poly_distinct.specs.Rule.{is_kept_at}
use Rattle.poly_distinct.specs.UpTo.{one_number, each_stands}

-- ---- the cells of choices

-- the sets of cells that the choices have, each once
abbrev pub cell_sets : List ChoiceValue → List (List Coordinates)
cell_sets cs = in_order cells_cmp (map (λ c. c.cells) cs)

-- whether no two of the puzzle's choices have the same cells: there are as many sets of cells as choices
unfoldable pub have_own_cells : PuzzleValue → Bool
have_own_cells p = length (cell_sets (every_choice p)) == length (every_choice p)

-- ---- the ways in which cells are moved

-- the symmetries of the group that keep the region and its optional cells
abbrev pub region_symmetries : PuzzleValue → Group → List ℕ
region_symmetries p group = filter (keeps_region p group) (range_with_len 0 48)

-- the ways in which the symmetries move the region's cells, each once
abbrev pub carriers_by : List Coordinates → List ℕ → List (List ℕ)
carriers_by region ns = in_order forms_cmp (map (carrier region) ns)

-- the number of ways in which the symmetries of the group that keep the region and its optional cells move the region's cells
unfoldable pub carrier_count : PuzzleValue → Group → ℕ
carrier_count p group = length (carriers_by p.region (region_symmetries p group))

-- ---- free anchors

-- whether there is a number, and it is n
abbrev pub is_number : ℕ → Option ℕ → Bool
is_number n None = false
is_number n (Some m) = m == n

-- the number of sets of cells to which the symmetries bring the cells of a choice that is kept at the thing, if it is the same for
-- each such choice
abbrev pub each_by : PuzzleValue → Thing → List ℕ → Option ℕ
each_by p t ns = one_number (map (λ c. length (images_by p.region ns c.cells)) (filter (is_kept_at p ns t) (every_choice p)))

-- whether the group acts freely at the thing: no two choices have the same cells, and the symmetries bring each choice that is kept at
-- the thing to as many sets of cells as there are ways in which the group moves the region's cells
unfoldable pub acts_freely_at : PuzzleValue → Group → Thing → List ℕ → Bool
acts_freely_at p group t ns = have_own_cells p && is_number (carrier_count p group) (each_by p t ns)

-- whether the group acts freely at the anchor; if there is none, whether no two choices have the same cells, and the group leaves each
-- cell where it is
unfoldable pub acts_freely : PuzzleValue → Group → Bool
acts_freely p group = have_own_cells p && is_number (carrier_count p group) (each_stands p group)
