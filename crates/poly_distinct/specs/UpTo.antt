-- A search up to symmetry: the smaller problem of a puzzle, at the anchor that the rule finds, and what paths of it stand for.
--
-- Example: of the row 0 0 0, 1 0 0, 2 0 0, filled by A of one cell and B of two, half a turn repeats the one packing in the other. The
-- path 1 4 of the smaller problem is the path 1 5 of the puzzle's, and stands for both (proofs/DistinctExamples.antt).
use Rattle.std.specs.Prelude.{◌≡◌, ℕ, ◌==◌, Option, None, Some, option_map, cond, List, [], ◌∷◌, filter, map, length, slice_index_or}
use Rattle.std.specs.List.{list_all}
use Rattle.poly_texts.specs.Puzzle.{PuzzleValue, IsPuzzle}
use Rattle.poly_place.specs.declared.alike.Group.{Group}
use Rattle.poly_place.specs.Packings.{ChoiceValue, Thing, choice_with, every_choice, packing_problem}
use Rattle.cover_problem.specs.Problem.{ProblemValue}
use Rattle.poly_distinct.specs.Rule.{anchor_of, group_at, is_kept_at, symmetries_at}
use Rattle.poly_distinct.specs.Moves.{MovesValue}
use Rattle.poly_cells.specs.Coordinates.{Coordinates}
use Rattle.poly_distinct.specs.Distinct.{IsAnchor, cells_at, is_at, smaller_problem, numbers_left, whole_path, distinct_paths}
use Rattle.poly_distinct.specs.Distinct.{images_counted, images_by}

-- a puzzle, and the symmetries by which its packings are told apart
pub record UpToValue : Type 0 where
  pub puzzle : PuzzleValue
  pub group : Group

-- a puzzle, a group, and a thing at which choices are left out
pub record PartValue : Type 0 where
  pub puzzle : PuzzleValue
  pub group : Group
  pub thing : Thing

-- those of this puzzle, group and thing
abbrev pub part_with : PuzzleValue → Group → Thing → PartValue
part_with p group t = record { puzzle = p; group = group; thing = t }

-- the smaller problem at the anchor; the whole problem where there is none
abbrev pub smaller_at : PuzzleValue → Group → Option Thing → ProblemValue
smaller_at p group None = packing_problem p
smaller_at p group (Some t) = smaller_problem p t (symmetries_at p group t)

-- the problem of a search up to symmetry
unfoldable pub smaller : PuzzleValue → Group → ProblemValue
smaller p group = smaller_at p group (anchor_of p group)

-- paths of it, by the numbers of the options of the puzzle
abbrev pub whole_paths_at : PuzzleValue → Group → Option Thing → List (List ℕ) → List (List ℕ)
whole_paths_at p group None paths = paths
whole_paths_at p group (Some t) paths = map (whole_path p t (symmetries_at p group t)) paths

-- the same at the anchor
unfoldable pub whole_paths : PuzzleValue → Group → List (List ℕ) → List (List ℕ)
whole_paths p group paths = whole_paths_at p group (anchor_of p group) paths

-- those of them, by the numbers of the options of the puzzle, whose packings are like none before them
abbrev pub new_paths : PuzzleValue → Group → List (List ℕ) → List (List ℕ)
new_paths p group paths = distinct_paths p group (whole_paths p group paths)

-- how many packings paths stand for: each for as many as there are sets of cells to which the symmetries bring its cells at the anchor
abbrev pub stood_for_at : PuzzleValue → Group → Option Thing → List (List ℕ) → ℕ
stood_for_at p group None paths = length paths
stood_for_at p group (Some t) paths = images_counted p t (symmetries_at p group t) (whole_paths_at p group (Some t) paths)

-- the same at the anchor
unfoldable pub stood_for : PuzzleValue → Group → List (List ℕ) → ℕ
stood_for p group paths = stood_for_at p group (anchor_of p group) paths

-- the number that each of these is
abbrev pub one_number : List ℕ → Option ℕ
one_number [] = None
one_number (n ∷ ns) = cond (list_all (λ m. m == n) (n ∷ ns)) (Some n) None

-- how many packings each path stands for, where that is one number, by the choices at the thing that are kept
abbrev pub each_stands_at : PuzzleValue → Group → Option Thing → Option ℕ
each_stands_at p group None = Some 1
each_stands_at p group (Some t) =
    let ns = symmetries_at p group t in
    one_number (map (λ c. length (images_by p.region ns c.cells)) (filter (is_kept_at p ns t) (every_choice p)))

-- the same at the anchor
unfoldable pub each_stands : PuzzleValue → Group → Option ℕ
each_stands p group = each_stands_at p group (anchor_of p group)

-- ---- as the code has it

-- the part at the anchor, if there is one
abbrev pub part_of : PuzzleValue → Group → Option PartValue
part_of p group = option_map (part_with p group) (anchor_of p group)

-- what a search up to symmetry has is of a puzzle, and is the part at the anchor
pub record IsUpTo (p : PuzzleValue) (group : Group) (part : Option PartValue) : Type 0 where
  pub sound : IsPuzzle p
  pub part_is : part ≡ part_of p group

-- the problem of a part
abbrev pub part_problem : PartValue → ProblemValue
part_problem a = smaller_problem a.puzzle a.thing (symmetries_at a.puzzle a.group a.thing)

-- the numbers of its options in the puzzle
abbrev pub part_numbers : PartValue → List ℕ
part_numbers a = numbers_left a.puzzle a.thing (symmetries_at a.puzzle a.group a.thing)

-- its paths by these numbers
abbrev pub whole_paths_of : PartValue → List (List ℕ) → List (List ℕ)
whole_paths_of a paths = map (whole_path a.puzzle a.thing (symmetries_at a.puzzle a.group a.thing)) paths

-- the symmetries by which choices are left out there
abbrev pub symmetries_in : PartValue → List ℕ
symmetries_in a = symmetries_at a.puzzle a.group a.thing

-- the cells of the first of these choices that is at the thing, or none
abbrev pub first_cells : Thing → List ChoiceValue → List Coordinates
first_cells t cs = (slice_index_or (filter (is_at t) cs) 0 (choice_with 0 [])).cells

-- how many packings a path stands for, and how many some paths do
abbrev pub stands_for_in : PartValue → List ℕ → ℕ
stands_for_in a path =
    length (images_by a.puzzle.region (symmetries_in a) (cells_at a.puzzle a.thing (whole_path a.puzzle a.thing (symmetries_in a) path)))

abbrev pub counted_in : PartValue → List (List ℕ) → ℕ
counted_in a paths = images_counted a.puzzle a.thing (symmetries_in a) (whole_paths_of a paths)

-- for each of these choices that is kept to how many sets of cells its cells are brought
abbrev pub counts_by : PartValue → List ChoiceValue → List ℕ
counts_by a cs =
    map (λ c. length (images_by a.puzzle.region (symmetries_in a) c.cells)) (filter (is_kept_at a.puzzle (symmetries_in a) a.thing) cs)

-- the same of all choices, and the number that each of these is
abbrev pub counts_in : PartValue → List ℕ
counts_in a = counts_by a (every_choice a.puzzle)

abbrev pub each_in : PartValue → Option ℕ
each_in a = one_number (counts_in a)

-- the moves of a puzzle by a group
abbrev pub moves_of : PuzzleValue → Group → MovesValue
moves_of p group = record { puzzle = p; group = group }

-- the thing is an anchor; the moves are those that may be used there; and the numbers and the problem are those of the part
pub record IsPart (a : PartValue) (moves : MovesValue) (numbers : List ℕ) (problem : ProblemValue) : Type 0 where
  pub sound : IsPuzzle a.puzzle
  pub anchor : IsAnchor a.puzzle a.thing
  pub moves_are : moves ≡ moves_of a.puzzle (group_at a.puzzle a.group a.thing)
  pub numbers_are : numbers ≡ part_numbers a
  pub problem_is : problem ≡ part_problem a
