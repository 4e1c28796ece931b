-- What `count --classes` writes of a puzzle: what `count` writes, and then how many classes the packings make.
--
-- Example: of two dominoes in the box 2 2 1 it writes `packings 4`, `options 8`, `steps 55`, `levels 1 4 4`, `rotations 1`,
-- `symmetries 1` (proofs/PackedExamples.antt computes it).
use Rattle.std.specs.Prelude.{ℕ, List, [], ◌∷◌, ◌++◌, true, map, decimal, codes}
use Rattle.text_lines.specs.Writing.{text_of}
use Rattle.poly_texts.specs.Puzzle.{PuzzleValue}
use Rattle.poly_place.specs.Packings.{packing_problem}
use Rattle.poly_place.specs.Chosen.{PackingValue, packing_value}
use Rattle.poly_place.specs.declared.alike.Group.{Group}
use Rattle.poly_place.specs.declared.alike.Group.TheVariants.{Rotations, Symmetries}
use Rattle.poly_place.specs.ClassCount.{are_alike, class_count}
use Rattle.polylab_engine.specs.Output.{whole_report}
use Rattle.polylab_engine.specs.Packed.{count_output}

-- the packings of these paths
abbrev pub packings_of : PuzzleValue → List (List ℕ) → List PackingValue
packings_of p paths = map (packing_value p) paths

-- the number of classes of packings by a group
abbrev pub classes_of : Group → List PackingValue → ℕ
classes_of group ps = class_count (are_alike group) ps

-- the lines of the classes by the rotations, and by all symmetries
abbrev pub class_lines : ℕ → ℕ → List (List (List ℕ))
class_lines rotations symmetries = (codes "rotations" ∷ decimal rotations ∷ []) ∷ (codes "symmetries" ∷ decimal symmetries ∷ []) ∷ []

-- the same, of the packings of these paths
abbrev pub lines_of_classes : PuzzleValue → List (List ℕ) → List (List (List ℕ))
lines_of_classes p paths = let ps = packings_of p paths in class_lines (classes_of Rotations ps) (classes_of Symmetries ps)

-- what `count --classes` writes: what `count` does, and then the lines of the classes of all packings
unfoldable pub classes_output : PuzzleValue → List ℕ
classes_output p =
    count_output p ++ text_of (lines_of_classes p (whole_report true (packing_problem p)).visits)
