-- How packings are listed: each with its number and its layers (`packings_from`), for a list of paths of options (`AreExactCovers`).
--
-- Example: of two dominoes A and B in the box 2 2 1 the first packing is the lines `packing 1`, `AB`, `AB`
-- (polylab_engine/proofs/PackedExamples.antt computes all four).
use Rattle.std.specs.Prelude.{ℕ, ◌+◌, List, [], ◌∷◌, ◌++◌, slice_index_or, EachIndex, decimal, codes}
use Rattle.text_lines.specs.Writing.{line_text}
use Rattle.poly_texts.specs.Puzzle.{PuzzleValue}
use Rattle.shared_words.specs.Lists.{has}
use Rattle.cover_problem.specs.Problem.{ProblemValue}
use Rattle.cover_problem.specs.ExactCover.{IsExactCover}
use Rattle.poly_place.specs.Chosen.{packing_value}
use Rattle.poly_place.specs.Layers.{layers}

-- the paths are exact covers
abbrev pub AreExactCovers : ProblemValue → List (List ℕ) → Type 0
AreExactCovers p paths = EachIndex paths (λ k. IsExactCover p (has (slice_index_or paths k [])))

-- the packing of a path, with its number and its layers
abbrev pub packing_text : PuzzleValue → ℕ → List ℕ → List ℕ
packing_text p k path = line_text (codes "packing" ∷ decimal k ∷ []) ++ layers (packing_value p path)

-- the packings of these paths, numbered from k on
abbrev pub packings_from : PuzzleValue → ℕ → List (List ℕ) → List ℕ
packings_from p k [] = []
packings_from p k (path ∷ paths) = packing_text p k path ++ packings_from p (k + 1) paths
