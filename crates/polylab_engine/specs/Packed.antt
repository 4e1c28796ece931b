-- What `solve`, `count` and `options` write of a puzzle.
--
-- Example: of two dominoes A and B in the box 2 2 1 `solve` writes first `packing 1`, `AB`, `AB`; `count` writes `packings 4`,
-- `options 8`, `steps 55`, `levels 1 4 4` (proofs/PackedExamples.antt computes both).
use Rattle.std.specs.Prelude.{ℕ, List, [], ◌∷◌, ◌++◌, true, false, length, decimal, codes}
use Rattle.text_lines.specs.Writing.{line_text, text_of}
use Rattle.poly_texts.specs.Puzzle.{PuzzleValue}
use Rattle.cover_problem.specs.Grammar.{written}
use Rattle.poly_place.specs.Packings.{packing_problem}
use Rattle.poly_place.specs.Listing.{packings_from}
use Rattle.cover_counts.specs.Digits.{numeral}
use Rattle.polylab_engine.specs.Account.{ReportValue}
use Rattle.polylab_engine.specs.Output.{whole_report, tally_lines}

-- the line of the number of packings
abbrev pub number_line : ℕ → List (List ℕ)
number_line n = codes "packings" ∷ numeral n ∷ []

-- the line of the number of options
abbrev pub options_line : PuzzleValue → List (List ℕ)
options_line p = codes "options" ∷ decimal (length (packing_problem p).options) ∷ []

-- what `solve` writes: the packings in path order, and their number
unfoldable pub solve_output : PuzzleValue → List ℕ
solve_output p =
    let r = whole_report true (packing_problem p) in
    packings_from p 1 r.visits ++ line_text (number_line r.visited)

-- the lines of the number of packings and of options, and of the steps and the levels
abbrev pub count_lines : PuzzleValue → ℕ → ℕ → List ℕ → List (List (List ℕ))
count_lines p packings steps levels = number_line packings ∷ options_line p ∷ tally_lines steps levels

-- these lines, of the report of a search
abbrev pub count_text : PuzzleValue → ReportValue → List ℕ
count_text p r = text_of (count_lines p r.visited r.steps r.levels)

-- what `count` writes: the number of packings and of options, and the steps and the levels of the search
unfoldable pub count_output : PuzzleValue → List ℕ
count_output p = count_text p (whole_report false (packing_problem p))

-- what `options` writes: the problem whose exact covers are the packings
unfoldable pub options_output : PuzzleValue → List ℕ
options_output p = written (packing_problem p)
