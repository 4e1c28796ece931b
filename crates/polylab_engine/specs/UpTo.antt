-- What `solve --up-to`, `count --up-to` and `options --up-to` write of a puzzle: they search the smaller problem, which leaves out what
-- symmetries repeat.
--
-- Example: the comment of `options --up-to rotations` at the piece Z, where each cover stands for 24 packings and no two covers are alike,
-- is the lines `# up to rotations`, `# anchor Z`, `# packings for each cover 24` and `# no two covers are alike` (proofs/UpToExamples.antt).
use Rattle.std.specs.Prelude.{ℕ, List, [], ◌∷◌, ◌++◌, Bool, true, false, Option, None, Some, length, decimal, codes}
use Rattle.text_lines.specs.Writing.{line_text, text_of}
use Rattle.poly_texts.specs.Puzzle.{PuzzleValue}
use Rattle.cover_problem.specs.Problem.{ProblemValue}
use Rattle.cover_problem.specs.Grammar.{written}
use Rattle.poly_place.specs.declared.alike.Group.{Group}
use Rattle.poly_place.specs.declared.alike.Group.TheVariants.{Rotations, Symmetries}
use Rattle.poly_place.specs.Packings.{Thing, thing_name}
use Rattle.poly_place.specs.Listing.{packings_from}
use Rattle.poly_distinct.specs.Free.{acts_freely}
use Rattle.poly_distinct.specs.Rule.{anchor_of}
use Rattle.poly_distinct.specs.UpTo.{smaller, new_paths, stood_for, each_stands}
use Rattle.cover_counts.specs.Digits.{numeral}
use Rattle.polylab_engine.specs.Account.{ReportValue}
use Rattle.polylab_engine.specs.Output.{whole_report, tally_lines}
use Rattle.polylab_engine.specs.Packed.{number_line}

-- the word of a group
abbrev pub group_word : Group → List ℕ
group_word Rotations = codes "rotations"
group_word Symmetries = codes "symmetries"

-- the line of the number of classes
abbrev pub class_line : Group → ℕ → List (List ℕ)
class_line group n = group_word group ∷ numeral n ∷ []

-- the report of the search of the smaller problem
abbrev pub smaller_report : Group → PuzzleValue → ReportValue
smaller_report group p = whole_report true (smaller p group)

-- what `solve --up-to` writes: in path order those of the packings found that are like none before them, and their number
unfoldable pub solve_up_to_output : Group → PuzzleValue → List ℕ
solve_up_to_output group p =
    let paths = new_paths p group (smaller_report group p).visits in
    packings_from p 1 paths ++ line_text (class_line group (length paths))

-- the lines of the number of packings and of classes, of the options of a problem, and of the steps and the levels
abbrev pub up_to_lines : Group → ProblemValue → ℕ → ℕ → ℕ → List ℕ → List (List (List ℕ))
up_to_lines group q packings classes steps levels =
    number_line packings ∷ class_line group classes ∷ (codes "options" ∷ decimal (length q.options) ∷ []) ∷ tally_lines steps levels

-- of a report of the smaller problem: how many packings the visits stand for, how many of these are like none before them, and the options,
-- the steps and the levels
abbrev pub up_to_text : Group → PuzzleValue → ReportValue → List ℕ
up_to_text group p r =
    text_of (up_to_lines group (smaller p group) (stood_for p group r.visits) (length (new_paths p group r.visits)) r.steps r.levels)

-- what `count --up-to` writes
unfoldable pub count_up_to_output : Group → PuzzleValue → List ℕ
count_up_to_output group p = up_to_text group p (smaller_report group p)

-- the word of the anchor
abbrev pub anchor_word : Option Thing → List ℕ
anchor_word None = codes "none"
anchor_word (Some t) = thing_name t

-- the line of how many packings each cover stands for, where that is one number
abbrev pub each_lines : Option ℕ → List (List (List ℕ))
each_lines None = []
each_lines (Some n) = (codes "# packings for each cover" ∷ decimal n ∷ []) ∷ []

-- the lines of the group and of the anchor
abbrev pub anchor_lines : Group → Option Thing → List (List (List ℕ))
anchor_lines group anchor = (codes "# up to" ∷ group_word group ∷ []) ∷ (codes "# anchor" ∷ anchor_word anchor ∷ []) ∷ []

-- the line that no two covers are alike, if they aren't
abbrev pub free_lines : Bool → List (List (List ℕ))
free_lines true = (codes "# no two covers are alike" ∷ []) ∷ []
free_lines false = []

-- the comment: the group and the anchor, how many packings each cover stands for, and whether no two covers are alike
abbrev pub comment_lines : Group → Option Thing → Option ℕ → Bool → List (List (List ℕ))
comment_lines group anchor each free = anchor_lines group anchor ++ each_lines each ++ free_lines free

-- what `options --up-to` writes: the comment, and the smaller problem
unfoldable pub options_up_to_output : Group → PuzzleValue → List ℕ
options_up_to_output group p =
    text_of (comment_lines group (anchor_of p group) (each_stands p group) (acts_freely p group)) ++ written (smaller p group)
