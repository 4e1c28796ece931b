-- What `cover --first` and `solve --first` write: as many visits, or packings, as are asked for, in path order, and then the line `first N`,
-- where the search stopped; or all there are and what tells of them, where they are fewer.
--
-- Example: the small problem has one visit. Of it `cover --first 1` writes `visit 4 5 1` and `first 1`, and `cover --first 2` what `cover`
-- writes. proofs/OutputExamples.antt computes it.
use Rattle.std.specs.Prelude.{ℕ, ◌≡◌, ◌<◌, true, List, [], ◌∷◌, ◌++◌, map, take, length, decimal, codes, nat_lt, if◌then◌else◌}
use Rattle.text_lines.specs.Writing.{line_text, text_of}
use Rattle.cover_problem.specs.Problem.{ProblemValue}
use Rattle.poly_texts.specs.Puzzle.{PuzzleValue}
use Rattle.poly_place.specs.Packings.{packing_problem}
use Rattle.x_steps.specs.StateValue.{start}
use Rattle.x_steps.specs.Run as run
use Rattle.x_texts.specs.Words.{visit_words}
use Rattle.polylab_engine.specs.Account.{ReportValue}
use Rattle.polylab_engine.specs.Output.{whole_report, total_lines}
use Rattle.poly_place.specs.Listing.{packings_from}
use Rattle.polylab_engine.specs.Packed.{number_line}

-- the line that tells that the search stopped at the visit of this number
abbrev pub stopped_line : ℕ → List (List ℕ)
stopped_line n = codes "first" ∷ decimal n ∷ []

-- a report that has the first n visits, is that of the whole run where there are fewer, and tells of no step after the last of them
pub record IsFirstReport (n : ℕ) (p : ProblemValue) (r : ReportValue) : Type 0 where
  pub visits : r.visits ≡ take n (whole_report true p).visits
  pub visited : r.visited ≡ length r.visits
  pub whole : r.visited < n → r ≡ whole_report true p
  pub soon : (k : ℕ) → k < r.steps → length (run.visits p (run.states p k start)) < n

-- the lines after the visits: the totals of a report that has fewer than n, or else that the search stopped there
abbrev pub cover_end : ℕ → ReportValue → List (List (List ℕ))
cover_end n r = if nat_lt r.visited n then total_lines r.visited r.steps r.levels else stopped_line n ∷ []

-- the first n visits of a whole run's report, and the lines after them
abbrev pub first_text : ℕ → ReportValue → List ℕ
first_text n r = text_of (map visit_words (take n r.visits)) ++ text_of (cover_end n r)

-- what `cover --first` writes of a problem
unfoldable pub first_cover_output : ℕ → ProblemValue → List ℕ
first_cover_output n p = first_text n (whole_report true p)

-- the line after the packings: how many they are where they are fewer than n, or else that the search stopped there
abbrev pub packings_end : ℕ → ℕ → List (List ℕ)
packings_end n visited = if nat_lt visited n then number_line visited else stopped_line n

-- what `solve --first` writes of a puzzle
unfoldable pub first_packings_output : ℕ → PuzzleValue → List ℕ
first_packings_output n p =
    let r = whole_report true (packing_problem p) in
    packings_from p 1 (take n r.visits) ++ line_text (packings_end n r.visited)
