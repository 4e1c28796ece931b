-- What `cover` writes: a line for each visit in path order, then how many visits and steps, and the levels. Numbers have all their digits,
-- however many these are.
--
-- Example: for the small problem `visit 4 5 1`, `visits 1`, `steps 43`, `levels 1 2 2 1` (proofs/OutputExamples.antt computes it).
use Rattle.std.specs.Prelude.{ℕ, List, [], ◌∷◌, ◌++◌, Bool, true, false, map, codes}
use Rattle.text_lines.specs.Writing.{text_of}
use Rattle.cover_problem.specs.Problem.{ProblemValue}
use Rattle.x_steps.specs.StateValue.{start, done}
use Rattle.x_steps.specs.Run.{states_between}
use Rattle.cover_counts.specs.Digits.{numeral}
use Rattle.x_texts.specs.Words.{visit_words}
use Rattle.polylab_engine.specs.Account.{Account, ReportValue, account_of, report_of}

-- the line of the counts of levels, level 0 at least
abbrev pub level_words : List ℕ → List (List ℕ)
level_words [] = codes "levels" ∷ codes "0" ∷ []
level_words (count ∷ counts) = codes "levels" ∷ map numeral (count ∷ counts)

-- the lines of the steps and the levels
abbrev pub tally_lines : ℕ → List ℕ → List (List (List ℕ))
tally_lines steps levels = (codes "steps" ∷ numeral steps ∷ []) ∷ level_words levels ∷ []

-- the lines after the visits: how many visits and steps, and the levels
abbrev pub total_lines : ℕ → ℕ → List ℕ → List (List (List ℕ))
total_lines visited steps levels = (codes "visits" ∷ numeral visited ∷ []) ∷ (codes "steps" ∷ numeral steps ∷ []) ∷ level_words levels ∷ []

-- what is written of a report that keeps its visits
abbrev pub report_text : ReportValue → List ℕ
report_text r = text_of (map visit_words r.visits) ++ text_of (total_lines r.visited r.steps r.levels)

-- the account of a problem's whole run, from X1 to Done
abbrev pub whole_account : Bool → ProblemValue → Account
whole_account keeps p = account_of keeps p (states_between p start done)

-- and its report
abbrev pub whole_report : Bool → ProblemValue → ReportValue
whole_report keeps p = report_of (whole_account keeps p)

-- what `cover` writes of a problem: the report of its whole run
unfoldable pub cover_output : ProblemValue → List ℕ
cover_output p = report_text (whole_report true p)

-- what `cover --count` writes of a problem: the lines after the visits
unfoldable pub cover_count_output : ProblemValue → List ℕ
cover_count_output p =
    let r = whole_report false p in
    text_of (total_lines r.visited r.steps r.levels)
