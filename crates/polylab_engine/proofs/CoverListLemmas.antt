-- What the listing of a problem's exact covers says: all of them, the first ones, or how many they are.
use Rattle.std.proofs.Common.{◌≡◌, ℕ, zero, suc, ◌<◌, ◌≤◌, arith, true, false, List, [], ◌∷◌, ◌++◌, length, map, take, get_or, Result, Ok, Err, refl, sym, ap, ap₂, ◌∙◌, subst, inl, inr, decimal, codes}
use Rattle.std.specs.Prelude.{flat_map}
use Rattle.std.proofs.lemmas.Bool.{lt-ltb, le-ltb}
use Rattle.std.proofs.lemmas.List.{take_all, length-take, get_or-take, append-nil}
use Rattle.std.proofs.lemmas.List.Folds.{flat_map-map}
use Rattle.text_lines.specs.Writing.{line_text, text_of}
use Rattle.x_texts.specs.Words.{visit_words}
use Rattle.cover_counts.specs.Digits.{numeral}
use Rattle.shared_words.specs.Lists.{has}
use Rattle.cover_problem.specs.ExactCover.{IsExactCover}
use Rattle.cover_problem.specs.Problem.{ProblemValue, IsProblem}
use Rattle.cover_problem.specs.declared.fault.Fault.{Fault}
use Rattle.cover_problem.specs.Reading.{problem_of}
use Rattle.cover_problem.proofs.TextLemmas.{read_is_text}
use Rattle.poly_texts.specs.Puzzle.{PuzzleValue}
use Rattle.cover_problem.specs.Grammar.{IsCoverText}
use Rattle.poly_place.specs.Packings.{packing_problem}
use Rattle.x_steps.specs.Order.{IsIn}
use Rattle.x_steps.specs.StateValue.{start, done}
use Rattle.x_steps.specs.Run.{visits_between}
use Rattle.x_steps.proofs.VisitLemmas.{visits_rise, visits_are_covers}
use Rattle.polylab_engine.specs.Account.{ReportValue, account_of}
use Rattle.polylab_engine.specs.Output.{level_words, total_lines, cover_output, cover_count_output, whole_report}
use Rattle.polylab_engine.specs.First.{IsFirstReport, stopped_line, first_cover_output}
use Rattle.polylab_engine.specs.Outcome.{covers_of}
use Rattle.polylab_engine.specs.Listed.{path_totals, AreAllCovers, ListsCovers, CountsCovers, ListsFirstCovers}
use Rattle.poly_place.specs.Listing.{AreExactCovers}
use Rattle.polylab_engine.proofs.PathLemmas.{all_covers}

-- the levels as they are written, level 0 at least
abbrev pub some_of : List ℕ → List ℕ
some_of [] = 0 ∷ []
some_of (count ∷ counts) = count ∷ counts

pub levels_are : (levels : List ℕ) → level_words levels ≡ codes "levels" ∷ map numeral (some_of levels)
levels_are [] = refl
levels_are (count ∷ counts) = refl

totals_are : (paths : List (List ℕ)) (steps : ℕ) (levels : List ℕ) → total_lines (length paths) steps levels ≡ path_totals paths steps (some_of levels)
totals_are paths steps levels =
    ap (λ (ws : List (List ℕ)). (codes "visits" ∷ numeral (length paths) ∷ []) ∷ (codes "steps" ∷ numeral steps ∷ []) ∷ ws ∷ []) (levels_are levels)

-- a line for each of these paths
abbrev path_lines : List (List ℕ) → List ℕ
path_lines paths = flat_map (λ (q : List ℕ). line_text (codes "visit" ∷ map decimal q)) paths

path_lines_are : (paths : List (List ℕ)) → text_of (map visit_words paths) ≡ path_lines paths
path_lines_are paths = flat_map-map line_text visit_words paths

covers_text
    : (paths : List (List ℕ)) (steps : ℕ) (levels : List ℕ)
    → text_of (map visit_words paths) ++ text_of (total_lines (length paths) steps levels) ≡ path_lines paths ++ text_of (path_totals paths steps (some_of levels))
covers_text paths steps levels = ap₂ (λ (xs ys : List ℕ). xs ++ ys) (path_lines_are paths) (ap text_of (totals_are paths steps levels))

-- its visits are its exact covers
visits_all : (p : ProblemValue) → IsProblem p → AreAllCovers p (visits_between p start done)
visits_all p sound = all_covers p (visits_between p start done) (visits_rise p) (visits_are_covers p sound)

-- a problem's output lists its exact covers
pub lists : (p : ProblemValue) → IsProblem p → ListsCovers p (cover_output p)
unfolding cover_output account_of visits_between
lists p sound = record {
  paths = visits_between p start done;
  steps = (whole_report true p).steps;
  levels = some_of (whole_report true p).levels;
  covers = visits_all p sound;
  lines = covers_text (visits_between p start done) (whole_report true p).steps (whole_report true p).levels;
}

-- with --count it tells how many they are
pub counts_covers : (p : ProblemValue) → IsProblem p → CountsCovers p (cover_count_output p)
unfolding cover_count_output account_of visits_between
counts_covers p sound = record {
  paths = visits_between p start done;
  steps = (whole_report false p).steps;
  levels = some_of (whole_report false p).levels;
  covers = visits_all p sound;
  lines = ap text_of (totals_are (visits_between p start done) (whole_report false p).steps (whole_report false p).levels);
}

-- with --first it lists the first of them
first_whole : (n : ℕ) (p : ProblemValue) → length (visits_between p start done) < n → cover_output p ≡ first_cover_output n p
unfolding cover_output first_cover_output account_of visits_between
first_whole n p l =
    let b = lt-ltb (length (visits_between p start done)) n l in
    rw (b, take_all n (visits_between p start done) (omega (arith, l))) refl

first_stopped
    : (n : ℕ) (p : ProblemValue) → n ≤ length (visits_between p start done)
    → first_cover_output n p ≡ path_lines (take n (visits_between p start done)) ++ line_text (stopped_line n)
unfolding first_cover_output account_of visits_between
first_stopped n p l =
    let b = le-ltb (length (visits_between p start done)) n l in
    rw b (ap₂ (λ (xs ys : List ℕ). xs ++ ys) (path_lines_are (take n (visits_between p start done))) (append-nil (line_text (stopped_line n))))

pub lists_first : (n : ℕ) (p : ProblemValue) → IsProblem p → ListsFirstCovers n p (first_cover_output n p)
lists_first n p sound = record {
  paths = visits_between p start done;
  covers = visits_all p sound;
  few = λ l. subst (ListsCovers p) (first_whole n p l) (lists p sound);
  first = first_stopped n p;
}

-- what is written of a problem that was read
pub listed : (input : List ℕ) (Listed : ProblemValue → List ℕ → Type 0) (output : ProblemValue → List ℕ) → ((p : ProblemValue) → IsProblem p → Listed p (output p)) → (text : List ℕ) → covers_of output (problem_of input) ≡ Ok text
    → (p : ProblemValue) × IsCoverText input p × Listed p text
listed input Listed output tells text e = by (problem_of input) refl e
  where
    by : (read : Result ProblemValue (Fault × ℕ)) → problem_of input ≡ read → covers_of output read ≡ Ok text → (p : ProblemValue) × IsCoverText input p × Listed p text
    by (Ok p) r h =
        let same : output p ≡ text = cc in
        let is = read_is_text input p r in
        (p, is, subst (Listed p) same (tells p is.problem))
    by (Err f) r h = absurd (cc)

-- the visits of a problem are exact covers
visits_covers : (p : ProblemValue) → IsProblem p → AreExactCovers p (whole_report true p).visits
unfolding account_of visits_between
visits_covers p sound k lt = (visits_are_covers p sound).sound (get_or (visits_between p start done) k []) (path_in (visits_between p start done) k lt)
  where
    path_in : (paths : List (List ℕ)) (i : ℕ) → i < length paths → IsIn (get_or paths i []) paths
    path_in [] i h = absurd (omega (arith, h))
    path_in (x ∷ xs) zero h = inl refl
    path_in (x ∷ xs) (suc i) h = inr (path_in xs i (omega (arith, h)))

-- the same, of the visits that a report of a puzzle's problem keeps
pub report_covers : (p : PuzzleValue) (q : ProblemValue) (r : ReportValue) (visits : List (List ℕ)) → q ≡ packing_problem p → IsProblem q → r ≡ whole_report true q → visits ≡ r.visits → AreExactCovers (packing_problem p) visits
report_covers p q r visits e sound report kept = subst (λ vs. AreExactCovers (packing_problem p) vs) (sym (kept ∙ ap (λ b. b.visits) (report ∙ ap (whole_report true) e))) (visits_covers (packing_problem p) (subst IsProblem e sound))

-- the first ones of exact covers are exact covers
covers_taken : (p : ProblemValue) (n : ℕ) (paths : List (List ℕ)) → AreExactCovers p paths → AreExactCovers p (take n paths)
covers_taken p n paths all k lt =
    let within : k < n = (let l = length-take n paths in omega arith) in
    let there : k < length paths = (let l = length-take n paths in omega arith) in
    subst (λ path. IsExactCover p (has path)) (sym (get_or-take n paths k [] within)) (all k there)

-- the same, of the first visits of a puzzle's problem
pub first_report_covers : (n : ℕ) (p : PuzzleValue) (q : ProblemValue) (r : ReportValue) (visits : List (List ℕ)) → q ≡ packing_problem p → IsProblem q → IsFirstReport n q r → visits ≡ r.visits → AreExactCovers (packing_problem p) visits
first_report_covers n p q r visits e sound first kept =
    subst (λ vs. AreExactCovers (packing_problem p) vs) (sym (kept ∙ first.visits ∙ ap (λ t. take n (whole_report true t).visits) e))
    (covers_taken (packing_problem p) n (whole_report true (packing_problem p)).visits (visits_covers (packing_problem p) (subst IsProblem e sound)))
