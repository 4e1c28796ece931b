-- What the output tells further (`TellsFurther`): in which order packings are shown, which is that of the paths of options that stand
-- for them; and how many options there are.
--
-- Example: of two dominoes A and B in the box 2 2 1 the paths 1 8, 2 7, 3 6 and 4 5 stand for the packings, which are shown in this order
-- (proofs/PackedExamples.antt computes it).
use Rattle.std.specs.Prelude.{ℕ, ◌≡◌, ◌<◌, ◌≤◌, Bool, List, ◌++◌, length, take}
use Rattle.text_lines.specs.Writing.{line_text, text_of}
use Rattle.poly_texts.specs.Puzzle.{PuzzleValue}
use Rattle.poly_texts.specs.Grammar.{IsPuzzleText}
use Rattle.poly_place.specs.Packings.{ChoiceValue, IsPacking}
use Rattle.poly_place.specs.Chosen.{chosen_by, is_among}
use Rattle.poly_place.specs.Listing.{packings_from}
use Rattle.x_steps.specs.Order.{IsIn, PathsRise}
use Rattle.polylab_engine.specs.declared.job.Job.{Job}
use Rattle.polylab_engine.specs.declared.job.Job.TheVariants as jobs
use Rattle.polylab_engine.specs.declared.job.PuzzleJob.TheVariants as puzzle_jobs
use Rattle.polylab_engine.specs.Packed.{number_line, count_lines}
use Rattle.polylab_engine.specs.First.{stopped_line}

-- the paths stand for the packings, each once: as tests on choices
pub record ArePackingPaths (p : PuzzleValue) (paths : List (List ℕ)) : Type 0 where
  pub sound : (q : List ℕ) → IsIn q paths → IsPacking p (is_among (chosen_by p q))
  pub complete : (chosen : ChoiceValue → Bool) → IsPacking p chosen
      → (q : List ℕ) × IsIn q paths × ((c : ChoiceValue) → is_among (chosen_by p q) c ≡ chosen c)
  pub once : (q r : List ℕ) → IsIn q paths → IsIn r paths
      → ((c : ChoiceValue) → is_among (chosen_by p q) c ≡ is_among (chosen_by p r) c) → q ≡ r

-- the text shows the packings, each once, in path order, and tells how many they are
pub record ShowsInOrder (p : PuzzleValue) (text : List ℕ) : Type 0 where
  pub paths : List (List ℕ)
  pub lines : text ≡ packings_from p 1 paths ++ line_text (number_line (length paths))
  pub rise : PathsRise paths
  pub packings : ArePackingPaths p paths

-- the text shows the first n of the packings, each once, in path order, and that the search stopped there; or all, and their number
pub record ShowsFirstInOrder (n : ℕ) (p : PuzzleValue) (text : List ℕ) : Type 0 where
  pub paths : List (List ℕ)
  pub rise : PathsRise paths
  pub packings : ArePackingPaths p paths
  pub few : length paths < n → text ≡ packings_from p 1 paths ++ line_text (number_line (length paths))
  pub first : n ≤ length paths → text ≡ packings_from p 1 (take n paths) ++ line_text (stopped_line n)

-- the text begins with the lines of `count`, whose number of options is that of the puzzle's problem
pub record CountsOptions (p : PuzzleValue) (text : List ℕ) : Type 0 where
  pub packings : ℕ
  pub steps : ℕ
  pub levels : List ℕ
  pub rest : List ℕ
  pub lines : text ≡ text_of (count_lines p packings steps levels) ++ rest

-- what `solve` writes, also with `--first`, shows the packings in path order; and what `count` writes, also with `--classes`, tells how
-- many options there are
abbrev pub TellsFurther : Job → List ℕ → List ℕ → Type 0
TellsFurther (jobs.Puzzle puzzle_jobs.Solve) input text = (p : PuzzleValue) × IsPuzzleText input p × ShowsInOrder p text
TellsFurther (jobs.Puzzle (puzzle_jobs.First n)) input text = (p : PuzzleValue) × IsPuzzleText input p × ShowsFirstInOrder n p text
TellsFurther (jobs.Puzzle puzzle_jobs.Count) input text = (p : PuzzleValue) × IsPuzzleText input p × CountsOptions p text
TellsFurther (jobs.Puzzle puzzle_jobs.Classes) input text = (p : PuzzleValue) × IsPuzzleText input p × CountsOptions p text
TellsFurther job input text = Unit {0}
