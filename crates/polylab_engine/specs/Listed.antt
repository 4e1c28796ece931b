-- What the output lists: of `cover` the exact covers of the problem (`ListsCovers`), of `solve` the packings of the puzzle
-- (`ListsPackings`), each once; of both with `--first` some of these (`ListsFirstCovers`, `ListsFirstPackings`);
-- what `cover --count` tells (`CountsCovers`), and `count` and its classes (`CountsPackings`, `CountsClasses`);
-- what `solve`, `count` and `options` tell up to symmetry (`ListsDistinct`, `CountsDistinct`, `GivesSmaller`);
-- what `resume` and `join` tell (`TellsStretch`, `AddsParts`); and the same by the job (`IsListed`).
--
-- Example: the path 4 5 1 is an exact cover of the small problem: its options a d f, b g and c e have each item once.
-- proofs/JobExamples.antt shows it.
use Rattle.std.specs.Prelude.{ℕ, ◌≡◌, ◌<◌, ◌≤◌, ◌⊎◌, ◌*◌, ◌&&◌, Bool, true, false, Option, Some, List, [], ◌∷◌, ◌++◌, length, map, flat_map, take, ◌+◌, if◌then◌else◌, Contains, decimal, codes}
use Rattle.std.specs.List.{list_all, IsDistinct}
use Rattle.std.specs.List.Sorted.{IsStrictlySortedBy}
use Rattle.std.specs.Ordering.{nat_cmp}
use Rattle.std.specs.Cmp.Lexicographic.{slice_cmp}
use Rattle.text_lines.specs.Writing.{line_text, text_of}
use Rattle.cover_problem.specs.Problem.{ProblemValue}
use Rattle.cover_problem.specs.Grammar.{written, IsCoverText}
use Rattle.poly_texts.specs.Puzzle.{PuzzleValue, copy_symbols}
use Rattle.poly_texts.specs.Grammar.{IsPuzzleText}
use Rattle.poly_place.specs.Packings.{ChoiceValue, packing_problem}
use Rattle.poly_place.specs.Chosen.{PackingValue, same_choice, is_among}
use Rattle.poly_place.specs.Layers.{layers}
use Rattle.poly_place.specs.declared.alike.Group.{Group}
use Rattle.poly_place.specs.declared.alike.Group.TheVariants.{Rotations, Symmetries}
use Rattle.poly_place.specs.Classes.{AreAlike, IsClassCount}
use Rattle.x_steps.specs.Order.{PathsRise}
use Rattle.x_steps.specs.Covers.{AreCovers}
use Rattle.x_steps.specs.StateValue.{StateValue, start, done}
use Rattle.x_steps.specs.Run.{ReachesIn, states, visits, level_count}
use Rattle.x_steps.specs.Levels.{without_last_zeros}
use Rattle.shared_words.specs.Lists.{has, numbers}
use Rattle.cover_problem.specs.ExactCover.{IsExactCover}
use Rattle.cover_counts.specs.Digits.{numeral}
use Rattle.x_branches.specs.RunOrder.{ComesBefore}
use Rattle.x_snapshot.specs.Snapshot.{SnapshotValue, IsSnapshot, at_state}
use Rattle.x_snapshot.specs.Writer.{snapshot_text}
use Rattle.polylab_engine.specs.Packing.{Packs}
use Rattle.polylab_engine.specs.Resumed.{branch_end, end_text, report_up_to}
use Rattle.polylab_engine.specs.Added.{report_counts, AreResumed, IsWholeRun}
use Rattle.part_sums.specs.declared.total.Counted.{Counted}
use Rattle.part_sums.specs.declared.total.Counted.TheVariants.{Covers, Packings}
use Rattle.part_sums.specs.Answers.{sum_lines}
use Rattle.part_sums.specs.Parts.{CountedPart, IsJoined, sum_text}
use Rattle.polylab_engine.specs.declared.job.Job.{Job}
use Rattle.polylab_engine.specs.declared.job.Job.TheVariants as jobs
use Rattle.polylab_engine.specs.declared.job.CoverJob.TheVariants as cover_jobs
use Rattle.polylab_engine.specs.declared.job.PuzzleJob.TheVariants as puzzle_jobs
use Rattle.polylab_engine.specs.Output.{total_lines, cover_count_output}
use Rattle.poly_place.specs.Listing.{packings_from}
use Rattle.polylab_engine.specs.Packed.{count_output}
use Rattle.polylab_engine.specs.First.{stopped_line}
use Rattle.polylab_engine.specs.Classified.{class_lines}
use Rattle.poly_distinct.specs.Distinct.{AreOneOfEach, MeetAll}
use Rattle.poly_distinct.specs.Free.{acts_freely}
use Rattle.poly_distinct.specs.Rule.{anchor_of}
use Rattle.poly_distinct.specs.UpTo.{smaller, whole_paths, each_stands}
use Rattle.polylab_engine.specs.UpTo.{class_line, up_to_lines, smaller_report, comment_lines}
use Rattle.debug_script.specs.Input.{problem_text, command_lines}
use Rattle.polylab_engine.specs.Debugged.{debug_output}

-- the lines of how many these paths are, the number of steps, and the levels
abbrev pub path_totals : List (List ℕ) → ℕ → List ℕ → List (List (List ℕ))
path_totals paths steps levels =
    (codes "visits" ∷ numeral (length paths) ∷ []) ∷ (codes "steps" ∷ numeral steps ∷ []) ∷ (codes "levels" ∷ map numeral levels) ∷ []

-- the paths rise in path order and are, as sets, the exact covers, each once
pub record AreAllCovers (p : ProblemValue) (paths : List (List ℕ)) : Type 0 where
  pub rise : IsStrictlySortedBy (slice_cmp nat_cmp) paths
  pub sound : (q : List ℕ) → Contains paths q → IsExactCover p (has q)
  pub complete : (set : ℕ → Bool) → IsExactCover p set → (q : List ℕ) × Contains paths q × ((o : ℕ) → has q o ≡ set o)
  pub once : (q r : List ℕ) → Contains paths q → Contains paths r → ((o : ℕ) → has q o ≡ has r o) → q ≡ r

-- the text is a line for each exact cover, in path order; then how many they are, the number of steps, and the levels
pub record ListsCovers (p : ProblemValue) (text : List ℕ) : Type 0 where
  pub paths : List (List ℕ)
  pub steps : ℕ
  pub levels : List ℕ
  pub covers : AreAllCovers p paths
  pub lines : text ≡ flat_map (λ q. line_text (codes "visit" ∷ map decimal q)) paths ++ flat_map line_text (path_totals paths steps levels)

-- the text lists the first n of the exact covers, in path order, and that the search stopped there; or all, and their number
pub record ListsFirstCovers (n : ℕ) (p : ProblemValue) (text : List ℕ) : Type 0 where
  pub paths : List (List ℕ)
  pub covers : AreAllCovers p paths
  pub few : length paths < n → ListsCovers p text
  pub first : n ≤ length paths
      → text ≡ flat_map (λ q. line_text (codes "visit" ∷ map decimal q)) (take n paths) ++ line_text (stopped_line n)

-- the text tells how many exact covers there are, the number of steps, and the levels
pub record CountsCovers (p : ProblemValue) (text : List ℕ) : Type 0 where
  pub paths : List (List ℕ)
  pub steps : ℕ
  pub levels : List ℕ
  pub covers : AreAllCovers p paths
  pub lines : text ≡ flat_map line_text (path_totals paths steps levels)

-- whether two lists have the same choices
abbrev pub are_same : List ChoiceValue → List ChoiceValue → Bool
are_same cs ds = list_all (is_among ds) cs && list_all (is_among cs) ds

-- the lists of choices, none of which has a choice twice, are the packings, each once: as tests on choices
pub record AreAllPackings (p : PuzzleValue) (packings : List (List ChoiceValue)) : Type 0 where
  pub distinct : (cs : List ChoiceValue) → Contains packings cs → IsDistinct same_choice cs
  pub sound : (cs : List ChoiceValue) → Contains packings cs → Packs p (is_among cs)
  pub complete : (chosen : ChoiceValue → Bool) → Packs p chosen
      → (cs : List ChoiceValue) × Contains packings cs × ((c : ChoiceValue) → is_among cs c ≡ chosen c)
  pub once : IsDistinct are_same packings

-- the packing of these choices, with what is shown of the puzzle
abbrev pub packing_of : PuzzleValue → List ChoiceValue → PackingValue
packing_of p cs = record { region = p.region; maybe_cells = p.maybe_cells; placements = cs; symbols = copy_symbols p }

-- the packings, numbered from k on: each with its number and its layers
abbrev pub shown_from : PuzzleValue → ℕ → List (List ChoiceValue) → List ℕ
shown_from p k [] = []
shown_from p k (cs ∷ packings) = line_text (codes "packing" ∷ decimal k ∷ []) ++ layers (packing_of p cs) ++ shown_from p (k + 1) packings

-- the text shows the packings, each once, and tells how many they are
pub record ListsPackings (p : PuzzleValue) (text : List ℕ) : Type 0 where
  pub packings : List (List ChoiceValue)
  pub all : AreAllPackings p packings
  pub lines : text ≡ shown_from p 1 packings ++ line_text (codes "packings" ∷ numeral (length packings) ∷ [])

-- the text shows n of the packings, each once, and tells that the search stopped there; or all, and their number
pub record ListsFirstPackings (n : ℕ) (p : PuzzleValue) (text : List ℕ) : Type 0 where
  pub packings : List (List ChoiceValue)
  pub all : AreAllPackings p packings
  pub few : length packings < n → ListsPackings p text
  pub first : n ≤ length packings → text ≡ shown_from p 1 (take n packings) ++ line_text (stopped_line n)

-- the lines of how many these packings are, the numbers of options and steps, and the levels
abbrev pub packing_totals : List (List ChoiceValue) → ℕ → ℕ → List ℕ → List (List (List ℕ))
packing_totals packings options steps levels =
    (codes "packings" ∷ numeral (length packings) ∷ []) ∷ (codes "options" ∷ decimal options ∷ []) ∷ (codes "steps" ∷ numeral steps ∷ [])
    ∷ (codes "levels" ∷ map numeral levels) ∷ []

-- the text tells how many packings there are, the numbers of options and steps, and the levels
pub record CountsPackings (p : PuzzleValue) (text : List ℕ) : Type 0 where
  pub packings : List (List ChoiceValue)
  pub options : ℕ
  pub steps : ℕ
  pub levels : List ℕ
  pub all : AreAllPackings p packings
  pub lines : text ≡ flat_map line_text (packing_totals packings options steps levels)

-- the text tells what `count` tells, and then how many of the packings are like none before them where rotations, or all symmetries,
-- carry some onto others
pub record CountsClasses (p : PuzzleValue) (text : List ℕ) : Type 0 where
  pub packings : List (List ChoiceValue)
  pub options : ℕ
  pub steps : ℕ
  pub levels : List ℕ
  pub rotations : ℕ
  pub symmetries : ℕ
  pub all : AreAllPackings p packings
  pub lines : text ≡ flat_map line_text (packing_totals packings options steps levels ++ class_lines rotations symmetries)
  pub by_rotations : IsClassCount (AreAlike Rotations) (map (packing_of p) packings) rotations
  pub by_symmetries : IsClassCount (AreAlike Symmetries) (map (packing_of p) packings) symmetries

-- the text shows some packings of the puzzle, in path order, and tells how many: each packing of the puzzle is like one of them, and no
-- two of them are alike, where rotations, or all symmetries, of the region carry some onto others
pub record ListsDistinct (group : Group) (p : PuzzleValue) (text : List ℕ) : Type 0 where
  pub paths : List (List ℕ)
  pub lines : text ≡ packings_from p 1 paths ++ line_text (class_line group (length paths))
  pub rise : PathsRise paths
  pub one_of_each : AreOneOfEach p group paths

-- the text tells how many packings there are, and how many of them are like none before them, in the words of `CountsClasses`; and the
-- options, the steps and the levels of the search of the smaller problem
pub record CountsDistinct (group : Group) (p : PuzzleValue) (text : List ℕ) : Type 0 where
  pub packings : List (List ChoiceValue)
  pub number : ℕ
  pub all : AreAllPackings p packings
  pub lines : text
      ≡ text_of (up_to_lines group (smaller p group) (length packings) number (smaller_report group p).steps (smaller_report group p).levels)
  pub by_group : IsClassCount (AreAlike group) (map (packing_of p) packings) number

-- the text is a comment and the smaller problem: its exact covers, by the numbers of the puzzle's options, stand for packings of which
-- each packing is like one; each stands for as many as the comment says, if it says so; and no two of them are alike, if it says that
pub record GivesSmaller (group : Group) (p : PuzzleValue) (text : List ℕ) : Type 0 where
  pub lines : text ≡ text_of (comment_lines group (anchor_of p group) (each_stands p group) (acts_freely p group)) ++ written (smaller p group)
  pub meets : (covers : List (List ℕ)) → AreCovers (smaller p group) covers → MeetAll p group (whole_paths p group covers)
  pub counts : (n : ℕ) (covers paths : List (List ℕ)) → each_stands p group ≡ Some n → AreCovers (smaller p group) covers → PathsRise covers
      → AreCovers (packing_problem p) paths → PathsRise paths → length paths ≡ length covers * n
  pub alone : (covers : List (List ℕ)) → acts_freely p group ≡ true → AreCovers (smaller p group) covers → PathsRise covers
      → AreOneOfEach p group (whole_paths p group covers)

-- the lines of a stretch that passes these states: its visits, if they are listed, and how many visits, steps, and X2 states at each level it
-- has
abbrev pub stretch_text : Bool → ProblemValue → List StateValue → List ℕ
stretch_text lists p passed =
    text_of (map (λ q. codes "visit" ∷ map decimal q) (if lists then visits p passed else []))
    ++ text_of (total_lines (length (visits p passed)) (length passed) (without_last_zeros (map (level_count passed) (numbers (length p.names + 1) 0))))

-- the text tells of the stretch of a run from a snapshot's state on: it stops at the end of the snapshot's branch, or as many steps on as
-- were asked for, and never past that end. It passes the states of the run between the two, and its lines are of these. The run's visits
-- are those before it, its own, and those after it. Where it stops there is a snapshot of the same problem and branch again, and that is
-- written, but at the end
pub record TellsStretch (most : Option ℕ) (lists : Bool) (v : SnapshotValue) (text : List ℕ) : Type 0 where
  pub stop : StateValue
  pub before : ℕ
  pub steps : ℕ
  pub later : ℕ
  pub begins : ReachesIn v.problem start v.state before
  pub reached : ReachesIn v.problem v.state stop steps
  pub goes_on : ReachesIn v.problem stop done later
  pub run : ReachesIn v.problem start done (before + steps + later)
  pub part : visits v.problem (states v.problem (before + steps + later) start)
      ≡ visits v.problem (states v.problem before start) ++ visits v.problem (states v.problem steps v.state) ++ visits v.problem (states v.problem later stop)
  pub not_past : ComesBefore v.problem (branch_end v) stop → ⊥
  pub stops : (stop ≡ branch_end v) ⊎ (most ≡ Some steps)
  pub snapshot : IsSnapshot (at_state v stop)
  pub ended : stop ≡ branch_end v → text ≡ stretch_text lists v.problem (states v.problem steps v.state) ++ end_text
  pub unended : (stop ≡ branch_end v → ⊥) → text ≡ stretch_text lists v.problem (states v.problem steps v.state) ++ snapshot_text (at_state v stop)

-- the text is the lines of the sum of a whole's parts, which join from its state to its branch's end. If each part's answer is what
-- `resume` writes of it, these say what is reported of the whole: of a whole run what `cover --count` writes of its problem, and if that is
-- a puzzle's, what `count` writes of the puzzle
pub record AddsParts (counted : Counted) (input text : List ℕ) : Type 0 where
  pub whole : SnapshotValue
  pub parts : List CountedPart
  pub joined : IsJoined input whole parts
  pub lines : text ≡ sum_text counted whole parts
  pub resumed : AreResumed parts
      → text ≡ text_of (sum_lines counted whole.problem (report_counts (report_up_to false whole (branch_end whole))))
  pub covers : counted ≡ Covers → AreResumed parts → IsWholeRun whole → text ≡ cover_count_output whole.problem
  pub packings : counted ≡ Packings → AreResumed parts → IsWholeRun whole
      → (p : PuzzleValue) → whole.problem ≡ packing_problem p → text ≡ count_output p

-- the input is a text of a problem or a puzzle, that of a snapshot, or that of a whole's parts, and what is written is what the job is to tell of
-- it, or what its commands are answered
abbrev pub IsListed : Job → List ℕ → List ℕ → Type 0
IsListed (jobs.Cover cover_jobs.List) input text = (p : ProblemValue) × IsCoverText input p × ListsCovers p text
IsListed (jobs.Cover cover_jobs.Count) input text = (p : ProblemValue) × IsCoverText input p × CountsCovers p text
IsListed (jobs.Cover (cover_jobs.First n)) input text = (p : ProblemValue) × IsCoverText input p × ListsFirstCovers n p text
IsListed (jobs.Cover cover_jobs.Debug) input text = (p : ProblemValue) × IsCoverText (problem_text input) p
    × (text ≡ debug_output (command_lines input) p)
IsListed (jobs.Puzzle puzzle_jobs.Solve) input text = (p : PuzzleValue) × IsPuzzleText input p × ListsPackings p text
IsListed (jobs.Puzzle (puzzle_jobs.First n)) input text = (p : PuzzleValue) × IsPuzzleText input p × ListsFirstPackings n p text
IsListed (jobs.Puzzle puzzle_jobs.Count) input text = (p : PuzzleValue) × IsPuzzleText input p × CountsPackings p text
IsListed (jobs.Puzzle puzzle_jobs.Classes) input text = (p : PuzzleValue) × IsPuzzleText input p × CountsClasses p text
IsListed (jobs.Puzzle puzzle_jobs.Options) input text = (p : PuzzleValue) × IsPuzzleText input p × (text ≡ written (packing_problem p))
IsListed (jobs.Puzzle (puzzle_jobs.SolveUpTo group)) input text = (p : PuzzleValue) × IsPuzzleText input p × ListsDistinct group p text
IsListed (jobs.Puzzle (puzzle_jobs.CountUpTo group)) input text = (p : PuzzleValue) × IsPuzzleText input p × CountsDistinct group p text
IsListed (jobs.Puzzle (puzzle_jobs.OptionsUpTo group)) input text = (p : PuzzleValue) × IsPuzzleText input p × GivesSmaller group p text
IsListed (jobs.Puzzle puzzle_jobs.Debug) input text = (p : PuzzleValue) × IsPuzzleText (problem_text input) p
    × (text ≡ debug_output (command_lines input) (packing_problem p))
IsListed (jobs.Resume steps list) input text = (v : SnapshotValue) × (input ≡ snapshot_text v) × IsSnapshot v × TellsStretch steps list v text
IsListed (jobs.Join counted) input text = AddsParts counted input text
