-- Texts that are resumed: what `resume` writes of a text is a report and then a rest, which is `end` or a text again. So runs follow one
-- another, each on the rest of what the one before wrote, and what they tell adds up to what one run tells.
--
-- Example: of the small problem's start `resume --steps 40` writes `visits 1`, `steps 40`, `levels 1 2 2 1`, and then the snapshot where
-- it stopped. Of that rest `resume` writes `visits 0`, `steps 3`, `levels 0` and `end`. proofs/ResumedExamples.antt computes the two parts
-- of both, and what they add up to, and proofs/RunExamples.antt the two runs.
use Rattle.std.specs.Prelude.{ℕ, ◌≡◌, ◌≤◌, ◌⊎◌, Bool, true, not, ◌||◌, nat_eq, nat_lt, Option, Some, None, List, [], ◌∷◌, ◌++◌}
use Rattle.std.specs.Prelude.{◌^◌, length, drop, flat_map, codes, Ok}
use Rattle.std.specs.List.{before_first, position_or_len, starts_with, list_all}
use Rattle.std.specs.Str.{bytes_eq}
use Rattle.text_lines.specs.Lines.{lines_of}
use Rattle.cover_problem.specs.Problem.{ProblemValue}
use Rattle.cover_problem.specs.Reading.{problem_of}
use Rattle.x_steps.specs.StateValue.{start}
use Rattle.x_steps.specs.Levels.{without_last_zeros}
use Rattle.x_texts.specs.declared.breakpoint.Break.{Break}
use Rattle.x_snapshot.specs.Snapshot.{snapshot_with}
use Rattle.x_snapshot.specs.Writer.{snapshot_text}
use Rattle.x_snapshot.specs.Judged.{snapshot_of}
use Rattle.polylab_engine.specs.declared.job.Job.TheVariants as jobs
use Rattle.polylab_engine.specs.declared.job.CoverJob.TheVariants as cover_jobs
use Rattle.polylab_engine.specs.Account.{ReportValue}
use Rattle.polylab_engine.specs.Output.{report_text}
use Rattle.polylab_engine.specs.Resumed.{end_text}
use Rattle.polylab_engine.specs.Joined.{sum_of}
use Rattle.polylab_engine.specs.Outcome.{job_outcome}

-- ---- an output in two parts

-- whether the rest of an output begins at this line: it begins with `polysnap`, or is `end`
abbrev pub begins_rest : List ℕ → Bool
begins_rest line = starts_with nat_eq line (codes "polysnap") || bytes_eq line (codes "end")

-- these lines as a text, each with its end
abbrev pub ended_lines : List (List ℕ) → List ℕ
ended_lines lines = flat_map (λ line. line ++ 10 ∷ []) lines

-- the report of an output: its lines before the first at which the rest begins
unfoldable pub report_part : List ℕ → List ℕ
report_part output = ended_lines (before_first begins_rest (lines_of output))

-- the rest of an output: its lines from that one on
unfoldable pub rest_part : List ℕ → List ℕ
rest_part output = ended_lines (drop (position_or_len begins_rest (lines_of output)) (lines_of output))

-- the rest begins at none of a text's lines
abbrev pub IsReportPart : List ℕ → Type 0
IsReportPart text = list_all (λ line. not (begins_rest line)) (lines_of text) ≡ true

-- an output tells this report
abbrev pub TellsReport : List ℕ → ReportValue → Type 0
TellsReport output r = report_part output ≡ report_text r

-- an output tells the numbers of this report, whatever visits it lists
abbrev pub TellsNumbers : List ℕ → ReportValue → Type 0
TellsNumbers output r = (visits : List (List ℕ)) × TellsReport output (record r { visits = visits })

-- numbers that are written with all their digits
abbrev pub are_written : List ℕ → Bool
are_written ns = list_all (λ n. nat_lt n (10 ^ 64)) ns

-- a report whose numbers are written with all their digits, and whose last level has a state
pub record IsWritten (r : ReportValue) : Type 0 where
  pub visits : list_all are_written r.visits ≡ true
  pub visited : are_written (r.visited ∷ []) ≡ true
  pub steps : are_written (r.steps ∷ []) ≡ true
  pub levels : are_written r.levels ≡ true
  pub last : without_last_zeros r.levels ≡ r.levels

-- ---- runs of `resume`

-- what is asked of a run: to stop after so many steps, if that is asked, and to list the visits
pub record RunRequest : Type 0 where
  pub steps : Option ℕ
  pub lists : Bool

-- a run to the branch's end, which lists the visits or doesn't
abbrev pub to_the_end : Bool → RunRequest
to_the_end lists = record { steps = None; lists = lists }

-- `resume`, of which this is asked, takes the text and writes this output
abbrev pub IsResumed : RunRequest → List ℕ → List ℕ → Type 0
IsResumed a text output = job_outcome (jobs.Resume a.steps a.lists) text ≡ Ok output

-- a text that is no longer than what is read, and that `resume` takes, whatever is asked of it
pub record IsInput (text : List ℕ) : Type 0 where
  pub within : length text ≤ 134217728
  pub taken : (a : RunRequest) → (output : List ℕ) × IsResumed a text output

-- what is left by a run: `end`, or an input
abbrev pub IsRest : List ℕ → Type 0
IsRest text = (text ≡ end_text) ⊎ IsInput text

-- runs one after another that leave a rest: the first takes the text, and each later one the rest of what the one before wrote
abbrev pub AreRuns : List RunRequest → List ℕ → List (List ℕ) → List ℕ → Type 0
AreRuns [] text [] rest = text ≡ rest
AreRuns (a ∷ asked) text (output ∷ outputs) rest = IsResumed a text output × AreRuns asked (rest_part output) outputs rest
AreRuns _ text _ rest = ⊥

-- runs one after another from a text to the end of its branch
abbrev pub ReachEnd : List RunRequest → List ℕ → List (List ℕ) → Type 0
ReachEnd asked text outputs = AreRuns asked text outputs end_text

-- as many steps as are asked for are one at least
abbrev pub moves : Option ℕ → Bool
moves None = true
moves (Some n) = nat_lt 0 n

-- each of these runs takes a step, unless it begins at the end
abbrev pub AllMove : List RunRequest → Type 0
AllMove asked = list_all (λ a. moves a.steps) asked ≡ true

-- all of these runs list the visits
abbrev pub AllList : List RunRequest → Type 0
AllList asked = list_all (λ a. a.lists) asked ≡ true

-- ---- what runs tell together

-- the outputs tell these reports, each its own
abbrev pub AreTold : List (List ℕ) → List ReportValue → Type 0
AreTold [] [] = Unit {0}
AreTold (output ∷ outputs) (r ∷ rs) = TellsReport output r × AreTold outputs rs
AreTold _ _ = ⊥

-- the outputs tell reports whose sum has this property
abbrev pub TellTogether : List (List ℕ) → (ReportValue → Type 0) → Type 0
TellTogether outputs P = (rs : List ReportValue) × AreTold outputs rs × P (sum_of rs)

-- an output tells a number of steps that isn't below n
abbrev pub TellsSteps : ℕ → List ℕ → Type 0
TellsSteps n output = (r : ReportValue) × TellsNumbers output r × (n ≤ r.steps)

-- the text of a problem's whole run: that of the snapshot at its start
abbrev pub whole_text : ProblemValue → List ℕ
whole_text p = snapshot_text (snapshot_with p None None start [])

-- a text is read as the start of a problem's whole run, whatever breakpoints it has
abbrev pub IsWholeText : ProblemValue → List ℕ → Type 0
IsWholeText p text = (breaks : List Break) × (snapshot_of text ≡ Ok (snapshot_with p None None start breaks))

-- ---- what the laws speak of

-- each output of `resume`, and what was asked of it
abbrev pub EachOutput : (RunRequest → List ℕ → Type 0) → Type 0
EachOutput P = (a : RunRequest) (text output : List ℕ) → IsResumed a text output → P a output

-- so many runs that leave a rest, what one run to the end writes of the first text, and what was asked of those runs
abbrev pub EachAhead : (List RunRequest → ℕ → List ℕ → List ℕ → Type 0) → Type 0
EachAhead P = (asked : List RunRequest) (text : List ℕ) (outputs : List (List ℕ)) (rest : List ℕ) (lists : Bool) (whole : List ℕ)
    → AreRuns asked text outputs rest → IsResumed (to_the_end lists) text whole → P asked (length outputs) rest whole

-- the outputs of runs to the end, what one run to the end writes of the first text, and what was asked of all these
abbrev pub EachWhole : (List RunRequest → List (List ℕ) → List ℕ → Type 0) → Type 0
EachWhole P = (asked : List RunRequest) (text : List ℕ) (outputs : List (List ℕ)) (lists : Bool) (whole : List ℕ)
    → ReachEnd asked text outputs → IsResumed (to_the_end lists) text whole → P (to_the_end lists ∷ asked) outputs whole

-- the outputs of runs to the end from the text of a problem's whole run on, what `cover` writes of a text of that problem, and what was
-- asked of these runs
abbrev pub EachCover : (List RunRequest → List (List ℕ) → List ℕ → Type 0) → Type 0
EachCover P = (asked : List RunRequest) (p : ProblemValue) (text : List ℕ) (outputs : List (List ℕ)) (input covers : List ℕ)
    → ReachEnd asked text outputs → IsWholeText p text → problem_of input ≡ Ok p → job_outcome (jobs.Cover cover_jobs.List) input ≡ Ok covers
    → P asked outputs covers
