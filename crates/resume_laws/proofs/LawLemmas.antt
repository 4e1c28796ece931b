-- The laws of what `resume` writes, and of runs of it.
use Rattle.std.proofs.Common.{◌≡◌, ◌∙◌, ◌⊎◌, inl, inr, ℕ, Bool, true, Option, Some, List, [], ◌∷◌, ◌++◌, Ok, refl, sym, ap, subst, arith, append-nil}
use Rattle.std.proofs.Common as common
use Rattle.std.specs.List.{list_all}
use Rattle.std.proofs.lemmas.Bool.{and_parts}
use Rattle.text_lines.specs.Lines.{lines_of}
use Rattle.text_lines.specs.Writing.{text_of}
use Rattle.text_lines.proofs.WritingLemmas.{written_lines}
use Rattle.text_lines.proofs.ResultLemmas.{ok_is}
use Rattle.cover_problem.specs.Problem.{ProblemValue, IsProblem}
use Rattle.cover_problem.specs.Reading.{problem_of}
use Rattle.x_steps.specs.StateValue.{start, done}
use Rattle.x_steps.specs.Run.{steps_between}
use Rattle.x_steps.specs.declared.state.Label.TheVariants.{X1, Done}
use Rattle.x_steps.proofs.RunLemmas.{start_fits, done_fits, start_first}
use Rattle.x_branches.proofs.StageLemmas.{rank_comes}
use Rattle.x_branches.proofs.RunnerLemmas.{before_not, other_before}
use Rattle.x_texts.specs.declared.breakpoint.Break.{Break}
use Rattle.x_snapshot.specs.Snapshot.{SnapshotValue, snapshot_with, IsSnapshot}
use Rattle.polylab_engine.specs.declared.job.Job.TheVariants as jobs
use Rattle.polylab_engine.specs.declared.job.CoverJob.TheVariants as cover_jobs
use Rattle.polylab_engine.specs.Account.{ReportValue}
use Rattle.polylab_engine.specs.Output.{report_text, whole_report, cover_output}
use Rattle.polylab_engine.specs.Stretch.{stretch_report}
use Rattle.polylab_engine.specs.Resumed.{branch_end, stop_of, end_text, rest_text, resume_output}
use Rattle.polylab_engine.specs.Joined.{after_slice, slice_report}
use Rattle.polylab_engine.specs.Outcome.{job_outcome, covers_of}
use Rattle.polylab_engine.proofs.ResumeLemmas.{stops, stop_is_snapshot, rest_ended}
use Rattle.resume_laws.specs.ResumedTexts.{report_part, rest_part, IsReportPart, TellsReport, TellsNumbers, RunRequest, to_the_end, IsResumed, IsInput, IsRest, ReachEnd, AllList, TellTogether, whole_text, IsWholeText}
use Rattle.resume_laws.proofs.PartLemmas.{are_report_lines}
use Rattle.resume_laws.proofs.WordLemmas.{report_lines, report_is_lines, report_words, report_begins}
use Rattle.resume_laws.proofs.OutputLemmas.{snapshot_read, run_of, snapshot_again, RestOr, rest_or, report_told, resumed_report, resumed_rest, resumed_parts, is_input}
use Rattle.resume_laws.proofs.ChainLemmas.{slices, numbers_told, visits_told}

-- ---- one output

module _ (a : RunRequest) (text output : List ℕ) (h : IsResumed a text output) where
  v : SnapshotValue
  v = (run_of a text output h).snapshot

  s : IsSnapshot v
  unfolding v
  s = (run_of a text output h).is

  written : output ≡ resume_output a.steps a.lists v
  unfolding v
  written = (run_of a text output h).written

  pub parts : output ≡ report_part output ++ rest_part output
  parts = subst (λ o. o ≡ report_part o ++ rest_part o) (sym written) (resumed_parts a.steps a.lists v s)

  told : TellsReport output (slice_report a.lists a.steps v)
  told = ap report_part written ∙ resumed_report a.steps a.lists v s

  left : rest_part output ≡ rest_text v (stop_of a.steps v)
  left = ap rest_part written ∙ resumed_rest a.steps a.lists v s

  pub report : (r : ReportValue) × TellsReport output r
  report = (slice_report a.lists a.steps v, told)

  pub lines : IsReportPart (report_part output)
  lines =
      let r = slice_report a.lists a.steps v in
      let same : report_part output ≡ text_of (report_lines r) = told ∙ sym (report_is_lines r) in
      subst (λ ls. are_report_lines ls ≡ true) (sym (ap lines_of same ∙ written_lines (report_lines r) (report_words r))) (report_begins r)

  pub rest : IsRest (rest_part output)
  rest = by (rest_or a.steps v s)
    where
      by : RestOr a.steps v → IsRest (rest_part output)
      by (inl e) = inl (left ∙ e.1)
      by (inr e) = inr (subst IsInput (sym (left ∙ e.1)) (is_input (after_slice a.steps v) (stop_is_snapshot a.steps v s)))

-- a stretch without a number of steps stops at the end
pub stops_at_end : (v : SnapshotValue) → IsSnapshot v → stop_of common.None v ≡ branch_end v
stops_at_end v s = by (stops common.None v s)
  where
    by : (stop_of common.None v ≡ branch_end v) ⊎ (◌≡◌ {A = Option ℕ} common.None (Some (steps_between v.problem v.state (stop_of common.None v)))) → stop_of common.None v ≡ branch_end v
    by (inl e) = e
    by (inr e) = absurd (cc)

pub end : (a : RunRequest) (text output : List ℕ) → IsResumed a text output → a.steps ≡ common.None → rest_part output ≡ end_text
end a text output h none =
    let r = run_of a text output h in
    let e : stop_of a.steps r.snapshot ≡ branch_end r.snapshot = ap (λ most. stop_of most r.snapshot) none ∙ stops_at_end r.snapshot r.is in
    ap rest_part r.written ∙ resumed_rest a.steps a.lists r.snapshot r.is ∙ rest_ended r.snapshot (stop_of a.steps r.snapshot) (stop_is_snapshot a.steps r.snapshot r.is) e

-- ---- runs to the end

-- a run to the end tells the whole stretch
pub whole_told : (lists : Bool) (text whole : List ℕ) (h : IsResumed (to_the_end lists) text whole) → let v = (run_of (to_the_end lists) text whole h).snapshot in TellsReport whole (stretch_report lists v.problem v.state (branch_end v))
unfolding v
whole_told lists text whole h =
    let r = run_of (to_the_end lists) text whole h in
    told (to_the_end lists) text whole h ∙ ap (λ t. report_text (stretch_report lists r.snapshot.problem r.snapshot.state t)) (stops_at_end r.snapshot r.is)

pub numbers : (asked : List RunRequest) (text : List ℕ) (outputs : List (List ℕ)) (lists : Bool) (whole : List ℕ) → ReachEnd asked text outputs → IsResumed (to_the_end lists) text whole → TellTogether outputs (TellsNumbers whole)
numbers asked text outputs lists whole runs h =
    let r = run_of (to_the_end lists) text whole h in
    numbers_told asked outputs r.snapshot r.is (slices asked text outputs r.snapshot r.is r.read runs) whole lists (whole_told lists text whole h)

pub visits : (asked : List RunRequest) (text : List ℕ) (outputs : List (List ℕ)) (lists : Bool) (whole : List ℕ) → ReachEnd asked text outputs → IsResumed (to_the_end lists) text whole → AllList (to_the_end lists ∷ asked) → TellTogether outputs (TellsReport whole)
visits asked text outputs lists whole runs h all =
    let e = and_parts lists (list_all (λ a. a.lists) asked) all in
    let r = run_of (to_the_end lists) text whole h in
    visits_told asked outputs r.snapshot r.is (slices asked text outputs r.snapshot r.is r.read runs) whole e.1
    (whole_told lists text whole h ∙ ap (λ l. report_text (stretch_report l r.snapshot.problem r.snapshot.state (branch_end r.snapshot))) e.0)

-- ---- the whole run of a problem

-- the snapshot at its start
abbrev pub at_start : ProblemValue → List Break → SnapshotValue
at_start p breaks = snapshot_with p common.None common.None start breaks

pub start_is_snapshot : (p : ProblemValue) → IsProblem p → IsSnapshot (at_start p [])
start_is_snapshot p g =
    let up = start_first p done (done_fits p) in
    let less = other_before p start done (start_fits p) (done_fits p) up (λ e. no_label (ap (λ t. t.label) e)) in
    record {
      problem = g;
      breaks = refl;
      on_run = record { low = tt; high = tt; fits = start_fits p };
      inside = record {
        branch = record { low = tt; high = tt; order = rank_comes p start done (start_fits p) (done_fits p) less };
        within = record {
          begun = before_not p start start (start_fits p) (omega arith);
          not_past = before_not p done start (done_fits p) up;
        };
      };
    }
  where
    no_label : X1 ≡ Done → ⊥
    no_label e = cc

pub input : (p : ProblemValue) → IsProblem p → IsInput (whole_text p)
input p g = is_input (at_start p []) (start_is_snapshot p g)

pub whole : (p : ProblemValue) → IsProblem p → IsWholeText p (whole_text p)
whole p g = ([], snapshot_again (at_start p []) (start_is_snapshot p g))

-- what `cover` writes tells the whole run
cover_told : (p : ProblemValue) (input covers : List ℕ) → problem_of input ≡ Ok p → job_outcome (jobs.Cover cover_jobs.List) input ≡ Ok covers → TellsReport covers (stretch_report true p start done)
unfolding job_outcome cover_output
cover_told p input covers read e =
    let same : report_text (whole_report true p) ≡ covers = ok_is (report_text (whole_report true p)) covers (ap (covers_of cover_output) (sym read) ∙ e) in
    ap report_part (sym same ∙ sym (append-nil (report_text (whole_report true p)))) ∙ report_told (whole_report true p) [] (record { starts = refl; ended = refl })

module _ (asked : List RunRequest) (p : ProblemValue) (text : List ℕ) (outputs : List (List ℕ)) (input covers : List ℕ) (runs : ReachEnd asked text outputs) (is : IsWholeText p text) (read : problem_of input ≡ Ok p) (e : job_outcome (jobs.Cover cover_jobs.List) input ≡ Ok covers) where
  begun : IsSnapshot (at_start p is.0)
  begun = snapshot_read text (at_start p is.0) is.1

  pub cover : TellTogether outputs (TellsNumbers covers)
  cover = numbers_told asked outputs (at_start p is.0) begun (slices asked text outputs (at_start p is.0) begun is.1 runs) covers true (cover_told p input covers read e)

  pub cover_visits : AllList asked → TellTogether outputs (TellsReport covers)
  cover_visits all = visits_told asked outputs (at_start p is.0) begun (slices asked text outputs (at_start p is.0) begun is.1 runs) covers all (cover_told p input covers read e)
