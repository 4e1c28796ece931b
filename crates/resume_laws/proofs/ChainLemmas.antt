-- Runs one after another tell the slices of one stretch.
use Rattle.std.proofs.Common.{◌≡◌, ◌∙◌, inl, inr, ℕ, Bool, true, false, Option, List, [], ◌∷◌, Ok, refl, sym, ap, ap₂, subst}
use Rattle.std.specs.List.{list_all}
use Rattle.std.proofs.lemmas.Bool.{and_parts}
use Rattle.text_lines.proofs.ResultLemmas.{ok_is}
use Rattle.x_snapshot.specs.Snapshot.{SnapshotValue, IsSnapshot}
use Rattle.x_snapshot.specs.Judged.{snapshot_of}
use Rattle.polylab_engine.specs.Account.{ReportValue, account_of}
use Rattle.polylab_engine.specs.Output.{report_text}
use Rattle.polylab_engine.specs.Stretch.{stretch_report}
use Rattle.polylab_engine.specs.Resumed.{branch_end, stop_of, end_text, rest_text, resume_output}
use Rattle.polylab_engine.specs.Joined.{report_sum, sum_of, after_slice, slice_report, sliced, slice_reports}
use Rattle.polylab_engine.proofs.ResumeLemmas.{stop_is_snapshot}
use Rattle.polylab_engine.proofs.JoinedLemmas.{slices_join}
use Rattle.resume_laws.specs.ResumedTexts.{report_part, rest_part, TellsReport, TellsNumbers, RunRequest, IsResumed, AreRuns, ReachEnd, AllList, AreTold, TellTogether}
use Rattle.resume_laws.proofs.OutputLemmas.{snapshot_again, RestOr, rest_or, resumed_report, resumed_rest, run_of, end_unread}

-- ---- numbers alone

-- a report without its visits
abbrev numbers_of : ReportValue → ReportValue
numbers_of r = record r { visits = [] }

slice_numbers : (lists : Bool) (most : Option ℕ) (v : SnapshotValue) → numbers_of (slice_report lists most v) ≡ slice_report false most v
unfolding account_of
slice_numbers lists most v = refl

-- ---- runs as slices

-- runs that reach the end from a snapshot on, as slices of its branch
pub record AreSlices (asked : List RunRequest) (outputs : List (List ℕ)) (v : SnapshotValue) : Type 0 where
  pub mosts : List (Option ℕ)
  pub reports : List ReportValue
  pub told : AreTold outputs reports
  pub reach : (sliced v mosts).state ≡ branch_end v
  pub numbers : numbers_of (sum_of reports) ≡ sum_of (slice_reports false v mosts)
  pub listed : AllList asked → sum_of reports ≡ sum_of (slice_reports true v mosts)

-- a run as a slice, and those after it
first_slice : (a : RunRequest) (asked : List RunRequest) (output : List ℕ) (outputs : List (List ℕ)) (v : SnapshotValue) → TellsReport output (slice_report a.lists a.steps v) → AreSlices asked outputs (after_slice a.steps v) → AreSlices (a ∷ asked) (output ∷ outputs) v
first_slice a asked output outputs v told more = record {
  mosts = a.steps ∷ more.mosts;
  reports = slice_report a.lists a.steps v ∷ more.reports;
  told = (told, more.told);
  reach = more.reach;
  numbers = ap₂ report_sum (slice_numbers a.lists a.steps v) more.numbers;
  listed = λ all.
      let h = and_parts a.lists (list_all (λ b. b.lists) asked) all in
      ap₂ report_sum (ap (λ lists. slice_report lists a.steps v) h.0) (more.listed h.1);
}

-- the last run
last_slice : (a : RunRequest) (output : List ℕ) (v : SnapshotValue) → TellsReport output (slice_report a.lists a.steps v) → stop_of a.steps v ≡ branch_end v → AreSlices (a ∷ []) (output ∷ []) v
last_slice a output v told stop = record {
  mosts = a.steps ∷ [];
  reports = slice_report a.lists a.steps v ∷ [];
  told = (told, tt);
  reach = stop;
  numbers = ap (λ r. report_sum r (sum_of [])) (slice_numbers a.lists a.steps v);
  listed = λ all. ap (λ lists. report_sum (slice_report lists a.steps v) (sum_of [])) (and_parts a.lists true all).0;
}

-- after `end` there is no run
pub none_after : (a : RunRequest) (output : List ℕ) → IsResumed a end_text output → ⊥
none_after a output h = let r = run_of a end_text output h in end_unread r.snapshot r.read

pub slices : (asked : List RunRequest) (text : List ℕ) (outputs : List (List ℕ)) (v : SnapshotValue) → IsSnapshot v → snapshot_of text ≡ Ok v → ReachEnd asked text outputs → AreSlices asked outputs v
slices [] text [] v s read runs = absurd (end_unread v (ap snapshot_of (sym runs) ∙ read))
slices [] text (output ∷ outputs) v s read runs = absurd runs
slices (a ∷ asked) text [] v s read runs = absurd runs
slices (a ∷ asked) text (output ∷ outputs) v s read runs =
    let r = run_of a text output runs.0 in
    let same : r.snapshot ≡ v = ok_is r.snapshot v (sym r.read ∙ read) in
    let written : output ≡ resume_output a.steps a.lists v = r.written ∙ ap (resume_output a.steps a.lists) same in
    let told : TellsReport output (slice_report a.lists a.steps v) = ap report_part written ∙ resumed_report a.steps a.lists v s in
    let left : rest_part output ≡ rest_text v (stop_of a.steps v) = ap rest_part written ∙ resumed_rest a.steps a.lists v s in
    by told left (rest_or a.steps v s) (slices asked (rest_part output) outputs (after_slice a.steps v) (stop_is_snapshot a.steps v s))
  where
    ended : (more : List RunRequest) (others : List (List ℕ)) → TellsReport output (slice_report a.lists a.steps v) → stop_of a.steps v ≡ branch_end v → AreRuns more end_text others end_text → AreSlices (a ∷ more) (output ∷ others) v
    ended [] [] told stop h = last_slice a output v told stop
    ended [] (o ∷ os) told stop h = absurd h
    ended (b ∷ bs) [] told stop h = absurd h
    ended (b ∷ bs) (o ∷ os) told stop h = absurd (none_after b o h.0)

    by : TellsReport output (slice_report a.lists a.steps v) → rest_part output ≡ rest_text v (stop_of a.steps v) →
        RestOr a.steps v →
        (snapshot_of (rest_part output) ≡ Ok (after_slice a.steps v) → AreRuns asked (rest_part output) outputs end_text → AreSlices asked outputs (after_slice a.steps v)) →
        AreSlices (a ∷ asked) (output ∷ outputs) v
    by told left (inl e) more = ended asked outputs told e.0 (subst (λ rest. AreRuns asked rest outputs end_text) (left ∙ e.1) runs.1)
    by told left (inr e) more = first_slice a asked output outputs v told (more (ap snapshot_of (left ∙ e.1) ∙ snapshot_again (after_slice a.steps v) (stop_is_snapshot a.steps v s)) runs.1)

-- ---- what they add up to

-- slices up to the end, and a text that tells the whole stretch
module _ (asked : List RunRequest) (outputs : List (List ℕ)) (v : SnapshotValue) (s : IsSnapshot v) (are : AreSlices asked outputs v) (whole : List ℕ) where
  stretch : (keeps : Bool) → sum_of (slice_reports keeps v are.mosts) ≡ stretch_report keeps v.problem v.state (branch_end v)
  stretch keeps = slices_join keeps v s are.mosts ∙ ap (stretch_report keeps v.problem v.state) are.reach

  pub numbers_told : (lists : Bool) → TellsReport whole (stretch_report lists v.problem v.state (branch_end v)) → TellTogether outputs (TellsNumbers whole)
  unfolding account_of
  numbers_told lists told =
      let visits = (stretch_report lists v.problem v.state (branch_end v)).visits in
      let same : numbers_of (sum_of are.reports) ≡ stretch_report false v.problem v.state (branch_end v) = are.numbers ∙ stretch false in
      (are.reports, are.told, (visits, told ∙ ap (λ (r : ReportValue). report_text (record r { visits = visits })) (sym same)))

  pub visits_told : AllList asked → TellsReport whole (stretch_report true v.problem v.state (branch_end v)) → TellTogether outputs (TellsReport whole)
  visits_told all told = (are.reports, are.told, told ∙ ap report_text (sym (are.listed all ∙ stretch true)))
