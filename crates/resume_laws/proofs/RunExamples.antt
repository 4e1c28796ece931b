-- The example of specs/ResumedTexts.antt as runs: what `job_outcome` writes of the small problem's start, and of what that run leaves. So the
-- premises of the laws can be met.
use Rattle.std.proofs.Common.{◌≡◌, ◌∙◌, inl, inr, ℕ, zero, suc, ◌<◌, length, true, false, Some, [], ◌∷◌, ◌++◌, List, Ok, refl, sym, ap, ap₂, subst, arith, lit<, lit≤}
use Rattle.std.proofs.Common as common
use Rattle.cover_problem.specs.Covering.{choice, active, remaining}
use Rattle.cover_problem.specs.Path.{covered_by, taken}
use Rattle.cover_problem.specs.Grammar.{written}
use Rattle.cover_problem.specs.Problem.{IsProblem}
use Rattle.cover_problem.proofs.CoverExamples.{small}
use Rattle.cover_problem.proofs.WrittenLemmas.{written_again}
use Rattle.x_steps.specs.declared.state.Label.TheVariants.{X5, X7, X8, Done}
use Rattle.x_steps.specs.declared.state.Cursor.TheVariants.{Past}
use Rattle.x_steps.specs.StateValue.{StateValue, at, start, done}
use Rattle.x_steps.specs.Steps.{Fits, next}
use Rattle.x_steps.specs.Run.{after, states, steps_between}
use Rattle.x_steps.proofs.RunLemmas.{start_fits, after_fits, steps_between_is}
use Rattle.x_steps.proofs.StepExamples.{forty_three_steps}
use Rattle.x_snapshot.specs.Snapshot.{SnapshotValue, IsSnapshot, at_state}
use Rattle.x_snapshot.specs.Writer.{snapshot_text}
use Rattle.polylab_engine.specs.declared.job.Job.TheVariants as jobs
use Rattle.polylab_engine.specs.Account.{account_of, report_of}
use Rattle.polylab_engine.specs.Output.{report_text, cover_output}
use Rattle.polylab_engine.specs.Stretch.{steps_taken, stretch_report}
use Rattle.polylab_engine.specs.Resumed.{stop_of, end_text, rest_text, resume_output}
use Rattle.polylab_engine.specs.Outcome.{job_outcome, covers_of, resumed_of}
use Rattle.polylab_engine.proofs.ResumeLemmas.{stop_is_snapshot, steps_are, rest_ended, rest_goes_on}
use Rattle.resume_laws.specs.ResumedTexts.{RunRequest, to_the_end, IsResumed, IsInput, IsRest, ReachEnd, AllMove, TellTogether, whole_text, IsWholeText, EachOutput, EachAhead, EachWhole, EachCover}
use Rattle.resume_laws.proofs.OutputLemmas.{snapshot_again, run_of}
use Rattle.resume_laws.proofs.LawLemmas.{at_start, start_is_snapshot, stops_at_end, input, whole}
use Rattle.resume_laws.proofs.ResumedExamples.{first_report, last_report, first_text, last_text, stop_text, stops_there, stop_is_written, first_is_told, last_is_told, first_rest_part, last_rest_part, no_snapshot, no_end, stop_is_no_end}

small_is_problem : IsProblem small
small_is_problem = record { some = lit< tt; within = lit≤ tt; named = refl; new = refl; options_are = refl; small = refl }

-- ---- the first 40 steps

begun : SnapshotValue
begun = at_start small []

begun_is : IsSnapshot begun
unfolding begun
begun_is = start_is_snapshot small small_is_problem

forty : RunRequest
forty = record { steps = Some 40; lists = false }

stopped : StateValue
stopped = at X5 [] Past

stop_is : stop_of (Some 40) begun ≡ stopped
unfolding begun stopped
stop_is = ap (λ n. after small (steps_taken (Some 40) n) start) forty_three_steps ∙ stops_there

forty_steps : steps_between small start stopped ≡ 40
unfolding begun
forty_steps = ap (steps_between small start) (sym stop_is) ∙ steps_are (Some 40) begun begun_is ∙ ap (steps_taken (Some 40)) forty_three_steps

first_written : resume_output (Some 40) false begun ≡ first_report ++ stop_text
unfolding resume_output begun stopped
first_written =
    let told : report_text (stretch_report false small start stopped) ≡ first_report = ap (λ n. report_text (report_of (account_of false small (states small n start)))) forty_steps ∙ ap report_text first_is_told ∙ first_text in
    let left : rest_text begun (stop_of (Some 40) begun) ≡ stop_text = rest_goes_on begun (stop_of (Some 40) begun) (stop_is_snapshot (Some 40) begun begun_is) (λ e. not_done (sym stop_is ∙ e))
    ∙ ap (λ t. snapshot_text (at_state begun t)) stop_is ∙ stop_is_written in
    ap₂ (λ xs ys. xs ++ ys) (ap (λ t. report_text (stretch_report false small start t)) stop_is ∙ told) left
  where
    not_done : at X5 [] Past ≡ done → ⊥
    not_done e = let label : X5 ≡ Done = ap (λ t. t.label) e in cc

first_run : IsResumed forty (whole_text small) (first_report ++ stop_text)
unfolding job_outcome forty begun
first_run = ap (resumed_of (resume_output (Some 40) false)) (snapshot_again begun begun_is) ∙ ap (λ text. Ok text) first_written

-- ---- the other three

later : SnapshotValue
later = at_state begun stopped

later_is : IsSnapshot later
unfolding later
later_is = subst (λ t. IsSnapshot (at_state begun t)) stop_is (stop_is_snapshot (Some 40) begun begun_is)

stopped_fits : Fits small stopped
unfolding stopped
stopped_fits = subst (Fits small) stops_there (after_fits small 40 start (start_fits small))

three_on : after small 3 stopped ≡ done
unfolding stopped next covered_by taken choice active remaining
three_on = refl

one_on : (after small 1 stopped).label ≡ X7
unfolding stopped next covered_by taken choice active remaining
one_on = refl

two_on : (after small 2 stopped).label ≡ X8
unfolding stopped next covered_by taken choice active remaining
two_on = refl

goes_on : (i : ℕ) → i < 3 → (after small i stopped).label ≡ Done → ⊥
unfolding stopped
goes_on zero l e = cc
goes_on (suc zero) l e = let f : X7 ≡ Done = sym one_on ∙ e in cc
goes_on (suc (suc zero)) l e = let f : X8 ≡ Done = sym two_on ∙ e in cc
goes_on (suc (suc (suc i))) l e = absurd (omega arith)

three_steps : steps_between small stopped done ≡ 3
three_steps = steps_between_is small stopped done 3 stopped_fits (record { ends = three_on; goes_on = goes_on })

last_written : resume_output common.None false later ≡ last_report ++ end_text
unfolding resume_output later begun stopped
last_written =
    let stop = stops_at_end later later_is in
    let told : report_text (stretch_report false small stopped done) ≡ last_report = ap (λ n. report_text (report_of (account_of false small (states small n stopped)))) three_steps ∙ ap report_text last_is_told ∙ last_text in
    ap₂ (λ xs ys. xs ++ ys) (ap (λ t. report_text (stretch_report false small stopped t)) stop ∙ told)
    (rest_ended later (stop_of common.None later) (stop_is_snapshot common.None later later_is) stop)

last_run : IsResumed (to_the_end false) stop_text (last_report ++ end_text)
unfolding job_outcome later begun stopped
last_run =
    ap (λ text. job_outcome (jobs.Resume common.None false) text) (sym stop_is_written)
    ∙ ap (resumed_of (resume_output common.None false)) (snapshot_again later later_is) ∙ ap (λ text. Ok text) last_written

-- ---- both

both_runs : ReachEnd (forty ∷ to_the_end false ∷ []) (whole_text small) ((first_report ++ stop_text) ∷ (last_report ++ end_text) ∷ [])
both_runs = (first_run, (subst (λ text. IsResumed (to_the_end false) text (last_report ++ end_text)) (sym first_rest_part) last_run, last_rest_part))

-- the laws speak of some output, of some runs to the end, and of some problem's whole run
some_output : EachOutput (λ a output. ⊥) → ⊥
some_output none = none forty (whole_text small) (first_report ++ stop_text) first_run

some_ahead : EachAhead (λ asked n rest one. ⊥) → ⊥
some_ahead none =
    let one = (input small small_is_problem).taken (to_the_end true) in
    none (forty ∷ to_the_end false ∷ []) (whole_text small) ((first_report ++ stop_text) ∷ (last_report ++ end_text) ∷ []) end_text true one.0 both_runs one.1

some_whole : EachWhole (λ asked outputs one. ⊥) → ⊥
some_whole none =
    let one = (input small small_is_problem).taken (to_the_end true) in
    none (forty ∷ to_the_end false ∷ []) (whole_text small) ((first_report ++ stop_text) ∷ (last_report ++ end_text) ∷ []) true one.0 both_runs one.1

some_cover : EachCover (λ asked outputs covers. ⊥) → ⊥
unfolding job_outcome
some_cover none =
    none (forty ∷ to_the_end false ∷ []) small (whole_text small) ((first_report ++ stop_text) ∷ (last_report ++ end_text) ∷ []) (written small) (cover_output small)
    both_runs (whole small small_is_problem) (written_again small small_is_problem) (ap (covers_of cover_output) (written_again small small_is_problem))

-- ---- what is not so

-- a report is no rest, and no text of a whole run; nor is the snapshot where a run stopped the end
no_rest : IsRest last_report → ⊥
no_rest (inl e) = no_end e
no_rest (inr i) = let r = run_of (to_the_end false) last_report (i.taken (to_the_end false)).0 (i.taken (to_the_end false)).1 in no_snapshot r.snapshot r.read

no_whole : IsWholeText small last_report → ⊥
no_whole h = no_snapshot (at_start small h.0) h.1

not_at_end : ReachEnd [] stop_text [] → ⊥
not_at_end = stop_is_no_end

-- a run of no step doesn't move
no_step : AllMove (record { steps = Some 0; lists = false } ∷ []) → ⊥
no_step h = cc

-- outputs tell no other sum
no_other_sum : TellTogether [] (λ r. r.steps ≡ 1) → ⊥
no_other_sum ([], told, e) = absurd (omega (arith, e))
no_other_sum (r ∷ rs, told, e) = told

-- a text that is too long is no input
too_long : (text : List ℕ) → 134217728 < length text → IsInput text → ⊥
too_long text l i = let w = i.within in omega arith
