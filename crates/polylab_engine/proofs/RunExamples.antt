-- A whole run, computed from the bytes that it reads to those that it writes: `cover` on the text of the small problem. Change a byte of
-- what is written, and the prover refuses the file; or change the text, with its problem, the number of steps and what is written of it.
use Rattle.std.proofs.Common.{◌≡◌, ◌≤◌, ℕ, true, false, Some, Ok, List, [], ◌∷◌, ◌++◌, length, codes, refl, ap, ◌∙◌, lit≤}
use Rattle.std.specs.Fmt.{digits}
use Rattle.text_lines.specs.Each.{each}
use Rattle.text_lines.specs.Reading.{numbered_line, plain_line, text_read}
use Rattle.byte_streams.specs.Stream.{Stream}
use Rattle.byte_streams.specs.Input.{most_input}
use Rattle.cover_problem.specs.Problem.{ProblemValue}
use Rattle.cover_problem.specs.Validation.{add_name}
use Rattle.cover_problem.specs.Reading.{problem_of, line, words_line, items_line, option_line, add_item, item_of}
use Rattle.cover_problem.specs.Covering.{active, remaining, choice}
use Rattle.cover_problem.specs.Path.{taken, covered_by}
use Rattle.cover_problem.proofs.CoverExamples.{small}
use Rattle.x_steps.specs.StateValue.{start, done}
use Rattle.x_steps.specs.Steps.{next}
use Rattle.x_steps.specs.Run.{states, after}
use Rattle.x_steps.specs.Levels.{without_last_zeros}
use Rattle.x_steps.proofs.RunLemmas.{start_fits, steps_between_is}
use Rattle.polylab_engine.specs.declared.job.Job.TheVariants as jobs
use Rattle.polylab_engine.specs.declared.job.CoverJob.TheVariants as cover_jobs
use Rattle.polylab_engine.specs.declared.engine.RunEnding.TheVariants.{Written}
use Rattle.polylab_engine.specs.Account.{account_of, report_of}
use Rattle.polylab_engine.specs.Output.{cover_output, report_text}
use Rattle.polylab_engine.specs.Outcome.{covers_of, job_outcome}
use Rattle.polylab_engine.specs.Ending.{IsProgramRun}
use Rattle.polylab_engine.proofs.EndingLemmas.{run_is}
use Rattle.polylab_engine.proofs.OutputExamples.{goes_on, all_go_on, reaches}

-- the bytes that are read
abbrev input : List ℕ
input =
    codes "items a b c d e f g" ++ 10
    ∷ codes "option c e" ++ 10
    ∷ codes "option a d g" ++ 10
    ∷ codes "option b c f" ++ 10
    ∷ codes "option a d f" ++ 10
    ∷ codes "option b g" ++ 10
    ∷ codes "option d e g" ++ 10 ∷ []

-- and those that are written
abbrev output : List ℕ
output =
    codes "visit 4 5 1" ++ 10
    ∷ codes "visits 1" ++ 10
    ∷ codes "steps 43" ++ 10
    ∷ codes "levels 1 2 2 1" ++ 10 ∷ []

-- a stream of these bytes, of which no call has failed
abbrev holding : List ℕ → Stream
holding bytes = record { bytes = Some bytes; failed = false; answers = [] }

-- a run that reads these bytes, writes those, tells no fault and ends with status 0
abbrev Runs : List ℕ → List ℕ → Type 0
Runs read written = IsProgramRun (jobs.Cover cover_jobs.List) (holding read) (holding []) (holding []) (holding written) (holding []) (holding []) 0

-- there is such a run, if n steps lead to the end of the search of the problem that was read, and their report is what was written
run_of
    : (read written : List ℕ) (p : ProblemValue) (n : ℕ) → length read ≤ most_input → problem_of read ≡ Ok p → all_go_on p n ≡ true → after p n start ≡ done
    → report_text (report_of (account_of true p (states p n start))) ≡ written → Runs read written
unfolding job_outcome cover_output
run_of read written p n within is going ends told =
    let steps = steps_between_is p start done n (start_fits p) (reaches p n going ends) in
    let output : cover_output p ≡ written = rw steps told in
    run_is (jobs.Cover cover_jobs.List) (holding read) (holding []) (holding []) (holding written) (holding []) (holding []) Written
    (refl, (written, (within, ap (covers_of cover_output) is ∙ ap Ok output), (refl, refl))) (refl, refl)

-- the whole run: the text is read, 43 steps are searched, and their report is written
small_runs : Runs input output
unfolding
    problem_of text_read each numbered_line line plain_line words_line items_line option_line add_item item_of add_name all_go_on goes_on account_of without_last_zeros
    digits next covered_by taken choice active remaining
small_runs = run_of input output small 43 (lit≤ tt) refl refl refl refl
