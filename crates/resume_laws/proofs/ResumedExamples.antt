-- The example of specs/ResumedTexts.antt, computed: two runs of the small problem, of 40 steps and of the other three.
use Rattle.std.proofs.Common.{◌≡◌, ℕ, true, false, [], ◌∷◌, ◌++◌, List, None, Ok, length, get_or, refl, ap, arith, codes}
use Rattle.std.specs.Fmt.{digits}
use Rattle.cover_problem.specs.Covering.{choice, active, remaining}
use Rattle.cover_problem.specs.Path.{covered_by, taken}
use Rattle.cover_problem.specs.Grammar.{written}
use Rattle.cover_problem.proofs.CoverExamples.{small}
use Rattle.x_steps.specs.declared.state.Label.TheVariants.{X5}
use Rattle.x_steps.specs.declared.state.Cursor.TheVariants.{Past}
use Rattle.x_steps.specs.StateValue.{at, start}
use Rattle.x_steps.specs.Steps.{next}
use Rattle.x_steps.specs.Run.{after, states}
use Rattle.x_steps.specs.Levels.{without_last_zeros}
use Rattle.x_snapshot.specs.Reader.{parts_of, keyed_line, keyed, first_line, line_words, after_key}
use Rattle.x_snapshot.specs.Judged.{snapshot_of}
use Rattle.x_snapshot.specs.Snapshot.{SnapshotValue, snapshot_with}
use Rattle.x_snapshot.specs.Writer.{snapshot_text}
use Rattle.polylab_engine.specs.Account.{ReportValue, account_of, report_of}
use Rattle.polylab_engine.specs.Output.{report_text}
use Rattle.polylab_engine.specs.Resumed.{end_text}
use Rattle.polylab_engine.specs.Joined.{sum_of}
use Rattle.resume_laws.specs.ResumedTexts.{begins_rest, report_part, rest_part, IsReportPart, TellsNumbers, IsWritten, RunRequest, to_the_end, IsInput, AreRuns, AllList, AreTold}
use Rattle.resume_laws.proofs.OutputLemmas.{run_of, end_unread}
use Rattle.resume_laws.proofs.ChainLemmas.{none_after}

-- the report of the first 40 steps, and that of the last three
pub first_told : ReportValue
first_told = record { visits = []; visited = 1; steps = 40; levels = 1 ∷ 2 ∷ 2 ∷ 1 ∷ [] }

pub last_told : ReportValue
last_told = record { visits = []; visited = 0; steps = 3; levels = [] }

pub first_report : List ℕ
first_report = codes "visits 1" ++ 10 ∷ codes "steps 40" ++ 10 ∷ codes "levels 1 2 2 1" ++ 10 ∷ []

pub last_report : List ℕ
last_report = codes "visits 0" ++ 10 ∷ codes "steps 3" ++ 10 ∷ codes "levels 0" ++ 10 ∷ []

pub first_text : report_text first_told ≡ first_report
unfolding first_told first_report digits
first_text = refl

pub last_text : report_text last_told ≡ last_report
unfolding last_told last_report digits
last_text = refl

-- the snapshot where 40 steps stop
pub stop_text : List ℕ
stop_text = codes "polysnap 1" ++ 10 ∷ codes "problem 7" ++ 10 ∷ codes "items a b c d e f g" ++ 10 ∷ codes "option c e" ++ 10 ∷ codes "option a d g" ++ 10
    ∷ codes "option b c f" ++ 10 ∷ codes "option a d f" ++ 10 ∷ codes "option b g" ++ 10 ∷ codes "option d e g" ++ 10 ∷ codes "from start" ++ 10
    ∷ codes "to end" ++ 10 ∷ codes "state X5 past" ++ 10 ∷ codes "end" ++ 10 ∷ []

pub stops_there : after small 40 start ≡ at X5 [] Past
unfolding next covered_by taken choice active remaining
stops_there = refl

pub stop_is_written : snapshot_text (snapshot_with small None None (at X5 [] Past) []) ≡ stop_text
unfolding snapshot_text written digits stop_text
stop_is_written = refl

pub first_is_told : report_of (account_of false small (states small 40 start)) ≡ first_told
unfolding account_of without_last_zeros next covered_by taken choice active remaining first_told
first_is_told = refl

pub last_is_told : report_of (account_of false small (states small 3 (at X5 [] Past))) ≡ last_told
unfolding account_of without_last_zeros next covered_by taken choice active remaining last_told
last_is_told = refl

-- ---- the two parts of each output

first_report_part : report_part (first_report ++ stop_text) ≡ first_report
unfolding report_part first_report stop_text
first_report_part = refl

pub first_rest_part : rest_part (first_report ++ stop_text) ≡ stop_text
unfolding rest_part first_report stop_text
first_rest_part = refl

last_report_part : report_part (last_report ++ end_text) ≡ last_report
unfolding report_part last_report
last_report_part = refl

pub last_rest_part : rest_part (last_report ++ end_text) ≡ end_text
unfolding rest_part last_report
last_rest_part = refl

-- ---- what they tell together

both_are_told : AreTold ((first_report ++ stop_text) ∷ (last_report ++ end_text) ∷ []) (first_told ∷ last_told ∷ [])
unfolding report_part first_report stop_text last_report first_told last_told digits
both_are_told = (refl, (refl, tt))

sum_is : sum_of (first_told ∷ last_told ∷ []) ≡ record { visits = []; visited = 1; steps = 43; levels = 1 ∷ 2 ∷ 2 ∷ 1 ∷ [] }
unfolding first_told last_told
sum_is = refl

-- `cover` tells these numbers, and lists the visit
cover_tells : TellsNumbers (codes "visit 4 5 1" ++ 10 ∷ codes "visits 1" ++ 10 ∷ codes "steps 43" ++ 10 ∷ codes "levels 1 2 2 1" ++ 10 ∷ []) (sum_of (first_told ∷ last_told ∷ []))
unfolding report_part first_told last_told digits
cover_tells = ((4 ∷ 5 ∷ 1 ∷ []) ∷ [], refl)

-- their numbers are written with all their digits
first_is_written : IsWritten first_told
unfolding first_told without_last_zeros
first_is_written = record { visits = refl; visited = refl; steps = refl; levels = refl; last = refl }

-- ---- what is not so

-- a level without a state isn't the last
no_state_last : IsWritten (record { visits = []; visited = 0; steps = 3; levels = 0 ∷ [] }) → ⊥
unfolding without_last_zeros
no_state_last w = let l : ◌≡◌ {A = ℕ} 0 1 = ap (length {A = ℕ}) w.last in absurd (omega (arith, l))

-- a line that is more than `end`, or less than `polysnap`, begins no rest; any other version begins one
a_word_more : begins_rest (codes "end 1") ≡ false
a_word_more = refl

a_part_of_the_key : begins_rest (codes "poly") ≡ false
a_part_of_the_key = refl

another_version : begins_rest (codes "polysnap 2") ≡ true
another_version = refl

-- an output is no report part, and tells no other report
no_report_part : IsReportPart (last_report ++ end_text) → ⊥
unfolding last_report
no_report_part h = cc

other_numbers : TellsNumbers (last_report ++ end_text) first_told → ⊥
unfolding report_part last_report first_told digits
other_numbers h = other_first h.0 h.1
  where
    other_first : (visits : List (List ℕ)) → last_report ≡ report_text (record first_told { visits = visits }) → ⊥
    other_first [] e = let number : ◌≡◌ {A = ℕ} 48 49 = ap (λ text. get_or text 7 0) e in absurd (omega (arith, number))
    other_first ([] ∷ paths) e = let letter : ◌≡◌ {A = ℕ} 115 10 = ap (λ text. get_or text 5 0) e in absurd (omega (arith, letter))
    other_first ((o ∷ path) ∷ paths) e = let letter : ◌≡◌ {A = ℕ} 115 32 = ap (λ text. get_or text 5 0) e in absurd (omega (arith, letter))

none_is_told : AreTold (end_text ∷ []) [] → ⊥
none_is_told h = h

-- `end` is a rest and no input, and no run follows on it
end_is_no_input : IsInput end_text → ⊥
end_is_no_input h = let r = run_of (to_the_end false) end_text (h.taken (to_the_end false)).0 (h.taken (to_the_end false)).1 in end_unread r.snapshot r.read

none_follows : (a : RunRequest) (output rest : List ℕ) → AreRuns (a ∷ []) end_text (output ∷ []) rest → ⊥
none_follows a output rest h = none_after a output h.0

-- runs that count don't list
one_counts : AllList (to_the_end true ∷ to_the_end false ∷ []) → ⊥
one_counts h = cc

-- a report is no snapshot and not `end`, nor is a snapshot's text
pub no_snapshot : (v : SnapshotValue) → snapshot_of last_report ≡ Ok v → ⊥
unfolding last_report parts_of keyed_line keyed first_line line_words after_key
no_snapshot v e = cc

pub no_end : last_report ≡ end_text → ⊥
unfolding last_report
no_end e = cc

pub stop_is_no_end : stop_text ≡ end_text → ⊥
unfolding stop_text
stop_is_no_end e = let letter : ◌≡◌ {A = ℕ} 112 101 = ap (λ text. get_or text 0 0) e in absurd (omega (arith, letter))
