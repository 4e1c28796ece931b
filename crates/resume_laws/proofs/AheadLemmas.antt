-- Runs that take a step each come to the end.
use Rattle.std.proofs.Common.{◌≡◌, ◌∙◌, ◌⊎◌, inl, inr, ℕ, ◌+◌, ◌<◌, ◌≤◌, Bool, true, Option, Some, List, [], ◌∷◌, length, Ok, sym, ap, subst, arith}
use Rattle.std.specs.List.{list_all}
use Rattle.std.proofs.lemmas.Bool.{and_parts, ltb-true}
use Rattle.text_lines.proofs.ResultLemmas.{ok_is}
use Rattle.x_steps.specs.Run.{steps_between}
use Rattle.x_steps.proofs.BetweenLemmas.{steps_between_join, steps_between_self, length-states}
use Rattle.x_snapshot.specs.Snapshot.{SnapshotValue, IsSnapshot}
use Rattle.x_snapshot.specs.Judged.{snapshot_of}
use Rattle.polylab_engine.specs.Account.{ReportValue, account_of}
use Rattle.polylab_engine.specs.Stretch.{stretch_report}
use Rattle.polylab_engine.specs.Resumed.{branch_end, stop_of, end_text, rest_text, resume_output}
use Rattle.polylab_engine.specs.Joined.{after_slice}
use Rattle.polylab_engine.proofs.ResumeLemmas.{end_fits, stop_fits, stop_up, stop_not_past, stops, stop_is_snapshot}
use Rattle.resume_laws.specs.ResumedTexts.{rest_part, RunRequest, to_the_end, IsResumed, AreRuns, moves, AllMove, TellsSteps}
use Rattle.resume_laws.proofs.OutputLemmas.{snapshot_again, RestOr, rest_or, resumed_rest, IsRunOf, run_of}
use Rattle.resume_laws.proofs.ChainLemmas.{none_after}
use Rattle.resume_laws.proofs.LawLemmas.{whole_told}

-- the steps from a snapshot's state to the end of its branch
abbrev ahead : SnapshotValue → ℕ
ahead v = steps_between v.problem v.state (branch_end v)

-- a run that moves and doesn't come to the end takes a step
some_step : (most : Option ℕ) (v : SnapshotValue) → IsSnapshot v → moves most ≡ true → 0 < ahead (after_slice most v) → 0 < steps_between v.problem v.state (stop_of most v)
some_step most v s m more = by (stops most v s)
  where
    by : (stop_of most v ≡ branch_end v) ⊎ (most ≡ Some (steps_between v.problem v.state (stop_of most v))) → 0 < steps_between v.problem v.state (stop_of most v)
    by (inl e) =
        let none : ahead (after_slice most v) ≡ 0 = ap (λ t. steps_between v.problem t (branch_end v)) e ∙ steps_between_self v.problem (branch_end v) (end_fits v s) in
        absurd (omega arith)
    by (inr e) = ltb-true 0 _ (ap moves (sym e) ∙ m)

-- and is that much nearer to it
nearer : (most : Option ℕ) (v : SnapshotValue) → IsSnapshot v → ahead v ≡ ahead (after_slice most v) + steps_between v.problem v.state (stop_of most v)
nearer most v s = steps_between_join v.problem v.state (stop_of most v) (branch_end v) s.on_run.fits (stop_fits most v s) (end_fits v s) (stop_up most v s) (stop_not_past most v s)

runs_ahead : (asked : List RunRequest) (text : List ℕ) (outputs : List (List ℕ)) (rest : List ℕ) (v : SnapshotValue) → IsSnapshot v → snapshot_of text ≡ Ok v → AllMove asked → AreRuns asked text outputs rest → (rest ≡ end_text) ⊎ (length outputs ≤ ahead v)
runs_ahead [] text [] rest v s read move runs = inr (omega arith)
runs_ahead [] text (output ∷ outputs) rest v s read move runs = absurd runs
runs_ahead (a ∷ asked) text [] rest v s read move runs = absurd runs
runs_ahead (a ∷ asked) text (output ∷ outputs) rest v s read move runs =
    let r = run_of a text output runs.0 in
    let same : r.snapshot ≡ v = ok_is r.snapshot v (sym r.read ∙ read) in
    let written : output ≡ resume_output a.steps a.lists v = r.written ∙ ap (resume_output a.steps a.lists) same in
    let left : rest_part output ≡ rest_text v (stop_of a.steps v) = ap rest_part written ∙ resumed_rest a.steps a.lists v s in
    by left (rest_or a.steps v s) (λ again. runs_ahead asked (rest_part output) outputs rest (after_slice a.steps v) (stop_is_snapshot a.steps v s) again m.1 runs.1)
  where
    m : (moves a.steps ≡ true) × AllMove asked
    m = and_parts (moves a.steps) (list_all (λ b. moves b.steps) asked) move

    ended : (more : List RunRequest) (others : List (List ℕ)) → AreRuns more end_text others rest → rest ≡ end_text
    ended [] [] h = sym h
    ended [] (o ∷ os) h = absurd h
    ended (b ∷ bs) [] h = absurd h
    ended (b ∷ bs) (o ∷ os) h = absurd (none_after b o h.0)

    one_more : 0 < ahead (after_slice a.steps v) → (rest ≡ end_text) ⊎ (length outputs ≤ ahead (after_slice a.steps v)) → (rest ≡ end_text) ⊎ (length (output ∷ outputs) ≤ ahead v)
    one_more some (inl e) = inl e
    one_more some (inr l) = let n = nearer a.steps v s in let k = some_step a.steps v s m.0 some in inr (omega arith)

    by : rest_part output ≡ rest_text v (stop_of a.steps v) → RestOr a.steps v → (snapshot_of (rest_part output) ≡ Ok (after_slice a.steps v) → (rest ≡ end_text) ⊎ (length outputs ≤ ahead (after_slice a.steps v))) → (rest ≡ end_text) ⊎ (length (output ∷ outputs) ≤ ahead v)
    by left (inl e) more = inl (ended asked outputs (subst (λ t. AreRuns asked t outputs rest) (left ∙ e.1) runs.1))
    by left (inr e) more = one_more e.0 (more (ap snapshot_of (left ∙ e.1) ∙ snapshot_again (after_slice a.steps v) (stop_is_snapshot a.steps v s)))

pub comes_to_the_end : (asked : List RunRequest) (text : List ℕ) (outputs : List (List ℕ)) (rest : List ℕ) (lists : Bool) (whole : List ℕ) → AreRuns asked text outputs rest → IsResumed (to_the_end lists) text whole → AllMove asked → (rest ≡ end_text) ⊎ TellsSteps (length outputs) whole
unfolding account_of
comes_to_the_end asked text outputs rest lists whole runs h move = by (runs_ahead asked text outputs rest v.snapshot v.is v.read move runs)
  where
    v : IsRunOf (to_the_end lists) text whole
    v = run_of (to_the_end lists) text whole h

    r : ReportValue
    r = stretch_report lists v.snapshot.problem v.snapshot.state (branch_end v.snapshot)

    by : (rest ≡ end_text) ⊎ (length outputs ≤ ahead v.snapshot) → (rest ≡ end_text) ⊎ TellsSteps (length outputs) whole
    by (inl e) = inl e
    by (inr l) = inr (r, (r.visits, whole_told lists text whole h), (let n = length-states v.snapshot.problem (ahead v.snapshot) v.snapshot.state in omega arith))
