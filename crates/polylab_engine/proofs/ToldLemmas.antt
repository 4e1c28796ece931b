-- What is written of a snapshot tells of the stretch from its state on.
use Rattle.std.proofs.Common.{◌≡◌, ℕ, ◌+◌, Bool, true, false, Option, List, ◌++◌, length, cond, Result, Ok, Err, map, refl, sym, ap, ◌∙◌, subst, arith}
use Rattle.cover_problem.specs.Problem.{IsProblem}
use Rattle.text_lines.specs.Writing.{text_of}
use Rattle.x_steps.specs.StateValue.{start, done}
use Rattle.x_steps.specs.Run.{levels, states, visits, steps_between, states_between, visits_between, ReachesIn}
use Rattle.x_steps.specs.Levels.{trimmed_levels}
use Rattle.x_steps.proofs.StretchLemmas.{visits_of_run}
use Rattle.x_steps.proofs.BetweenLemmas.{length-states, steps_between_join}
use Rattle.x_steps.proofs.RunLemmas.{start_fits, done_fits, leads_to, start_first, done_last, run_leads}
use Rattle.x_snapshot.specs.declared.fault.SnapshotFault.{SnapshotFault}
use Rattle.x_snapshot.specs.declared.fault.SnapshotFault.TheVariants.{NotOnRun, OutsideBranch}
use Rattle.x_texts.specs.Breaks.{are_breaks}
use Rattle.x_texts.specs.Words.{visit_words}
use Rattle.x_snapshot.specs.Writer.{snapshot_text}
use Rattle.x_snapshot.specs.Snapshot.{SnapshotValue, IsOnRun, IsSnapshot}
use Rattle.x_snapshot.specs.Reader.{parts_of}
use Rattle.x_snapshot.specs.Judged.{is_on_run, is_inside, judged_parts, judged, snapshot_of}
use Rattle.x_snapshot.proofs.WholeBack.{parts_back}
use Rattle.x_snapshot.proofs.JudgedLemmas.{on_run_decides, inside_decides}
use Rattle.polylab_engine.specs.Account.{ReportValue, kept}
use Rattle.polylab_engine.specs.Output.{report_text, total_lines}
use Rattle.polylab_engine.specs.Stretch.{steps_taken}
use Rattle.polylab_engine.specs.Resumed.{branch_end, stop_of, rest_text, report_up_to, resume_output}
use Rattle.polylab_engine.specs.Outcome.{resumed_of}
use Rattle.polylab_engine.specs.Listed.{stretch_text, TellsStretch}
use Rattle.polylab_engine.proofs.AccountLemmas.{report_of_stretch}
use Rattle.polylab_engine.proofs.ResumeLemmas.{reached, stop_fits, stop_up, steps_are, not_past, stops, stop_is_snapshot, rest_ended, rest_goes_on}

-- what is written of a snapshot tells of the stretch from its state on
tells_stretch : (most : Option ℕ) (lists : Bool) (v : SnapshotValue) → IsSnapshot v → TellsStretch most lists v (resume_output most lists v)
unfolding resume_output visits_between trimmed_levels levels
tells_stretch most lists v s =
    let p = v.problem in
    let stop = stop_of most v in
    let passed = states_between p v.state stop in
    let r : ReportValue = record {
      visits = kept lists (visits_between p v.state stop);
      visited = length (visits_between p v.state stop);
      steps = steps_between p v.state stop;
      levels = trimmed_levels p v.state stop;
    } in
    let there = stop_is_snapshot most v s in
    let counted : steps_between p v.state stop ≡ length passed = sym (length-states p (steps_between p v.state stop) v.state) in
    let total : steps_between p start done ≡ steps_between p start v.state + steps_between p v.state stop + steps_between p stop done =
    (let a = steps_between_join p start v.state done (start_fits p) s.on_run.fits (done_fits p) (start_first p v.state s.on_run.fits) (done_last p v.state s.on_run.fits) in
    let b = steps_between_join p v.state stop done s.on_run.fits (stop_fits most v s) (done_fits p) (stop_up most v s) (done_last p stop (stop_fits most v s)) in
    omega arith) in
    let said : report_text (report_up_to lists v stop) ++ rest_text v stop ≡ stretch_text lists p passed ++ rest_text v stop =
    ap (λ (q : ReportValue). report_text q ++ rest_text v stop) (sym (report_of_stretch lists p v.state stop r refl refl refl refl))
    ∙ ap (λ n. (text_of (map visit_words r.visits) ++ text_of (total_lines r.visited n r.levels)) ++ rest_text v stop) counted in
    record {
      stop = stop;
      before = steps_between p start v.state;
      steps = steps_between p v.state stop;
      later = steps_between p stop done;
      begins = leads_to p start v.state (start_fits p) s.on_run.fits (start_first p v.state s.on_run.fits);
      reached = subst (ReachesIn p v.state stop) (sym (steps_are most v s)) (reached most v s);
      goes_on = leads_to p stop done (stop_fits most v s) (done_fits p) (done_last p stop (stop_fits most v s));
      run = subst (ReachesIn p start done) total (run_leads p);
      part = ap (λ n. visits p (states p n start)) (sym total) ∙ visits_of_run p v.state stop (steps_taken most (steps_between p v.state (branch_end v))) s.on_run.fits (reached most v s);
      not_past = not_past most v s;
      stops = stops most v s;
      snapshot = there;
      ended = λ e. said ∙ ap (λ (rest : List ℕ). stretch_text lists p passed ++ rest) (rest_ended v stop there e);
      unended = λ no. said ∙ ap (λ (rest : List ℕ). stretch_text lists p passed ++ rest) (rest_goes_on v stop there no);
    }

-- what is judged to be a snapshot is one
judged_is : (v w : SnapshotValue) → IsProblem v.problem → are_breaks v.problem v.breaks ≡ true → judged_parts v ≡ Ok w → (v ≡ w) × IsSnapshot v
judged_is v w sound breaks e = by (is_on_run v) refl e
  where
    inner : (b : Bool) → is_inside v ≡ b → IsOnRun v.problem v.lo v.hi v.state → cond b (Ok v) (Err OutsideBranch) ≡ Ok w → (v ≡ w) × IsSnapshot v
    inner true t on h = (cc, record { problem = sound; breaks = breaks; on_run = on; inside = (inside_decides v on).0 t })
    inner false t on h = absurd (cc)

    by : (b : Bool) → is_on_run v ≡ b → cond b (cond (is_inside v) (Ok v) (Err OutsideBranch)) (Err NotOnRun) ≡ Ok w → (v ≡ w) × IsSnapshot v
    by true t h = inner (is_inside v) refl ((on_run_decides v).0 t) h
    by false t h = absurd (cc)

snapshot_read : (input : List ℕ) (v : SnapshotValue) → snapshot_of input ≡ Ok v → IsSnapshot v
snapshot_read input v e = by (parts_of input) refl e
  where
    by : (read : Result SnapshotValue SnapshotFault) → parts_of input ≡ read → judged read ≡ Ok v → IsSnapshot v
    by (Ok w) r h =
        let said = parts_back input w r in
        let j = judged_is w v said.problem said.breaks h in
        subst IsSnapshot j.0 j.1
    by (Err f) r h = absurd (cc)

-- and its text is the one that is written of it
read_text : (input : List ℕ) (v : SnapshotValue) → snapshot_of input ≡ Ok v → input ≡ snapshot_text v
read_text input v e = by (parts_of input) refl e
  where
    by : (read : Result SnapshotValue SnapshotFault) → parts_of input ≡ read → judged read ≡ Ok v → input ≡ snapshot_text v
    by (Ok w) r h =
        let said = parts_back input w r in
        let j = judged_is w v said.problem said.breaks h in
        said.text_is ∙ ap snapshot_text j.0
    by (Err f) r h = absurd (cc)

-- what is written of a snapshot that was read
pub resumed : (most : Option ℕ) (lists : Bool) (input text : List ℕ) → resumed_of (resume_output most lists) (snapshot_of input) ≡ Ok text
    → (v : SnapshotValue) × (input ≡ snapshot_text v) × IsSnapshot v × TellsStretch most lists v text
resumed most lists input text e = by (snapshot_of input) refl e
  where
    by : (read : Result SnapshotValue SnapshotFault) → snapshot_of input ≡ read → resumed_of (resume_output most lists) read ≡ Ok text
        → (v : SnapshotValue) × (input ≡ snapshot_text v) × IsSnapshot v × TellsStretch most lists v text
    by (Ok v) r h =
        let same : resume_output most lists v ≡ text = cc in
        let is = snapshot_read input v r in
        (v, read_text input v r, is, subst (TellsStretch most lists v) same (tells_stretch most lists v is))
    by (Err f) r h = absurd (cc)
