-- What `resume` writes of a snapshot: the two parts of it.
use Rattle.std.proofs.Common.{None, ◌≡◌, ◌∙◌, ◌⊎◌, inl, inr, ℕ, ◌<◌, ◌≤◌, Bool, true, false, cond, Option, List, [], ◌∷◌, ◌++◌, length, decimal, codes, Result, Ok, Err, refl, sym, ap, ap₂, subst, arith, append_assoc}
use Rattle.std.proofs.lemmas.Bool.{and_from, cases_order, ltb-true}
use Rattle.text_lines.specs.Lines.{lines_of}
use Rattle.text_lines.specs.Writing.{is_word, line_text, text_of}
use Rattle.text_lines.proofs.WritingLemmas.{line_before}
use Rattle.text_lines.proofs.ResultLemmas.{ok_is}
use Rattle.cover_problem.specs.Problem.{ProblemValue}
use Rattle.cover_problem.specs.Grammar.{word_lines, written}
use Rattle.x_steps.specs.StateValue.{StateValue}
use Rattle.x_steps.specs.Steps.{Fits}
use Rattle.x_steps.specs.Run.{steps_between}
use Rattle.x_steps.specs.Rank.{rank}
use Rattle.x_steps.proofs.RunLemmas.{rank_once}
use Rattle.x_branches.specs.RunOrder.{comes_before}
use Rattle.x_branches.proofs.CutLemmas.{rank_test}
use Rattle.x_snapshot.specs.declared.fault.SnapshotFault.{SnapshotFault}
use Rattle.x_snapshot.specs.Snapshot.{SnapshotValue, IsSnapshot}
use Rattle.x_snapshot.specs.Writer.{version_of, head_lines, position_lines, lines_of_breaks, end_line, snapshot_text}
use Rattle.x_snapshot.specs.Reader.{parts_of, keyed_line, keyed, first_line, line_words, after_key}
use Rattle.x_snapshot.specs.Judged.{snapshot_of}
use Rattle.x_snapshot.proofs.WholeAgain.{parts_again}
use Rattle.x_snapshot.proofs.JudgedLemmas.{read_judged}
use Rattle.polylab_engine.specs.Account.{ReportValue}
use Rattle.polylab_engine.specs.Output.{report_text}
use Rattle.polylab_engine.specs.Resumed.{branch_end, stop_of, end_text, rest_text, resume_output}
use Rattle.polylab_engine.specs.Joined.{after_slice, slice_report}
use Rattle.polylab_engine.specs.Outcome.{job_outcome, resumed_of}
use Rattle.polylab_engine.proofs.ResumeLemmas.{end_fits, stop_fits, stop_not_past}
use Rattle.polylab_engine.proofs.ToldLemmas.{resumed}
use Rattle.resume_laws.specs.ResumedTexts.{ended_lines, report_part, rest_part, RunRequest, IsResumed, IsInput}
use Rattle.resume_laws.proofs.PartLemmas.{starts_rest, ended_text, report_is, rest_is}
use Rattle.resume_laws.proofs.WordLemmas.{decimal_is_word, report_lines, report_is_lines, report_words, report_begins}
use Rattle.resume_laws.proofs.LimitLemmas.{snapshot_length}

-- ---- the text of a snapshot

-- the first of six lists in front
apart : (a b c d e f : List ℕ) → a ++ b ++ c ++ d ++ e ++ f ≡ a ++ (b ++ c ++ d ++ e ++ f)
apart a b c d e f = simp append_assoc

-- the rest begins at its first line
snapshot_starts : (v : SnapshotValue) → starts_rest (lines_of (snapshot_text v)) ≡ true
unfolding snapshot_text
snapshot_starts v =
    let version = decimal (version_of v.problem v.breaks) in
    let head = codes "polysnap" ∷ version ∷ [] in
    let second = line_text (codes "problem" ∷ decimal (length (word_lines v.problem)) ∷ []) ++ [] in
    let position = text_of (position_lines v) in
    let breaks = text_of (lines_of_breaks v.problem v.breaks) in
    let end = text_of end_line in
    ap (λ text. starts_rest (lines_of text)) (apart (line_text head) second (written v.problem) position breaks end)
    ∙ ap starts_rest (line_before head (second ++ written v.problem ++ position ++ breaks ++ end) (and_from (is_word version) true (decimal_is_word (version_of v.problem v.breaks)) refl))

-- its last line is ended
snapshot_ended : (v : SnapshotValue) → ended_lines (lines_of (snapshot_text v)) ≡ snapshot_text v
unfolding snapshot_text
snapshot_ended v =
    let body = text_of (head_lines v) ++ written v.problem ++ text_of (position_lines v) ++ text_of (lines_of_breaks v.problem v.breaks) in
    let whole : body ++ codes "end" ++ 10 ∷ [] ≡ snapshot_text v = append_assoc body (codes "end") (10 ∷ []) in
    subst (λ text. ended_lines (lines_of text) ≡ text) whole (ended_text (body ++ codes "end"))

-- what is written of a snapshot is read as it
pub snapshot_again : (v : SnapshotValue) → IsSnapshot v → snapshot_of (snapshot_text v) ≡ Ok v
snapshot_again v s = read_judged (snapshot_text v) v (parts_again v s) s

-- a text that is read as a snapshot is one's
pub snapshot_read : (text : List ℕ) (v : SnapshotValue) → snapshot_of text ≡ Ok v → IsSnapshot v
snapshot_read text v e =
    let told = resumed None false text (resume_output None false v) (ap (resumed_of (resume_output None false)) e) in
    subst IsSnapshot (ok_is told.0 v (sym (snapshot_again told.0 told.2) ∙ ap snapshot_of (sym told.1) ∙ e)) told.2

-- ---- what stands last

-- a state that comes before no other state of a run, and after none, is that one
at_end : (p : ProblemValue) (t end : StateValue) → Fits p t → Fits p end → rank p t ≤ rank p end → comes_before p t end ≡ false → t ≡ end
at_end p t end f g low e = by (cases_order (rank p t) (rank p end))
  where
    by : (rank p t ≡ rank p end) ⊎ ((rank p t < rank p end) ⊎ (rank p end < rank p t)) → t ≡ end
    by (inl same) = rank_once p t end f g same
    by (inr (inl less)) = let b = rank_test p t end f g less in absurd (cc)
    by (inr (inr more)) = absurd (omega arith)

-- at the end of the branch, or at a snapshot before it
abbrev pub RestOr : Option ℕ → SnapshotValue → Type 0
RestOr most v =
    ((stop_of most v ≡ branch_end v) × (rest_text v (stop_of most v) ≡ end_text))
    ⊎ ((0 < steps_between v.problem (stop_of most v) (branch_end v)) × (rest_text v (stop_of most v) ≡ snapshot_text (after_slice most v)))

pub rest_or : (most : Option ℕ) (v : SnapshotValue) → IsSnapshot v → RestOr most v
unfolding comes_before
rest_or most v s = by (comes_before v.problem (stop_of most v) (branch_end v)) refl
  where
    by : (b : Bool) → comes_before v.problem (stop_of most v) (branch_end v) ≡ b →
        ((stop_of most v ≡ branch_end v) × (cond b (snapshot_text (after_slice most v)) end_text ≡ end_text))
        ⊎ ((0 < steps_between v.problem (stop_of most v) (branch_end v)) × (cond b (snapshot_text (after_slice most v)) end_text ≡ snapshot_text (after_slice most v)))
    by true e = inr (ltb-true 0 _ e, refl)
    by false e = inl (at_end v.problem (stop_of most v) (branch_end v) (stop_fits most v s) (end_fits v s) (stop_not_past most v s) e, refl)

pub record IsRestText (text : List ℕ) : Type 0 where
  pub starts : starts_rest (lines_of text) ≡ true
  pub ended : ended_lines (lines_of text) ≡ text

end_is_rest : IsRestText end_text
end_is_rest = record { starts = refl; ended = refl }

rest_is_text : (most : Option ℕ) (v : SnapshotValue) → IsSnapshot v → IsRestText (rest_text v (stop_of most v))
rest_is_text most v s = by (rest_or most v s)
  where
    by : RestOr most v → IsRestText (rest_text v (stop_of most v))
    by (inl e) = subst IsRestText (sym e.1) end_is_rest
    by (inr e) = subst IsRestText (sym e.1) (record { starts = snapshot_starts (after_slice most v); ended = snapshot_ended (after_slice most v) })

-- ---- the two parts

-- an output of a report and what stands last
module _ (r : ReportValue) (rest : List ℕ) (is : IsRestText rest) where
  pub report_told : report_part (report_text r ++ rest) ≡ report_text r
  report_told =
      ap (λ text. report_part (text ++ rest)) (sym (report_is_lines r))
      ∙ report_is (report_lines r) rest (report_words r) (report_begins r) is.starts
      ∙ report_is_lines r

  pub rest_left : rest_part (report_text r ++ rest) ≡ rest
  rest_left =
      ap (λ text. rest_part (text ++ rest)) (sym (report_is_lines r))
      ∙ rest_is (report_lines r) rest (report_words r) (report_begins r) is.starts is.ended

output_is : (most : Option ℕ) (lists : Bool) (v : SnapshotValue) → resume_output most lists v ≡ report_text (slice_report lists most v) ++ rest_text v (stop_of most v)
unfolding resume_output
output_is most lists v = refl

module _ (most : Option ℕ) (lists : Bool) (v : SnapshotValue) (s : IsSnapshot v) where
  pub resumed_report : report_part (resume_output most lists v) ≡ report_text (slice_report lists most v)
  unfolding resume_output
  resumed_report = report_told (slice_report lists most v) (rest_text v (stop_of most v)) (rest_is_text most v s)

  pub resumed_rest : rest_part (resume_output most lists v) ≡ rest_text v (stop_of most v)
  unfolding resume_output
  resumed_rest = rest_left (slice_report lists most v) (rest_text v (stop_of most v)) (rest_is_text most v s)

  pub resumed_parts : resume_output most lists v ≡ report_part (resume_output most lists v) ++ rest_part (resume_output most lists v)
  resumed_parts = output_is most lists v ∙ sym (ap₂ (λ xs ys. xs ++ ys) resumed_report resumed_rest)

-- ---- texts

-- the snapshot that a run reads, and what it writes of it
pub record IsRunOf (a : RunRequest) (text output : List ℕ) : Type 0 where
  pub snapshot : SnapshotValue
  pub read : snapshot_of text ≡ Ok snapshot
  pub is : IsSnapshot snapshot
  pub written : output ≡ resume_output a.steps a.lists snapshot

pub run_of : (a : RunRequest) (text output : List ℕ) → IsResumed a text output → IsRunOf a text output
unfolding job_outcome
run_of a text output e = by (snapshot_of text) refl e
  where
    by : (read : Result SnapshotValue SnapshotFault) → snapshot_of text ≡ read → resumed_of (resume_output a.steps a.lists) read ≡ Ok output → IsRunOf a text output
    by (Ok v) r h = record { snapshot = v; read = r; is = snapshot_read text v r; written = sym (ok_is (resume_output a.steps a.lists v) output h) }
    by (Err f) r h = absurd (cc)

-- the text of a snapshot is an input
pub is_input : (v : SnapshotValue) → IsSnapshot v → IsInput (snapshot_text v)
unfolding job_outcome
is_input v s = record {
  within = snapshot_length v s;
  taken = λ a. (resume_output a.steps a.lists v, ap (resumed_of (resume_output a.steps a.lists)) (snapshot_again v s));
}

-- `end` is none
pub end_unread : (v : SnapshotValue) → snapshot_of end_text ≡ Ok v → ⊥
unfolding parts_of keyed_line keyed first_line line_words after_key
end_unread v e = cc
