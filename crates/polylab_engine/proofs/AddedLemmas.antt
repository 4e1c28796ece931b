-- What `resume` writes of parts that join adds up to what is reported of the whole.
use Rattle.std.proofs.Common.{◌≡◌, ◌∙◌, ◌⊎◌, inl, inr, ℕ, ◌+◌, ◌-◌, ◌<◌, ◌≤◌, true, false, Option, Some, List, [], ◌∷◌, ◌++◌, length, map, decimal, codes, slice_get, Result, Ok, Err, refl, sym, ap, ap₂, subst, arith, append_assoc, append-nil, length-append}
use Rattle.std.proofs.Common as common
use Rattle.text_lines.specs.Writing.{line_text, text_of}
use Rattle.text_lines.proofs.ResultLemmas.{ok_is, no_fault}
use Rattle.cover_problem.specs.Problem.{ProblemValue, IsProblem}
use Rattle.poly_texts.specs.Puzzle.{PuzzleValue}
use Rattle.poly_place.specs.Packings.{packing_problem}
use Rattle.cover_counts.specs.Digits.{numeral}
use Rattle.cover_counts.proofs.WholeLemmas.{steps_told}
use Rattle.x_steps.specs.StateValue.{StateValue, done}
use Rattle.x_steps.specs.Levels.{without_last_zeros, trimmed_levels}
use Rattle.x_steps.specs.Run.{steps_between, visits_between}
use Rattle.x_steps.specs.Steps.{Fits}
use Rattle.x_steps.proofs.Neighbours.{split_last_cases}
use Rattle.x_steps.proofs.ZeroLemmas.{last_counts}
use Rattle.x_texts.specs.Words.{visit_words}
use Rattle.x_branches.specs.Branch.{end_of}
use Rattle.x_branches.specs.RunOrder.{ComesBefore}
use Rattle.x_snapshot.specs.Snapshot.{SnapshotValue, IsSnapshot, cut_if_any}
use Rattle.part_sums.specs.declared.fault.JoinFault.{JoinFault}
use Rattle.part_sums.specs.declared.total.Counted.{Counted}
use Rattle.part_sums.specs.declared.total.Counted.TheVariants.{Covers, Packings}
use Rattle.part_sums.specs.Answers.{counts_with, levels_sum, both_counts, levels_line, answer_lines, sum_lines, IsAnswer, HasNumbersOf}
use Rattle.part_sums.specs.Parts.{CountedPart, last_state, PartsJoin, IsJoined, parts_sum, sum_text}
use Rattle.part_sums.specs.Joining.{join_of}
use Rattle.part_sums.proofs.AnswerLemmas.{same_answers}
use Rattle.part_sums.proofs.FoundLemmas.{found_joined}
use Rattle.polylab_engine.specs.Account.{ReportValue, report_with, account_of}
use Rattle.polylab_engine.specs.Output.{level_words, total_lines, report_text, whole_report, cover_count_output}
use Rattle.polylab_engine.specs.Packed.{count_output}
use Rattle.polylab_engine.specs.Stretch.{stretch_report}
use Rattle.polylab_engine.specs.Resumed.{branch_end, stop_of, end_text, report_up_to, resume_output}
use Rattle.polylab_engine.specs.Joined.{levels_added, sum_of, AreJoined, part_reports}
use Rattle.polylab_engine.specs.Added.{report_counts, AreResumed, IsWholeRun}
use Rattle.polylab_engine.specs.Outcome.{joined_of}
use Rattle.polylab_engine.specs.Listed.{AddsParts}
use Rattle.polylab_engine.proofs.JoinedLemmas.{parts_join}
use Rattle.polylab_engine.proofs.AccountLemmas.{report_of_stretch}
use Rattle.polylab_engine.proofs.ResumeLemmas.{end_fits, stops, stop_is_snapshot, rest_ended}

-- ---- the words of levels

levels_said : (levels : List ℕ) → level_words levels ≡ levels_line levels
levels_said [] = refl
levels_said (n ∷ ns) = refl

levels_same : (xs ys : List ℕ) → levels_added xs ys ≡ levels_sum xs ys
levels_same [] ys = refl
levels_same (x ∷ xs) [] = refl
levels_same (x ∷ xs) (y ∷ ys) = ap (λ zs. (x + y) ∷ zs) (levels_same xs ys)

-- ---- what `resume` writes of a part

end_get : (ys : List ℕ) (y k : ℕ) → k ≡ length ys → slice_get (ys ++ y ∷ []) k ≡ Some y
end_get [] y common.zero e = refl
end_get [] y (common.suc k) e = absurd (omega (arith, e))
end_get (x ∷ ys) y common.zero e = absurd (omega (arith, e))
end_get (x ∷ ys) y (common.suc k) e = end_get ys y k (omega (arith, e))

-- the last of the levels that are reported has a state
last_level : (xs : List ℕ) → slice_get (without_last_zeros xs) (length (without_last_zeros xs) - 1) ≡ Some 0 → ⊥
last_level xs h = step (split_last_cases (without_last_zeros xs))
  where
    step : (without_last_zeros xs ≡ []) ⊎ ((q : List ℕ) × (o : ℕ) × (without_last_zeros xs ≡ q ++ o ∷ [])) → ⊥
    step (inl e) = none (without_last_zeros xs) e h
      where
        none : (ys : List ℕ) → ys ≡ [] → slice_get ys (length ys - 1) ≡ Some 0 → ⊥
        none [] e h = cc
        none (y ∷ ys) e h = absurd (cc)
    step (inr (q, o, e)) =
        let some = last_counts xs q o e in
        let size : length (q ++ o ∷ []) - 1 ≡ length q = (let l = length-append q (o ∷ []) in omega (arith, l)) in
        let found : ◌≡◌ {A = Option ℕ} (Some o) (Some 0) = sym (end_get q o (length (q ++ o ∷ []) - 1) size) ∙ subst (λ ys. slice_get ys (length ys - 1) ≡ Some 0) e h in
        let zero : o ≡ 0 = cc in
        omega (arith, some, zero)

-- a part's report up to its end, as its answer
report_said : (r : ReportValue) → r.visits ≡ [] → report_text r ++ end_text ≡ text_of (answer_lines (report_counts r))
report_said r e =
    let a = line_text (codes "visits" ∷ numeral r.visited ∷ []) in
    let b = line_text (codes "steps" ∷ numeral r.steps ∷ []) in
    let c = line_text (levels_line r.levels) in
    let d = line_text (codes "end" ∷ []) in
    ap (λ vs. (text_of (map visit_words vs) ++ text_of (total_lines r.visited r.steps r.levels)) ++ end_text) e
    ∙ ap (λ ws. (a ++ (b ++ (line_text ws ++ []))) ++ d) (levels_said r.levels)
    ∙ flat a b c d
  where
    flat : (a b c d : List ℕ) → (a ++ (b ++ (c ++ []))) ++ d ≡ a ++ (b ++ (c ++ (d ++ [])))
    flat a b c d = simp (append_assoc, append-nil)

end_stop : (v : SnapshotValue) → IsSnapshot v → stop_of common.None v ≡ branch_end v
end_stop v s = step (stops common.None v s)
  where
    step : {n : ℕ} → (stop_of common.None v ≡ branch_end v) ⊎ (◌≡◌ {A = Option ℕ} common.None (Some n)) → stop_of common.None v ≡ branch_end v
    step (inl e) = e
    step (inr e) = absurd (cc)

resume_said : (v : SnapshotValue) → IsSnapshot v → resume_output common.None false v ≡ text_of (answer_lines (report_counts (report_up_to false v (branch_end v))))
unfolding resume_output account_of
resume_said v s =
    let stop = end_stop v s in
    let rest = rest_ended v (stop_of common.None v) (stop_is_snapshot common.None v s) stop in
    ap₂ (λ (t : StateValue) (x : List ℕ). report_text (report_up_to false v t) ++ x) stop rest ∙ report_said (report_up_to false v (branch_end v)) refl

part_counts : (q : CountedPart) → IsSnapshot q.snapshot → IsAnswer q.counts → text_of (answer_lines q.counts) ≡ resume_output common.None false q.snapshot → q.counts ≡ report_counts (report_up_to false q.snapshot (branch_end q.snapshot))
part_counts q s a e = same_answers q.counts (report_counts (report_up_to false q.snapshot (branch_end q.snapshot))) a.last (last_level _) (e ∙ resume_said q.snapshot s)

-- ---- the numbers of an answer

-- a stretch has the numbers that are reported of it
stretch_numbers : (p : ProblemValue) (s t : StateValue) → IsProblem p → Fits p s → Fits p t → (ComesBefore p t s → ⊥) → HasNumbersOf s t (report_counts (stretch_report false p s t))
stretch_numbers p s t is f g n =
    let r = report_with [] (length (visits_between p s t)) (steps_between p s t) (trimmed_levels p s t) in
    subst (λ (x : ReportValue). HasNumbersOf s t (report_counts x)) (report_of_stretch false p s t r refl refl refl refl)
    (steps_told p s t r.visited _ _ r.levels is f g n refl refl refl refl)

pub resumed_numbers : (v : SnapshotValue) → IsSnapshot v → HasNumbersOf v.state (last_state v) (report_counts (report_up_to false v (stop_of common.None v)))
resumed_numbers v s =
    subst (λ (t : StateValue). HasNumbersOf v.state (branch_end v) (report_counts (report_up_to false v t))) (sym (end_stop v s))
    (stretch_numbers v.problem v.state (branch_end v) s.problem s.on_run.fits (end_fits v s) s.inside.within.not_past)

-- ---- parts that join

are_joined : (v : SnapshotValue) (s t : StateValue) (qs : List CountedPart) → PartsJoin v s qs t → AreJoined v.problem s (map (λ q. q.snapshot) qs) t
are_joined v s t [] j = j
are_joined v s t (q ∷ qs) j = (j.0.snapshot, j.0.problem, j.1, are_joined v (branch_end q.snapshot) t qs j.2)

counts_same : (v w s t : ℕ) (xs ys : List ℕ) → v ≡ w → s ≡ t → xs ≡ ys → counts_with v s xs ≡ counts_with w t ys
counts_same v w s t xs ys e f g = rw (e, f, g) refl

sums_same : (v : SnapshotValue) (s t : StateValue) (qs : List CountedPart) → PartsJoin v s qs t → AreResumed qs → parts_sum qs ≡ report_counts (sum_of (part_reports false (map (λ q. q.snapshot) qs)))
sums_same v s t [] j r = refl
sums_same v s t (q ∷ qs) j r =
    let here = report_up_to false q.snapshot (branch_end q.snapshot) in
    let others = sum_of (part_reports false (map (λ q. q.snapshot) qs)) in
    ap₂ both_counts (part_counts q j.0.snapshot j.0.answer r.0) (sums_same v (branch_end q.snapshot) t qs j.2 r.1)
    ∙ counts_same _ _ _ _ _ _ refl refl (sym (levels_same here.levels others.levels))

-- ---- the lines of the sum

covers_said : (p : ProblemValue) → cover_count_output p ≡ text_of (sum_lines Covers p (report_counts (whole_report false p)))
unfolding cover_count_output
covers_said p =
    let r = whole_report false p in
    ap (λ ws. text_of ((codes "visits" ∷ numeral r.visited ∷ []) ∷ (codes "steps" ∷ numeral r.steps ∷ []) ∷ ws ∷ [])) (levels_said r.levels)

packings_said : (p : PuzzleValue) → count_output p ≡ text_of (sum_lines Packings (packing_problem p) (report_counts (whole_report false (packing_problem p))))
unfolding count_output
packings_said p =
    let r = whole_report false (packing_problem p) in
    ap (λ ws. text_of ((codes "packings" ∷ numeral r.visited ∷ []) ∷ (codes "options" ∷ decimal (length (packing_problem p).options) ∷ []) ∷ (codes "steps" ∷ numeral r.steps ∷ []) ∷ ws ∷ [])) (levels_said r.levels)

last_is_done : (v : SnapshotValue) → v.hi ≡ common.None → branch_end v ≡ done
last_is_done v e = ap (λ hi. end_of (cut_if_any v.problem hi)) e

module _ (counted : Counted) (input text : List ℕ) (v : SnapshotValue) (qs : List CountedPart) (j : IsJoined input v qs) (e : text ≡ sum_text counted v qs) where
  told : AreResumed qs → text ≡ text_of (sum_lines counted v.problem (report_counts (report_up_to false v (branch_end v))))
  told r =
      let sum = sums_same v v.state (branch_end v) qs j.join r ∙ ap report_counts (parts_join false v.problem v.state (branch_end v) (map (λ q. q.snapshot) qs) j.whole.on_run.fits (are_joined v v.state (branch_end v) qs j.join)) in
      e ∙ ap (λ c. text_of (sum_lines counted v.problem c)) sum

  -- of a whole run
  whole_told : AreResumed qs → IsWholeRun v → text ≡ text_of (sum_lines counted v.problem (report_counts (whole_report false v.problem)))
  whole_told r w = told r ∙ ap₂ (λ (s t : StateValue). text_of (sum_lines counted v.problem (report_counts (stretch_report false v.problem s t)))) w.0 (last_is_done v w.1)

  pub adds_parts : AddsParts counted input text
  adds_parts = record {
    whole = v;
    parts = qs;
    joined = j;
    lines = e;
    resumed = told;
    covers = λ c r w. whole_told r w ∙ ap (λ x. text_of (sum_lines x v.problem (report_counts (whole_report false v.problem)))) c ∙ sym (covers_said v.problem);
    packings = λ c r w p same.
        whole_told r w ∙ ap₂ (λ (x : Counted) (q : ProblemValue). text_of (sum_lines x q (report_counts (whole_report false q)))) c same ∙ sym (packings_said p);
  }

-- what is written of a text that is joined
pub joined_adds : (counted : Counted) (input text : List ℕ) → joined_of (join_of counted input) ≡ Ok text → AddsParts counted input text
joined_adds counted input text h =
    let f = found_joined counted input text (found (join_of counted input) h) in
    adds_parts counted input text f.0 f.1 f.2 f.3
  where
    found : (r : Result (List ℕ) (JoinFault × ℕ)) → joined_of r ≡ Ok text → r ≡ Ok text
    found (Ok lines) h = ap (λ x. some x) (ok_is lines text h)
      where
        some : List ℕ → Result (List ℕ) (JoinFault × ℕ)
        some x = Ok x
    found (Err f) h = absurd (no_fault _ text h)
