-- The stretch from a snapshot's state on: where it ends, and that it stops at a snapshot of the same branch.
use Rattle.std.proofs.Common.{◌≡◌, ◌∙◌, ℕ, ◌+◌, ◌-◌, ◌<◌, ◌≤◌, ◌⊎◌, inl, inr, Option, Some, option_map, List, [], ◌∷◌, ◌++◌, length, refl, sym, ap, ap₂, map, subst, false, arith, le_refl, length-append}
use Rattle.std.proofs.Common as common
use Rattle.std.proofs.lemmas.Bool.{cases_order}
use Rattle.cover_problem.specs.Problem.{ProblemValue}
use Rattle.x_steps.specs.declared.state.Label.TheVariants.{X5}
use Rattle.x_steps.specs.declared.state.Cursor.TheVariants.{At}
use Rattle.x_steps.specs.StateValue.{StateValue, at, done}
use Rattle.x_steps.specs.Steps.{Fits}
use Rattle.x_steps.specs.Run.{after, steps_between, ReachesIn}
use Rattle.x_steps.specs.Rank.{rank}
use Rattle.x_steps.specs.Machine.{MachineValue}
use Rattle.x_steps.proofs.RunLemmas.{start_fits, done_fits, after_fits, leads_to, rises_between, steps_between_is}
use Rattle.x_steps.proofs.BetweenLemmas.{steps_between_self}
use Rattle.x_steps.proofs.StretchLemmas.{reached_rank}
use Rattle.x_branches.specs.Cut.{cut_state}
use Rattle.x_branches.specs.Branch.{first_of, end_of}
use Rattle.x_branches.specs.RunOrder.{ComesBefore, comes_before}
use Rattle.x_branches.proofs.CutLemmas.{cut_is, cut_fits, rank_test}
use Rattle.x_branches.proofs.StageLemmas.{comes_rank}
use Rattle.x_branches.proofs.RunnerLemmas.{not_before, before_not, other_before}
use Rattle.x_snapshot.specs.Snapshot.{SnapshotValue, at_state, path_in, IsCutIfAny, IsSnapshot}
use Rattle.x_snapshot.specs.Writer.{snapshot_text}
use Rattle.text_lines.specs.Writing.{text_of}
use Rattle.polylab_engine.specs.Account.{ReportValue, account_of}
use Rattle.x_texts.specs.Words.{visit_words}
use Rattle.polylab_engine.specs.Output.{total_lines, report_text}
use Rattle.polylab_engine.specs.Stretch.{end_at, steps_taken, stop_from}
use Rattle.polylab_engine.specs.Resumed.{branch_end, stop_of, snapshot_position, end_text, rest_text, report_up_to, resume_output}
use Rattle.polylab_engine.proofs.StopLemmas.{taken_within, taken_or}

-- ---- the end of a branch

-- by the last of the choices and those before it
pub end_at_last : (end front : List ℕ) (last : ℕ) → end ≡ front ++ last ∷ [] → end_at end ≡ at X5 front (At last)
end_at_last [] front last e = let n = ap (length {A = ℕ}) e in let m = length-append front (last ∷ []) in absurd (omega arith)
end_at_last (o ∷ path) front last e = ap cut_state e ∙ cut_is front last

pub end_at_none : (end : List ℕ) → length end ≡ 0 → end_at end ≡ done
end_at_none [] e = refl
end_at_none (o ∷ path) e = absurd (omega arith)

first_fits : (p : ProblemValue) (lo : Option (List ℕ)) → IsCutIfAny p lo → Fits p (first_of (option_map (path_in p) lo))
first_fits p common.None c = start_fits p
first_fits p (Some path) c = cut_fits p path c

last_fits : (p : ProblemValue) (hi : Option (List ℕ)) → IsCutIfAny p hi → Fits p (end_of (option_map (path_in p) hi))
last_fits p common.None c = done_fits p
last_fits p (Some path) c = cut_fits p path c

pub end_fits : (v : SnapshotValue) → IsSnapshot v → Fits v.problem (branch_end v)
end_fits v s = last_fits v.problem v.hi s.on_run.high

-- ---- where the stretch stops

module _ (most : Option ℕ) (v : SnapshotValue) (s : IsSnapshot v) where
  pub up : rank v.problem v.state ≤ rank v.problem (branch_end v)
  up = not_before v.problem (branch_end v) v.state (end_fits v s) s.on_run.fits s.inside.within.not_past

  leads : ReachesIn v.problem v.state (branch_end v) (steps_between v.problem v.state (branch_end v))
  leads = leads_to v.problem v.state (branch_end v) s.on_run.fits (end_fits v s) up

  pub reached : ReachesIn v.problem v.state (stop_of most v) (steps_taken most (steps_between v.problem v.state (branch_end v)))
  reached = record { ends = refl; goes_on = λ i l. leads.goes_on i (let w = taken_within most (steps_between v.problem v.state (branch_end v)) in omega arith) }

  pub stop_fits : Fits v.problem (stop_of most v)
  stop_fits = after_fits v.problem (steps_taken most (steps_between v.problem v.state (branch_end v))) v.state s.on_run.fits

  pub stop_up : rank v.problem v.state ≤ rank v.problem (stop_of most v)
  stop_up = reached_rank v.problem v.state (stop_of most v) _ s.on_run.fits reached

  pub stop_not_past : rank v.problem (stop_of most v) ≤ rank v.problem (branch_end v)
  stop_not_past = step (cases_order (steps_taken most (steps_between v.problem v.state (branch_end v))) (steps_between v.problem v.state (branch_end v)))
    where
      last : rank v.problem (after v.problem (steps_between v.problem v.state (branch_end v)) v.state) ≡ rank v.problem (branch_end v)
      last = ap (rank v.problem) leads.ends

      step : (steps_taken most (steps_between v.problem v.state (branch_end v)) ≡ steps_between v.problem v.state (branch_end v)) ⊎ ((steps_taken most (steps_between v.problem v.state (branch_end v)) < steps_between v.problem v.state (branch_end v)) ⊎ (steps_between v.problem v.state (branch_end v) < steps_taken most (steps_between v.problem v.state (branch_end v)))) → rank v.problem (stop_of most v) ≤ rank v.problem (branch_end v)
      step (inl e) = let a = last in let b = ap (λ k. rank v.problem (after v.problem k v.state)) e in omega arith
      step (inr (inl l)) =
          let a = last in
          let r = rises_between v.problem (steps_between v.problem v.state (branch_end v)) v.state s.on_run.fits leads.goes_on (steps_taken most (steps_between v.problem v.state (branch_end v))) (steps_between v.problem v.state (branch_end v)) l (le_refl (steps_between v.problem v.state (branch_end v))) in omega arith
      step (inr (inr l)) = absurd (let w = taken_within most (steps_between v.problem v.state (branch_end v)) in omega arith)

  pub steps_are : steps_between v.problem v.state (stop_of most v) ≡ steps_taken most (steps_between v.problem v.state (branch_end v))
  steps_are = steps_between_is v.problem v.state (stop_of most v) _ s.on_run.fits reached

  -- at the end, or after as many steps as were asked for
  pub stops : (stop_of most v ≡ branch_end v) ⊎ (most ≡ Some (steps_between v.problem v.state (stop_of most v)))
  stops = step (taken_or most (steps_between v.problem v.state (branch_end v)))
    where
      step : (steps_taken most (steps_between v.problem v.state (branch_end v)) ≡ steps_between v.problem v.state (branch_end v)) ⊎ (most ≡ Some (steps_taken most (steps_between v.problem v.state (branch_end v)))) → (stop_of most v ≡ branch_end v) ⊎ (most ≡ Some (steps_between v.problem v.state (stop_of most v)))
      step (inl e) = inl (ap (λ k. after v.problem k v.state) e ∙ leads.ends)
      step (inr e) = inr (e ∙ ap (λ k. Some k) (sym steps_are))

  pub not_past : ComesBefore v.problem (branch_end v) (stop_of most v) → ⊥
  not_past = before_not v.problem (branch_end v) (stop_of most v) (end_fits v s) stop_not_past

  -- at the end, if no number was asked for
  pub stop_whole : stop_of common.None v ≡ branch_end v
  stop_whole = leads.ends

  -- and there is a snapshot again
  pub stop_is_snapshot : IsSnapshot (at_state v (stop_of most v))
  stop_is_snapshot = record {
    problem = s.problem;
    breaks = s.breaks;
    on_run = record { low = s.on_run.low; high = s.on_run.high; fits = stop_fits };
    inside = record {
      branch = s.inside.branch;
      within = record {
        begun = λ b.
            let low = not_before v.problem v.state (first_of (option_map (path_in v.problem) v.lo)) s.on_run.fits (first_fits v.problem v.lo s.on_run.low) s.inside.within.begun in
            let less = comes_rank v.problem (stop_of most v) (first_of (option_map (path_in v.problem) v.lo)) stop_fits b in
            let u = stop_up in absurd (omega arith);
        not_past = not_past;
      };
    };
  }

-- ---- what stands last

module _ (v : SnapshotValue) (t : StateValue) (s : IsSnapshot (at_state v t)) where
  pub rest_ended : t ≡ branch_end v → rest_text v t ≡ end_text
  unfolding comes_before
  rest_ended e =
      let none : steps_between v.problem t (branch_end v) ≡ 0 = ap (λ u. steps_between v.problem u (branch_end v)) e ∙ steps_between_self v.problem (branch_end v) (end_fits (at_state v t) s) in
      rw none refl

  pub rest_goes_on : (t ≡ branch_end v → ⊥) → rest_text v t ≡ snapshot_text (at_state v t)
  rest_goes_on n =
      let there = end_fits (at_state v t) s in
      let low = not_before v.problem (branch_end v) t there s.on_run.fits s.inside.within.not_past in
      let test = rank_test v.problem t (branch_end v) s.on_run.fits there (other_before v.problem t (branch_end v) s.on_run.fits there low n) in
      rw test refl

-- a machine at a snapshot's state stops where a stretch from there does
pub stop_is : (most : Option ℕ) (v : SnapshotValue) (m : MachineValue) (end : List ℕ) → m ≡ snapshot_position v → end_at end ≡ branch_end v → stop_from most m end ≡ stop_of most v
stop_is most v m end here e =
    ap (λ (q : MachineValue). stop_from most q end) here
    ∙ ap (λ (s : StateValue). after v.problem (steps_taken most (steps_between v.problem v.state s)) v.state) e

-- a report that keeps no visit is written as its numbers
numbers_alone : (r : ReportValue) → r.visits ≡ [] → text_of (total_lines r.visited r.steps r.levels) ≡ report_text r
numbers_alone r e = ap (λ visits. text_of (map visit_words visits) ++ text_of (total_lines r.visited r.steps r.levels)) (sym e)

none_kept : (v : SnapshotValue) (t : StateValue) → (report_up_to false v t).visits ≡ []
unfolding account_of
none_kept v t = refl

-- what is written of the rest of a branch, by its numbers alone
pub counted_text : (v : SnapshotValue) → IsSnapshot v → (r : ReportValue) (numbers text : List ℕ) → r ≡ report_up_to false v (branch_end v) → numbers ≡ text_of (total_lines r.visited r.steps r.levels) → text ≡ numbers ++ end_text → text ≡ resume_output common.None false v
unfolding resume_output
counted_text v s r numbers text e n is =
    let stop = stop_whole common.None v s in
    let there : IsSnapshot (at_state v (branch_end v)) = subst (λ t. IsSnapshot (at_state v t)) stop (stop_is_snapshot common.None v s) in
    let kept : r.visits ≡ [] = ap (λ (q : ReportValue). q.visits) e ∙ none_kept v (branch_end v) in
    let report : numbers ≡ report_text (report_up_to false v (branch_end v)) = n ∙ numbers_alone r kept ∙ ap report_text e in
    is ∙ ap₂ (λ xs ys. xs ++ ys) report (sym (rest_ended v (branch_end v) there refl)) ∙ ap (λ t. report_text (report_up_to false v t) ++ rest_text v t) (sym stop)
