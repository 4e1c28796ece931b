-- What the lines of a walk are, where it went on and where it was refused.
use Rattle.std.proofs.Common.{◌≡◌, ℕ, ◌≤◌, ◌==◌, true, false, ◌⊎◌, inl, inr, Result, List, [], ◌∷◌, ◌++◌, Option, Some, IfSome, refl, sym, ◌∙◌, ap, ap₂, subst, arith, append_assoc, append-nil}
use Rattle.std.proofs.lemmas.Bool.{ne_eqb}
use Rattle.std.proofs.lemmas.Bool.Decides.{eqb_tells}
use Rattle.std.specs.List.{list_all}
use Rattle.cover_problem.specs.Problem.{ProblemValue}
use Rattle.text_lines.specs.Writing.{line_text, text_of}
use Rattle.x_steps.specs.StateValue.{StateValue}
use Rattle.x_branches.specs.Branch.{end_of}
use Rattle.x_branches.specs.Runner.{RunnerValue}
use Rattle.lab_world.specs.Worker.{WorkerValue}
use Rattle.debug_language.specs.declared.fault.DebugFault.TheVariants.{AtEnd}
use Rattle.debug_language.specs.declared.words.Plain.TheVariants.{End}
use Rattle.x_texts.specs.declared.breakpoint.Break.{Break}
use Rattle.x_texts.specs.Breaks.{is_break}
use Rattle.debug_acts.specs.Breakpoints.{meets, first_met}
use Rattle.debug_acts.specs.Lines.{plain, debug_refusal}
use Rattle.debug_acts.specs.Walk.{steps_ahead, state_on, visit_lines, moved_lines, walk_lines, step_count, end_lines, step_lines, run_count, run_lines, stop_line}
use Rattle.debug_acts.specs.Acts.{walk_acts, PlaysWalk}
use Rattle.debug_acts.proofs.LineLemmas.{one_line, more_lines}
use Rattle.debug_acts.proofs.CountLemmas.{least_second, least_within}
use Rattle.debug_acts.proofs.ForwardLemmas.{all_gone, not_all, none_ahead, some_ahead}
use Rattle.debug_acts.proofs.WorkLemmas.{AtWork, IsWork, can_walk}
use Rattle.debug_acts.proofs.LeadLemmas.{LeadsTo, begun, Came, came_to, plays_all}
use Rattle.debug_acts.proofs.RunLemmas.{found_passes, run_within}

-- visits, the count and the position, one after the other
pub walk_text : (r : RunnerValue) (n m : ℕ) (s : StateValue) (old one two : List ℕ) → m ≡ n → s ≡ state_on r n
    → one ≡ old ++ text_of (visit_lines r.problem r.position (state_on r n)) → two ≡ one ++ text_of (moved_lines m s) → two ≡ old ++ text_of (walk_lines r n)
walk_text r n m s old one two e h i j =
    j ∙ ap₂ (λ x ls. x ++ text_of ls) i (ap₂ moved_lines e h)
    ∙ append_assoc old _ _
    ∙ ap (λ x. old ++ x) (sym (more_lines (visit_lines r.problem r.position (state_on r n)) (moved_lines n (state_on r n))))

-- and a line more
pub line_more : (ls : List (List (List ℕ))) (line : List (List ℕ)) (old one two : List ℕ) → one ≡ old ++ text_of ls → two ≡ one ++ line_text line → two ≡ old ++ text_of (ls ++ line ∷ [])
line_more ls line old one two e h =
    h ∙ ap₂ (λ x y. x ++ y) e (one_line line) ∙ append_assoc old _ _ ∙ ap (λ x. old ++ x) (sym (more_lines ls (line ∷ [])))

-- where a walk stands that has gone so many steps
pub stands_at : (u : AtWork) (n : ℕ) (v : AtWork) → Came u n v → v.worker.runner.position ≡ state_on u.worker.runner n
stands_at u n v c = ap (λ (w : WorkerValue). w.runner.position) c.at

-- no step is taken
none_plays : {X E : Type 0} (r : Result X E) (u : AtWork) (n : ℕ) → 0 ≡ n → PlaysWalk r u.book u.worker n u.book u.worker
none_plays r u n e =
    subst (λ (k : ℕ). PlaysWalk r u.book u.worker k u.book u.worker) e (plays_all u.book u.book (Some u.worker) (Some u.worker) r [] refl)

module _ (u : AtWork) (s : IsWork u) where
  abbrev r : RunnerValue
  r = u.worker.runner

  abbrev IsAtEnd : AtWork → Type 0
  IsAtEnd v = v.worker.runner.position ≡ end_of v.worker.runner.branch.hi

  -- ---- `step`

  module _ (most : ℕ) where
    abbrev count : ℕ
    count = step_count r most

    pub step_within : count ≤ steps_ahead r
    step_within = least_within most (steps_ahead r)

    pub step_refused : {X E : Type 0} (result : Result X E) → IsAtEnd u → PlaysWalk result u.book u.worker count u.book u.worker
    step_refused result e =
        let h = none_ahead r (can_walk u s) e in none_plays result u count (rw h (least_second most 0 (omega arith)))

    pub step_refused_lines : IsAtEnd u → step_lines r most ≡ debug_refusal AtEnd ∷ []
    step_refused_lines e = let h = none_ahead r (can_walk u s) e in rw h refl

    -- the lines where it isn't refused
    step_lines_are : (IsAtEnd u → ⊥) → step_lines r most ≡ walk_lines r count ++ end_lines r count
    step_lines_are go = let l = some_ahead r (can_walk u s) go in let e = ne_eqb (steps_ahead r) 0 (λ h. omega arith) in rw e refl

    module _ (go : IsAtEnd u → ⊥) (v : AtWork) (c : Came u count v) where
      its_end : end_of v.worker.runner.branch.hi ≡ end_of r.branch.hi
      its_end = ap (λ (w : WorkerValue). end_of w.runner.branch.hi) c.at

      pub step_to_end : IsAtEnd v → step_lines r most ≡ walk_lines r count ++ plain End ∷ []
      step_to_end e =
          let all = all_gone r (can_walk u s) count step_within (sym (stands_at u count v c) ∙ e ∙ its_end) in
          step_lines_are go ∙ ap (λ ls. walk_lines r count ++ ls) (at_end count all)
        where
          at_end : (n : ℕ) → n ≡ steps_ahead r → end_lines r n ≡ plain End ∷ []
          at_end n h = by (eqb_tells n (steps_ahead r))
            where
              by : (((n == steps_ahead r) ≡ true) × (n ≡ steps_ahead r)) ⊎ (((n == steps_ahead r) ≡ false) × (n ≡ steps_ahead r → ⊥))
                  → end_lines r n ≡ plain End ∷ []
              by (inl t) = rw t.0 refl
              by (inr t) = absurd (t.1 h)

      pub step_not_to_end : (IsAtEnd v → ⊥) → step_lines r most ≡ walk_lines r count
      step_not_to_end h =
          let l = not_all r (can_walk u s) count step_within (λ e. h (stands_at u count v c ∙ e ∙ sym its_end)) in
          let none : end_lines r count ≡ [] = rw (ne_eqb count (steps_ahead r) (λ e. omega arith)) refl in
          step_lines_are go ∙ ap (λ ls. walk_lines r count ++ ls) none ∙ append-nil (walk_lines r count)

  -- ---- `run`

  module _ (breaks : List Break) where
    pub run_refused : {X E : Type 0} (result : Result X E) → IsAtEnd u → PlaysWalk result u.book u.worker (run_count breaks r) u.book u.worker
    run_refused result e = let h = none_ahead r (can_walk u s) e in none_plays result u (run_count breaks r) (rw h refl)

    pub run_refused_lines : IsAtEnd u → run_lines breaks r ≡ debug_refusal AtEnd ∷ []
    run_refused_lines e = let h = none_ahead r (can_walk u s) e in rw h refl

    module _ (v : AtWork) (led : LeadsTo u (walk_acts (run_count breaks r) (begun u)) v) where
      pub run_came : Came u (run_count breaks r) v
      run_came = came_to u s (run_count breaks r) v (run_within breaks r) led

      -- the book's problem stays the runner's
      pub run_problem : v.book.problem ≡ r.problem
      run_problem = sym run_came.sound.holds.problem ∙ ap (λ (w : WorkerValue). w.runner.problem) run_came.at

    -- the lines where it isn't refused, over the book's problem
    pub run_lines_are : (IsAtEnd u → ⊥) → (p : ProblemValue) → p ≡ r.problem → (met : Option Break)
        → met ≡ first_met r.problem breaks (state_on r (run_count breaks r))
        → run_lines breaks r ≡ walk_lines r (run_count breaks r) ++ stop_line p.names met ∷ []
    run_lines_are go p h met m =
        let l = some_ahead r (can_walk u s) go in
        let e = ne_eqb (steps_ahead r) 0 (λ z. omega arith) in
        let lines : run_lines breaks r ≡ walk_lines r (run_count breaks r) ++ stop_line r.problem.names (first_met r.problem breaks (state_on r (run_count breaks r))) ∷ [] = rw e refl in
        lines ∙ ap₂ (λ (q : ProblemValue) o. walk_lines r (run_count breaks r) ++ stop_line q.names o ∷ []) (sym h) (sym m)

    -- what is met is a breakpoint of the book's problem
    pub met_is_break : (p q : ProblemValue) → p ≡ q → list_all (is_break q) breaks ≡ true → (t : StateValue) (met : Option Break)
        → met ≡ first_met r.problem breaks t → IfSome met (λ o. is_break p o ≡ true)
    met_is_break p q e h t met m =
        subst (λ o. IfSome o (λ v. is_break p v ≡ true)) (sym m) (found_passes (is_break p) (meets r.problem t) breaks (ap (λ x. list_all (is_break x) breaks) e ∙ h))
