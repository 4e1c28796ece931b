-- Rounds: the steps from one X5 to the next, or to a visit or the end.
use Rattle.std.proofs.Common.{◌≡◌, ℕ, suc, ◌+◌, ◌-◌, ◌<◌, ◌≤◌, ◌⊎◌, inl, inr, Bool, true, false, Option, Some, List, [], ◌∷◌, length, slice_index, slice_set, refl, sym, ap, ◌∙◌, subst, arith, if◌then◌else◌}
use Rattle.std.proofs.Common as common
use Rattle.std.proofs.lemmas.Bool.{cases_lt, cases_order}
use Rattle.cover_problem.specs.Problem.{ProblemValue, IsProblem}
use Rattle.cover_problem.proofs.PathLemmas.{depth}
use Rattle.x_steps.specs.declared.state.Label.{Label}
use Rattle.x_steps.specs.declared.state.Label.TheVariants.{X2, X3, X4, X5, X6, X7, X8, Done}
use Rattle.x_steps.specs.declared.state.Cursor.{Cursor}
use Rattle.x_steps.specs.declared.state.Cursor.TheVariants as cursor
use Rattle.x_steps.specs.declared.state.Cursor.TheVariants.{At, Past}
use Rattle.x_steps.specs.declared.event.Event.{Event}
use Rattle.x_steps.specs.declared.event.Event.TheVariants.{Moved, Visited}
use Rattle.x_steps.specs.StateValue.{StateValue, at}
use Rattle.x_steps.specs.Steps.{Fits, FitsAt, next, event_of, event_at, is_level, is_open, split_last, taken_back}
use Rattle.x_steps.specs.Run.{after}
use Rattle.x_steps.specs.Machine.{MachineValue, Goes, Keeps}
use Rattle.x_steps.specs.Walk.{IsWalk, IsRound}
use Rattle.x_steps.proofs.RunLemmas.{after_add}
use Rattle.x_steps.proofs.WalkLemmas.{none_walked, walked_other, walked_level, walked_join}

-- ---- where a step leads

module _ (p : ProblemValue) (s : StateValue) where
  X5_to_X2 : (o : ℕ) → s.label ≡ X5 → s.cursor ≡ At o → (next p s).label ≡ X2
  unfolding next
  X5_to_X2 o e k = rw (e, k) refl

  X5_to_X7 : s.label ≡ X5 → s.cursor ≡ Past → (next p s).label ≡ X7
  unfolding next
  X5_to_X7 e k = rw (e, k) refl

  X7_to_X8 : s.label ≡ X7 → (next p s).label ≡ X8
  unfolding next
  X7_to_X8 e = rw e refl

  X3_to_X4 : s.label ≡ X3 → (next p s).label ≡ X4
  unfolding next
  X3_to_X4 e = rw e refl

  X2_by : (b : Bool) → (if b then Moved else Visited) ≡ Moved → (if b then at X3 s.path cursor.None else at X8 s.path cursor.None).label ≡ X3
  X2_by true e = refl
  X2_by false e = absurd (cc)

  X2_to_X3 : s.label ≡ X2 → event_of p s ≡ Moved → (next p s).label ≡ X3
  unfolding next event_of
  X2_to_X3 e m = rw e (X2_by (is_open p s.path) (rw e at m))

  back_by : (last : Option (List ℕ × ℕ)) (o : ℕ) → (taken_back last).cursor ≡ At o → (taken_back last).label ≡ X6
  back_by common.None o e = absurd (cc)
  back_by (Some t) o e = refl

  X8_to_X6 : (o : ℕ) → s.label ≡ X8 → (next p s).cursor ≡ At o → (next p s).label ≡ X6
  unfolding next
  X8_to_X6 o e k = rw e (back_by (split_last s.path) o (rw e at k))

  moved_by : (path : List ℕ) (o : ℕ) → (taken_back (split_last path)).cursor ≡ At o → event_at p X8 path ≡ Moved
  moved_by [] o e = absurd (cc)
  moved_by (x ∷ xs) o e = refl

  X8_moves : (o : ℕ) → s.label ≡ X8 → (next p s).cursor ≡ At o → event_of p s ≡ Moved
  unfolding next event_of
  X8_moves o e k = rw e (moved_by s.path o (rw e at k))

  X3_moves : s.label ≡ X3 → event_of p s ≡ Moved
  unfolding event_of
  X3_moves e = rw e refl

  X5_moves : s.label ≡ X5 → event_of p s ≡ Moved
  unfolding event_of
  X5_moves e = rw e refl

  X7_moves : s.label ≡ X7 → event_of p s ≡ Moved
  unfolding event_of
  X7_moves e = rw e refl

-- the level of an X2 state is one of those from 0 up to the number of items
level_fits : (p : ProblemValue) (path : List ℕ) (k : Cursor) → IsProblem p → FitsAt p X2 path k → length path < length p.names + 1
level_fits p path cursor.None sound f = let d = depth p path f in let w = sound.within in omega arith
level_fits p path _ sound f = absurd f

pub level_within : (p : ProblemValue) (s : StateValue) → IsProblem p → Fits p s → s.label ≡ X2 → length s.path < length p.names + 1
level_within p s sound f e = level_fits p s.path s.cursor sound (subst (λ l. FitsAt p l s.path s.cursor) e f)

-- the same of a machine, for counts of all levels
pub level_counted : (q : ProblemValue) (s : StateValue) (table_problem : ProblemValue) (covered : List ℕ) (room : ℕ) → Keeps q s table_problem covered room
    → (m : MachineValue) → record { problem = q; state = s } ≡ m → (p : ProblemValue) → m.problem ≡ p → m.state.label ≡ X2 → (counts : List ℕ) → length counts ≡ length p.names + 1 → length m.state.path < length counts
level_counted q s table_problem covered room k m e p same label counts levels =
    let below = level_within q s k.sound k.fit (ap (λ v. v.state.label) e ∙ label) in
    let names = ap (λ v. length v.problem.names) e ∙ ap (λ v. length v.names) same in
    let path = ap (λ v. length v.state.path) e in omega arith

-- ---- one step of a machine

module _ {old new : MachineValue} {event : Event} (g : Goes old new event) where
  pub takes_to_X2 : {o : ℕ} → old.state.label ≡ X5 → old.state.cursor ≡ At o → new.state.label ≡ X2
  takes_to_X2 {o} e k = ap (λ s. s.label) g.state ∙ X5_to_X2 old.problem old.state o e k

  pub gives_up_to_X7 : old.state.label ≡ X5 → old.state.cursor ≡ Past → new.state.label ≡ X7
  gives_up_to_X7 e k = ap (λ s. s.label) g.state ∙ X5_to_X7 old.problem old.state e k

  pub closes_to_X8 : old.state.label ≡ X7 → new.state.label ≡ X8
  closes_to_X8 e = ap (λ s. s.label) g.state ∙ X7_to_X8 old.problem old.state e

  pub plans_to_X4 : old.state.label ≡ X3 → new.state.label ≡ X4
  plans_to_X4 e = ap (λ s. s.label) g.state ∙ X3_to_X4 old.problem old.state e

  pub enters_to_X3 : old.state.label ≡ X2 → event ≡ Moved → new.state.label ≡ X3
  enters_to_X3 e m = ap (λ s. s.label) g.state ∙ X2_to_X3 old.problem old.state e (sym g.tells ∙ m)

  pub leaves_to_X6 : {o : ℕ} → old.state.label ≡ X8 → new.state.cursor ≡ At o → new.state.label ≡ X6
  leaves_to_X6 {o} e k = ap (λ s. s.label) g.state ∙ X8_to_X6 old.problem old.state o e (ap (λ s. s.cursor) (sym g.state) ∙ k)

  leaving_moves : {o : ℕ} → old.state.label ≡ X8 → new.state.cursor ≡ At o → event ≡ Moved
  leaving_moves {o} e k = g.tells ∙ X8_moves old.problem old.state o e (ap (λ s. s.cursor) (sym g.state) ∙ k)

  -- a walk goes on by this step
  module _ (p : ProblemValue) (same : old.problem ≡ p) (s : StateValue) (a b : List ℕ) (n : ℕ) where
    goes_other : IsWalk p s old.state a b n Moved → (old.state.label ≡ Done → ⊥) → is_level old.state.label ≡ false → IsWalk p s new.state a b (suc n) event
    goes_other w goes_on other =
        let t : new.state ≡ next p old.state = g.state ∙ ap (λ q. next q old.state) same in
        let v : event ≡ event_of p old.state = g.tells ∙ ap (λ q. event_of q old.state) same in
        rw (t, v) (walked_other p s old.state a b n w goes_on other)

    goes_level : IsWalk p s old.state a b n Moved → old.state.label ≡ X2 → length old.state.path < length b → IsWalk p s new.state a (slice_set b (length old.state.path) (slice_index b (length old.state.path) + 1)) (suc n) event
    goes_level w e l =
        let t : new.state ≡ next p old.state = g.state ∙ ap (λ q. next q old.state) same in
        let v : event ≡ event_of p old.state = g.tells ∙ ap (λ q. event_of q old.state) same in
        rw (t, v) (walked_level p s old.state a b n w e l)

    goes_at : (l : Label) → old.state.label ≡ l → (l ≡ Done → ⊥) → is_level l ≡ false → IsWalk p s old.state a b n Moved → IsWalk p s new.state a b (suc n) event
    goes_at l e goes_on other w = goes_other w (λ d. goes_on (sym e ∙ d)) (ap is_level e ∙ other)

    -- and so does a round of at most so many steps, where it didn't come to X5
    module _ (most : ℕ) where
      passes_on : IsRound p most s old.state a b n Moved → (old.state.label ≡ X5 → ⊥) → (i : ℕ) → 0 < i → i < suc n → (after p i s).label ≡ X5 → ⊥
      passes_on r apart i l m = step (cases_lt i n)
        where
          step : (i < n) ⊎ (n ≤ i) → (after p i s).label ≡ X5 → ⊥
          step (inl b) h = r.passes i l b h
          step (inr b) h = let e : n ≡ i = omega arith in apart (ap (λ s. s.label) (sym r.walk.reaches.ends) ∙ ap (λ i. (after p i s).label) e ∙ h)

      round_at : (l : Label) → old.state.label ≡ l → (l ≡ Done → ⊥) → (l ≡ X5 → ⊥) → is_level l ≡ false → n < most → IsRound p most s old.state a b n Moved → IsRound p most s new.state a b (suc n) event
      round_at l e goes_on apart other lt r = record { walk = goes_at l e goes_on other r.walk; some = omega arith; within = omega arith; passes = passes_on r (λ h. apart (sym e ∙ h)) }

      round_level : old.state.label ≡ X2 → length old.state.path < length b → n < most → IsRound p most s old.state a b n Moved
          → IsRound p most s new.state a (slice_set b (length old.state.path) (slice_index b (length old.state.path) + 1)) (suc n) event
      round_level e l lt r = record { walk = goes_level r.walk e l; some = omega arith; within = omega arith; passes = passes_on r (λ h. let x : X2 ≡ X5 = sym e ∙ h in absurd (cc)) }

-- ---- one step

passes_none : (p : ProblemValue) (s : StateValue) (i : ℕ) → 0 < i → i < 1 → (after p i s).label ≡ X5 → ⊥
passes_none p s i l m h = absurd (omega arith)

-- a round stays one where more steps are allowed
pub more_room : (p : ProblemValue) (few most : ℕ) (s t : StateValue) (a b : List ℕ) (n : ℕ) (event : Event) → few ≤ most → IsRound p few s t a b n event → IsRound p most s t a b n event
more_room p few most s t a b n event l r = let w = r.within in record { walk = r.walk; some = r.some; within = omega arith; passes = r.passes }

module _ {old new : MachineValue} {event : Event} (g : Goes old new event) (counts : List ℕ) where
  pub one_other : (old.state.label ≡ Done → ⊥) → is_level old.state.label ≡ false → IsRound old.problem 1 old.state new.state counts counts 1 event
  one_other goes_on other = record {
    walk = goes_other g old.problem refl old.state counts counts 0 (none_walked old.problem old.state counts) goes_on other;
    some = omega arith;
    within = omega arith;
    passes = passes_none old.problem old.state;
  }

  from_X5 : old.state.label ≡ X5 → IsRound old.problem 4 old.state new.state counts counts 1 Moved
  from_X5 e =
      let r = one_other (λ d. let x : X5 ≡ Done = sym e ∙ d in absurd (cc)) (ap is_level e) in
      more_room old.problem 1 4 old.state new.state counts counts 1 Moved (omega arith) (subst (IsRound old.problem 1 old.state new.state counts counts 1) (g.tells ∙ X5_moves old.problem old.state e) r)

-- ---- X5 at an option: it is taken

module _ {m0 m1 m2 : MachineValue} {e1 e2 : Event} (g1 : Goes m0 m1 e1) (g2 : Goes m1 m2 e2) (counts : List ℕ)
    {o : ℕ} (label : m0.state.label ≡ X5) (at_option : m0.state.cursor ≡ At o) (level : length m1.state.path < length counts) where
  abbrev counted : List ℕ
  counted = slice_set counts (length m1.state.path) (slice_index counts (length m1.state.path) + 1)

  pub two_steps : IsRound m0.problem 4 m0.state m2.state counts counted 2 e2
  two_steps = round_level g2 m0.problem g1.problem m0.state counts counts 1 4 (takes_to_X2 g1 label at_option) level (omega arith) (from_X5 g1 counts label)

  module _ {m3 m4 : MachineValue} {e3 e4 : Event} (g3 : Goes m2 m3 e3) (g4 : Goes m3 m4 e4) (moved : e2 ≡ Moved) where
    at_X3 : m2.state.label ≡ X3
    at_X3 = enters_to_X3 g2 (takes_to_X2 g1 label at_option) moved

    third : IsRound m0.problem 4 m0.state m3.state counts counted 3 e3
    third =
        round_at g3 m0.problem (g2.problem ∙ g1.problem) m0.state counts counted 2 4 X3 at_X3 (λ d. absurd (cc)) (λ d. absurd (cc)) refl (omega arith)
        (subst (IsRound m0.problem 4 m0.state m2.state counts counted 2) moved two_steps)

    pub four_steps : IsRound m0.problem 4 m0.state m4.state counts counted 4 e4
    four_steps =
        round_at g4 m0.problem (g3.problem ∙ g2.problem ∙ g1.problem) m0.state counts counted 3 4 X4 (plans_to_X4 g3 at_X3) (λ d. absurd (cc)) (λ d. absurd (cc)) refl (omega arith)
        (subst (IsRound m0.problem 4 m0.state m3.state counts counted 3) (g3.tells ∙ X3_moves m2.problem m2.state at_X3) third)

-- ---- X8: the last choice is taken back

module _ {m0 m1 : MachineValue} {e1 : Event} (g1 : Goes m0 m1 e1) (counts : List ℕ) (label : m0.state.label ≡ X8) where
  pub one_back : IsRound m0.problem 2 m0.state m1.state counts counts 1 e1
  one_back = more_room m0.problem 1 2 m0.state m1.state counts counts 1 e1 (omega arith) (one_other g1 counts (λ d. let x : X8 ≡ Done = sym label ∙ d in absurd (cc)) (ap is_level label))

  module _ {m2 : MachineValue} {e2 : Event} (g2 : Goes m1 m2 e2) {o : ℕ} (at_option : m1.state.cursor ≡ At o) where
    pub two_back : IsRound m0.problem 2 m0.state m2.state counts counts 2 e2
    two_back =
        round_at g2 m0.problem g1.problem m0.state counts counts 1 2 X6 (leaves_to_X6 g1 label at_option) (λ d. absurd (cc)) (λ d. absurd (cc)) refl (omega arith)
        (subst (IsRound m0.problem 2 m0.state m1.state counts counts 1) (leaving_moves g1 label at_option) one_back)

-- ---- X5 past the last option: the item is closed, and a round from X8 goes on

module _ {m0 m1 m2 : MachineValue} {e1 e2 : Event} (g1 : Goes m0 m1 e1) (g2 : Goes m1 m2 e2) (label : m0.state.label ≡ X5) (past : m0.state.cursor ≡ Past) where
  at_X7 : m1.state.label ≡ X7
  at_X7 = gives_up_to_X7 g1 label past

  at_X8 : m2.state.label ≡ X8
  at_X8 = closes_to_X8 g2 at_X7

  closed : (counts : List ℕ) → IsRound m0.problem 4 m0.state m2.state counts counts 2 Moved
  closed counts =
      subst (IsRound m0.problem 4 m0.state m2.state counts counts 2) (g2.tells ∙ X7_moves m1.problem m1.state at_X7)
      (round_at g2 m0.problem g1.problem m0.state counts counts 1 4 X7 at_X7 (λ d. absurd (cc)) (λ d. absurd (cc)) refl (omega arith) (from_X5 g1 counts label))

  pub closed_on : (counts : List ℕ) (t : StateValue) (k : ℕ) (event : Event) → IsRound m2.problem 2 m2.state t counts counts k event → IsRound m0.problem 4 m0.state t counts counts (2 + k) event
  closed_on counts t k event round = record {
    walk = walked_join m0.problem m0.state m2.state counts counts 2 first.walk t counts k event rest.walk;
    some = omega arith;
    within = let w = rest.within in omega arith;
    passes = λ i l m. step i l m (cases_order i 2);
  }
    where
      first : IsRound m0.problem 4 m0.state m2.state counts counts 2 Moved
      first = closed counts

      rest : IsRound m0.problem 2 m2.state t counts counts k event
      rest = subst (λ p. IsRound p 2 m2.state t counts counts k event) (g2.problem ∙ g1.problem) round

      step : (i : ℕ) → 0 < i → i < 2 + k → (i ≡ 2) ⊎ ((i < 2) ⊎ (2 < i)) → (after m0.problem i m0.state).label ≡ X5 → ⊥
      step i l m (inl e) h = let x : X8 ≡ X5 = sym at_X8 ∙ ap (λ s. s.label) (sym first.walk.reaches.ends) ∙ ap (λ i. (after m0.problem i m0.state).label) (sym e) ∙ h in absurd (cc)
      step i l m (inr (inl b)) h = first.passes i l b h
      step i l m (inr (inr b)) h =
          let d : (i - 2) + 2 ≡ i = omega arith in
          let later : after m0.problem (i - 2) m2.state ≡ after m0.problem i m0.state = ap (after m0.problem (i - 2)) (sym first.walk.reaches.ends) ∙ after_add m0.problem (i - 2) 2 m0.state ∙ ap (λ j. after m0.problem j m0.state) d in
          rest.passes (i - 2) (omega arith) (omega arith) (ap (λ u. u.label) later ∙ h)
