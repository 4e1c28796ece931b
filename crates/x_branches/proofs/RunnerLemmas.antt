-- What a runner keeps of the part from its mark to its position, from step to step.
use Rattle.std.proofs.Common.{◌≡◌, ℕ, zero, suc, ◌+◌, ◌-◌, ◌<◌, ◌≤◌, ◌⊎◌, ◌==◌, Bool, true, false, ◌&&◌, cond, Some, List, [], ◌∷◌, ◌++◌, length, get_or, refl, sym, ap, ◌∙◌, inl, inr, arith, length-append}
use Rattle.std.proofs.Math.ListN.{set}
use Rattle.std.specs.Prelude.{slice_index}
use Rattle.std.proofs.lemmas.Bool.{cases_lt}
use Rattle.std.proofs.lemmas.Bool.Decides.{eqb_tells}
use Rattle.std.proofs.lemmas.List.{ext_get_or, length-set, get_or-set_same, get_or-set_other, set-set, set-get_or}
use Rattle.std.proofs.lemmas.List.Sums.{count_by-le-length}
use Rattle.cover_problem.specs.Problem.{ProblemValue, IsProblem}
use Rattle.cover_problem.proofs.PathLemmas.{depth}
use Rattle.x_steps.specs.declared.state.Label.TheVariants.{X1, Done}
use Rattle.x_steps.specs.StateValue.{StateValue}
use Rattle.x_steps.specs.Steps.{Fits, IsBefore, next, is_level, is_visit}
use Rattle.x_steps.specs.Run.{level_count, steps_between, states_between, visits_between, levels, ReachesIn}
use Rattle.x_steps.specs.Rank.{rank}
use Rattle.x_steps.proofs.Neighbours.{fits_next}
use Rattle.x_steps.proofs.RankLemmas.{rank_next}
use Rattle.x_steps.proofs.MachineLemmas.{same_fronts}
use Rattle.x_steps.proofs.OrderLemmas.{fits_valid}
use Rattle.x_steps.proofs.RunLemmas.{first_is, start_first, end_is, done_last, rank_once, leads_to, rises_between}
use Rattle.x_steps.proofs.BetweenLemmas.{length-states, steps_between_self, steps_between_next, visits_between_next, length-levels, levels_at, level_count_next}
use Rattle.x_steps.proofs.StretchLemmas.{reached_fits, reached_rank, steps_between_none}
use Rattle.x_branches.specs.Cut.{CutPath, cut_state}
use Rattle.x_branches.specs.Branch.{first_of, end_of}
use Rattle.x_branches.specs.RunOrder.{ComesBefore}
use Rattle.x_branches.specs.Runner.{RunnerValue, IsRunner, KeepsRunner, visit_of, with_level, without_level}
use Rattle.x_branches.specs.Refusals.{most_steps, CanShorten}
use Rattle.x_branches.proofs.StageLemmas.{comes_rank, rank_comes}

-- ---- order by ranks

pub not_before : (p : ProblemValue) (s t : StateValue) → Fits p s → Fits p t → (ComesBefore p s t → ⊥) → rank p t ≤ rank p s
not_before p s t f g h = step (cases_lt (rank p s) (rank p t))
  where
    step : (rank p s < rank p t) ⊎ (rank p t ≤ rank p s) → rank p t ≤ rank p s
    step (inl l) = absurd (h (rank_comes p s t f g l))
    step (inr l) = l

pub before_not : (p : ProblemValue) (s t : StateValue) → Fits p s → rank p t ≤ rank p s → ComesBefore p s t → ⊥
before_not p s t f l b = let r = comes_rank p s t f b in omega arith

-- a state that isn't another and doesn't come after it comes before it
pub other_before : (p : ProblemValue) (s t : StateValue) → Fits p s → Fits p t → rank p s ≤ rank p t → (s ≡ t → ⊥) → rank p s < rank p t
other_before p s t f g l h = step (cases_lt (rank p s) (rank p t))
  where
    step : (rank p s < rank p t) ⊎ (rank p t ≤ rank p s) → rank p s < rank p t
    step (inl m) = m
    step (inr m) = absurd (h (rank_once p s t f g (omega arith)))

-- the state after one that comes before another doesn't come after that
pub next_before : (p : ProblemValue) (s t : StateValue) → Fits p s → Fits p t → rank p s < rank p t → rank p (next p s) ≤ rank p t
next_before p s t f g l = step (steps_between p s t) (leads_to p s t f g (omega arith))
  where
    step : (n : ℕ) → ReachesIn p s t n → rank p (next p s) ≤ rank p t
    step zero r = let e = ap (rank p) r.ends in absurd (omega arith)
    step (suc zero) r = let e = ap (rank p) r.ends in omega arith
    step (suc (suc n)) r =
        let e = ap (rank p) r.ends in
        let m = rises_between p (suc (suc n)) s f r.goes_on 1 (suc (suc n)) (omega arith) (omega arith) in omega arith

-- before another state a run isn't over
pub before_goes_on : (p : ProblemValue) (s t : StateValue) → Fits p s → Fits p t → rank p s < rank p t → s.label ≡ Done → ⊥
before_goes_on p s t f g l e = let h = ap (rank p) (end_is p s f e) in let m = done_last p t g in omega arith

-- ---- counts for each level

pub level_within : (p : ProblemValue) (s : StateValue) → IsProblem p → Fits p s → length s.path ≤ length p.names
level_within p s i f = let d = depth p s.path (fits_valid p s.label s.path s.cursor f) in omega (arith, i.within)

pub count_within : (p : ProblemValue) (m s : StateValue) (level : ℕ) → level_count (states_between p m s) level ≤ steps_between p m s
count_within p m s level =
    let a = count_by-le-length (λ (u : StateValue). is_level u.label && (length u.path == level)) (states_between p m s) in
    let b = length-states p (steps_between p m s) m in omega arith

-- the counts go up by one at the level of a state of X2
pub levels_next : (p : ProblemValue) (m s : StateValue) → Fits p m → Fits p s → length s.path ≤ length p.names → rank p m ≤ rank p s → (s.label ≡ Done → ⊥) → levels p m (next p s) ≡ with_level (levels p m s) s
levels_next p m s f g w l h = by (is_level s.label) refl
  where
    n : length (levels p m s) ≡ length p.names + 1
    n = length-levels p m s

    at_level : (i : ℕ) → i ≤ length p.names → get_or (levels p m (next p s)) i 0 ≡ get_or (levels p m s) i 0 + cond (is_level s.label && (length s.path == i)) 1 0
    at_level i k =
        let a = levels_at p m (next p s) i 0 k in
        let b = levels_at p m s i 0 k in
        let c = level_count_next p m s i f g l h in omega arith

    by : (b : Bool) → is_level s.label ≡ b → levels p m (next p s) ≡ with_level (levels p m s) s
    by false e = rw e (ext_get_or 0 _ _ (length-levels p m (next p s) ∙ sym n) (λ i k. let a = at_level i (let j = length-levels p m (next p s) in omega arith) in let b = rw e at a in omega arith))
    by true e = rw e (ext_get_or 0 _ _ (length-levels p m (next p s) ∙ sym (length-set (levels p m s) (length s.path) (get_or (levels p m s) (length s.path) 0 + 1) ∙ n)) (λ i k. each i (let j = length-levels p m (next p s) in omega arith) (eqb_tells (length s.path) i)))
      where
        each : (i : ℕ) → i ≤ length p.names → (((length s.path == i) ≡ true) × (length s.path ≡ i)) ⊎ (((length s.path == i) ≡ false) × (length s.path ≡ i → ⊥)) → get_or (levels p m (next p s)) i 0 ≡ get_or (set (levels p m s) (length s.path) (get_or (levels p m s) (length s.path) 0 + 1)) i 0
        each i k (inl t) =
            let a = rw (e, t.0) at (at_level i k) in
            let b = get_or-set_same (levels p m s) (length s.path) (get_or (levels p m s) (length s.path) 0 + 1) 0 (let j = n in omega arith) in
            a ∙ rw (← t.1) (sym b)
        each i k (inr t) =
            let a = rw (e, t.0) at (at_level i k) in
            let b = get_or-set_other (levels p m s) (length s.path) i (get_or (levels p m s) (length s.path) 0 + 1) 0 (λ j. t.1 (sym j)) in
            let c : get_or (levels p m (next p s)) i 0 ≡ get_or (levels p m s) i 0 = omega arith in
            c ∙ sym b

-- and down again
pub level_taken : (counts : List ℕ) (s : StateValue) → (is_level s.label ≡ true → length s.path < length counts) → without_level (with_level counts s) s ≡ counts
level_taken counts s w = by (is_level s.label) refl
  where
    by : (b : Bool) → is_level s.label ≡ b → without_level (with_level counts s) s ≡ counts
    by false e = rw e refl
    by true e =
        let i = length s.path in
        let a = get_or-set_same counts (length s.path) (get_or counts (length s.path) 0 + 1) 0 (w e) in
        let b : get_or (set counts (length s.path) (get_or counts (length s.path) 0 + 1)) (length s.path) 0 - 1 ≡ get_or counts (length s.path) 0 = omega arith in
        rw e (ap (set (set counts (length s.path) (get_or counts (length s.path) 0 + 1)) (length s.path)) b ∙ set-set counts (length s.path) _ _ ∙ set-get_or counts (length s.path) 0)

-- ---- a runner

-- where its branch begins doesn't come after its mark
pub start_up : (r : RunnerValue) → IsRunner r → Fits r.problem (first_of r.branch.lo) → rank r.problem (first_of r.branch.lo) ≤ rank r.problem r.mark
start_up r inside first = not_before r.problem r.mark (first_of r.branch.lo) inside.stretch.fits first inside.mark_in.begun

-- it may stand wherever its mark doesn't come later, nor its branch's end earlier
pub may_stand : (r : RunnerValue) (t : StateValue) → IsRunner r → Fits r.problem (first_of r.branch.lo) → Fits r.problem (end_of r.branch.hi) → Fits r.problem t
    → rank r.problem r.mark ≤ rank r.problem t → rank r.problem t ≤ rank r.problem (end_of r.branch.hi) → IsRunner (record r { position = t })
may_stand r t inside first last fits up down =
    let low = start_up r inside first in
    record {
      branch = inside.branch;
      stretch = record { fits = inside.stretch.fits; reaches = leads_to r.problem r.mark t inside.stretch.fits fits up };
      mark_in = inside.mark_in;
      position_in = record {
        begun = before_not r.problem t (first_of r.branch.lo) fits (omega arith);
        not_past = before_not r.problem (end_of r.branch.hi) t last down;
      };
    }

-- and its branch may end at any cut that comes later
pub may_end : (r : RunnerValue) (cut : CutPath) → IsRunner r → Fits r.problem (first_of r.branch.lo) → cut.problem ≡ r.problem → Fits r.problem (cut_state cut.path)
    → rank r.problem r.position < rank r.problem (cut_state cut.path) → IsRunner (record r { branch = record { lo = r.branch.lo; hi = Some cut } })
may_end r cut inside first same fits later =
    let low = start_up r inside first in
    let up = reached_rank r.problem r.mark r.position _ inside.stretch.fits inside.stretch.reaches in
    record {
      branch = record {
        low = inside.branch.low;
        high = same;
        order = rank_comes r.problem (first_of r.branch.lo) (cut_state cut.path) first fits (omega arith);
      };
      stretch = inside.stretch;
      mark_in = record { begun = inside.mark_in.begun; not_past = before_not r.problem (cut_state cut.path) r.mark fits (omega arith) };
      position_in = record { begun = inside.position_in.begun; not_past = before_not r.problem (cut_state cut.path) r.position fits (omega arith) };
    }

module _ (r : RunnerValue) (steps : ℕ) (visits : List (List ℕ)) (counts : List ℕ) (k : KeepsRunner r steps visits counts) where
  pub position_fits : Fits r.problem r.position
  position_fits = reached_fits r.problem r.mark r.position _ k.inside.stretch.fits k.inside.stretch.reaches

  pub mark_up : rank r.problem r.mark ≤ rank r.problem r.position
  mark_up = reached_rank r.problem r.mark r.position _ k.inside.stretch.fits k.inside.stretch.reaches

  pub end_up : rank r.problem r.position ≤ rank r.problem (end_of r.branch.hi)
  end_up = not_before r.problem (end_of r.branch.hi) r.position k.end_fits position_fits k.inside.position_in.not_past

  pub level_in : (row : List ℕ) → row ≡ counts → is_level r.position.label ≡ true → length r.position.path < length row
  level_in row e h =
      let a = level_within r.problem r.position k.sound position_fits in
      let b = length-levels r.problem r.mark r.position in
      let c = ap (length {A = ℕ}) (e ∙ k.counts_are) in omega arith

  pub count_small : (row : List ℕ) → row ≡ counts → (steps ≡ most_steps → ⊥) → steps ≤ most_steps → slice_index row (length r.position.path) < most_steps
  count_small row e h l =
      let a = level_within r.problem r.position k.sound position_fits in
      let b = levels_at r.problem r.mark r.position (length r.position.path) 0 a in
      let c = count_within r.problem r.mark r.position (length r.position.path) in
      let d = ap (λ xs. get_or xs (length r.position.path) 0) (e ∙ k.counts_are) in
      let s = k.steps_are in
      let x = other in omega arith
    where
      other : steps < most_steps
      other = elim (cases_lt steps most_steps) [ inl m ↦ m | inr m ↦ absurd (h (omega arith)) ]

  module _ (not_end : r.position ≡ end_of r.branch.hi → ⊥) where
    up : rank r.problem r.position < rank r.problem (end_of r.branch.hi)
    up = other_before r.problem r.position (end_of r.branch.hi) position_fits k.end_fits end_up not_end

    pub goes_on : r.position.label ≡ Done → ⊥
    goes_on = before_goes_on r.problem r.position (end_of r.branch.hi) position_fits k.end_fits up

    keeps_next : KeepsRunner (record r { position = next r.problem r.position }) (steps + 1) (visits ++ visit_of r.problem r.position) (with_level counts r.position)
    keeps_next = record {
      sound = k.sound;
      inside = may_stand r (next r.problem r.position) k.inside k.first_fits k.end_fits (fits_next r.problem r.position position_fits)
          (let a = rank_next r.problem r.position position_fits goes_on in let b = mark_up in omega arith)
          (next_before r.problem r.position (end_of r.branch.hi) position_fits k.end_fits up);
      first_fits = k.first_fits;
      end_fits = k.end_fits;
      steps_are = let d = steps_between_next r.problem r.mark r.position k.inside.stretch.fits position_fits mark_up goes_on in let e = k.steps_are in omega arith;
      visits_are = ap (λ vs. vs ++ visit_of r.problem r.position) k.visits_are ∙ sym (visits_between_next r.problem r.mark r.position k.inside.stretch.fits position_fits mark_up goes_on);
      counts_are = ap (λ cs. with_level cs r.position) k.counts_are ∙ sym (levels_next r.problem r.mark r.position k.inside.stretch.fits position_fits (level_within r.problem r.position k.sound position_fits) mark_up goes_on);
    }

    pub advanced : (q : ProblemValue) (t : StateValue) (n : ℕ) (vs : List (List ℕ)) (cs : List ℕ) → q ≡ r.problem → t ≡ next r.problem r.position → n ≡ steps + 1 → vs ≡ visits ++ visit_of r.problem r.position → cs ≡ with_level counts r.position → KeepsRunner (record { problem = q; branch = r.branch; mark = r.mark; position = t }) n vs cs
    advanced q t n vs cs a b c d e = rw (a, b, c, d, e) keeps_next

  -- the first state of the run has no steps before it
  pub first_moved : (steps ≡ 0 → ⊥) → r.position.label ≡ X1 → ⊥
  first_moved moved h =
      let e = first_is r.problem r.position position_fits h in
      let a = start_first r.problem r.mark k.inside.stretch.fits in
      let b = ap (rank r.problem) e in
      moved (k.steps_are ∙ steps_between_none r.problem r.mark r.position (omega arith))

  -- a step back from a position past the mark
  module _ (t : StateValue) (before : IsBefore r.problem t r.position) (moved : steps ≡ 0 → ⊥) where
    below_position : rank r.problem t < rank r.problem r.position
    below_position = let a = rank_next r.problem t before.fit before.goes_on in let b = ap (rank r.problem) before.steps in omega arith

    above_mark : rank r.problem r.mark ≤ rank r.problem t
    above_mark = step (cases_lt (rank r.problem t) (rank r.problem r.mark))
      where
        step : (rank r.problem t < rank r.problem r.mark) ⊎ (rank r.problem r.mark ≤ rank r.problem t) → rank r.problem r.mark ≤ rank r.problem t
        step (inl l) =
            let a = next_before r.problem t r.mark before.fit k.inside.stretch.fits l in
            let b = ap (rank r.problem) before.steps in
            let c = steps_between_none r.problem r.mark r.position (omega arith) in
            absurd (moved (k.steps_are ∙ c))
        step (inr l) = l

    steps_before : steps_between r.problem r.mark r.position ≡ suc (steps_between r.problem r.mark t)
    steps_before = ap (steps_between r.problem r.mark) (sym before.steps) ∙ steps_between_next r.problem r.mark t k.inside.stretch.fits before.fit above_mark before.goes_on

    visits_before : visits ≡ visits_between r.problem r.mark t ++ visit_of r.problem t
    visits_before = k.visits_are ∙ ap (visits_between r.problem r.mark) (sym before.steps) ∙ visits_between_next r.problem r.mark t k.inside.stretch.fits before.fit above_mark before.goes_on

    counts_before : counts ≡ with_level (levels r.problem r.mark t) t
    counts_before = k.counts_are ∙ ap (levels r.problem r.mark) (sym before.steps) ∙ levels_next r.problem r.mark t k.inside.stretch.fits before.fit (level_within r.problem t k.sound before.fit) above_mark before.goes_on

    pub visit_there : is_visit r.problem t ≡ true → 0 < length visits
    visit_there h =
        let e : visit_of r.problem t ≡ t.path ∷ [] = rw h refl in
        let n = ap (length {A = List ℕ}) (visits_before ∙ ap (λ vs. visits_between r.problem r.mark t ++ vs) e) in
        let m = length-append (visits_between r.problem r.mark t) (t.path ∷ []) in omega arith

    length_before : length counts ≡ length r.problem.names + 1
    length_before = ap (length {A = ℕ}) k.counts_are ∙ length-levels r.problem r.mark r.position

    pub level_there : (row : List ℕ) → row ≡ counts → is_level t.label ≡ true → length t.path < length row
    level_there row e h =
        let a = level_within r.problem t k.sound before.fit in
        let b = length_before in
        let c = ap (length {A = ℕ}) e in omega arith

    pub count_there : (row : List ℕ) → row ≡ counts → is_level t.label ≡ true → 0 < slice_index row (length t.path)
    count_there row e h =
        let a = level_within r.problem t k.sound before.fit in
        let b = length-levels r.problem r.mark t in
        let w : with_level (levels r.problem r.mark t) t ≡ set (levels r.problem r.mark t) (length t.path) (get_or (levels r.problem r.mark t) (length t.path) 0 + 1) = rw h refl in
        let c = get_or-set_same (levels r.problem r.mark t) (length t.path) (get_or (levels r.problem r.mark t) (length t.path) 0 + 1) 0 (omega arith) in
        let d = ap (λ xs. get_or xs (length t.path) 0) (e ∙ counts_before ∙ w) in omega arith

    keeps_before : KeepsRunner (record r { position = t }) (steps - 1) (visits_between r.problem r.mark t) (without_level counts t)
    keeps_before = record {
      sound = k.sound;
      inside = may_stand r t k.inside k.first_fits k.end_fits before.fit above_mark (let a = below_position in let b = end_up in omega arith);
      first_fits = k.first_fits;
      end_fits = k.end_fits;
      steps_are = let a = steps_before in let b = k.steps_are in omega arith;
      visits_are = refl;
      counts_are = ap (λ cs. without_level cs t) counts_before ∙ level_taken (levels r.problem r.mark t) t (λ _. let a = level_within r.problem t k.sound before.fit in let b = length-levels r.problem r.mark t in omega arith);
    }

    pub retreated : (q : ProblemValue) (n : ℕ) (vs last : List (List ℕ)) (cs : List ℕ) → q ≡ r.problem → n ≡ steps - 1 → visits ≡ vs ++ last → length last ≡ length (visit_of r.problem t) → cs ≡ without_level counts t → KeepsRunner (record { problem = q; branch = r.branch; mark = r.mark; position = t }) n vs cs
    retreated q n vs last cs a b c d e =
        let same = same_fronts vs (visits_between r.problem r.mark t) last (visit_of r.problem t) (sym c ∙ visits_before) d in
        rw (a, b, same, e) keeps_before

    pub past_mark : r.position ≡ r.mark → ⊥
    past_mark e = let a = steps_between_self r.problem r.mark k.inside.stretch.fits in moved (k.steps_are ∙ ap (steps_between r.problem r.mark) e ∙ a)

  -- the branch is ended at a cut
  pub shortened : (cut : CutPath) → CanShorten r cut → KeepsRunner (record { problem = r.problem; branch = record { lo = r.branch.lo; hi = Some cut }; mark = r.mark; position = r.position }) steps visits counts
  shortened cut can =
      let f : Fits r.problem (cut_state cut.path) = reached_fits r.problem r.position (cut_state cut.path) can.later.0 position_fits can.later.2 in
      record {
        sound = k.sound;
        inside = may_end r cut k.inside k.first_fits can.same_problem f (comes_rank r.problem r.position (cut_state cut.path) position_fits can.later);
        first_fits = k.first_fits;
        end_fits = f;
        steps_are = k.steps_are;
        visits_are = k.visits_are;
        counts_are = k.counts_are;
      }
