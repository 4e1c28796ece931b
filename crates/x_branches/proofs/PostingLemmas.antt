-- Taking the unposted stretch out, and joining it again.
use Rattle.std.proofs.Common.{◌≡◌, ◌↔◌, ℕ, zero, suc, ◌+◌, ◌-◌, ◌<◌, ◌≤◌, false, IsTrue, List, [], ◌∷◌, ◌++◌, length, take, drop, get_or, replicate, refl, sym, ap, ◌∙◌, subst, arith, length-append}
use Rattle.std.proofs.Math.ListN.{set}
use Rattle.std.proofs.lemmas.Bool.{false≢true}
use Rattle.std.proofs.lemmas.List.{take_more, length-replicate, drop-replicate}
use Rattle.cover_problem.specs.Problem.{ProblemValue}
use Rattle.x_steps.specs.StateValue.{StateValue}
use Rattle.x_steps.specs.Steps.{Fits}
use Rattle.x_steps.specs.Machine.{MachineValue}
use Rattle.x_steps.specs.Run.{steps_between, levels, ReachesIn}
use Rattle.x_steps.specs.Levels.{without_last_zeros, trimmed_levels}
use Rattle.x_steps.proofs.BetweenLemmas.{steps_between_self, length-levels}
use Rattle.x_steps.proofs.StretchLemmas.{reached_rank}
use Rattle.x_steps.proofs.ZeroLemmas.{zero_goes, last_stays, zeros_cut}
use Rattle.x_branches.specs.declared.branch.Branch.{Branch}
use Rattle.x_branches.specs.Branch.{first_of, end_of}
use Rattle.x_branches.specs.Stretch.{StretchValue, KeepsStretch}
use Rattle.x_branches.specs.Runner.{RunnerValue, KeepsRunner}
use Rattle.x_branches.specs.Refusals.{CanStart, EndsHere, CanReopen}
use Rattle.x_branches.proofs.MarkLemmas.{levels_none, started}
use Rattle.x_branches.proofs.RunnerLemmas.{before_not, position_fits, end_up}

-- ---- counts up to the last above 0

-- a zero at the end of the first counts may be left out
pub zero_before : (xs : List ℕ) (n : ℕ) → n < length xs → get_or xs n 0 ≡ 0 → without_last_zeros (take n xs) ≡ without_last_zeros (take (n + 1) xs)
zero_before xs n l e = sym (ap without_last_zeros (take_more xs n 0 l ∙ ap (λ x. take n xs ++ x ∷ []) e) ∙ zero_goes (take n xs))

-- where there is none, none is cut
pub no_zero_before : (xs : List ℕ) (n : ℕ) → n ≤ length xs → ((0 < n) × (get_or xs (n - 1) 0 ≡ 0) → ⊥) → take n xs ≡ without_last_zeros (take n xs)
unfolding without_last_zeros
no_zero_before xs zero l h = refl
no_zero_before xs (suc n) l h =
    let m : suc n - 1 ≡ n = omega arith in
    let k : suc n ≡ n + 1 = omega arith in
    let e = take_more xs n 0 (omega arith) in
    rw (k, e) (sym (last_stays (take n xs) (get_or xs n 0) (λ z. h (omega arith, ap (λ i. get_or xs i 0) m ∙ z))))

-- numbers put over the first ones, one by one
pub put_more : (numbers list : List ℕ) (i : ℕ) → i < length numbers → length numbers ≤ length list → set (take i numbers ++ drop i list) i (get_or numbers i 0) ≡ take (i + 1) numbers ++ drop (i + 1) list
put_more numbers list i l m = let k : i + 1 ≡ suc i = omega arith in rw k (each numbers list i l m)
  where
    each : (numbers list : List ℕ) (i : ℕ) → i < length numbers → length numbers ≤ length list → set (take i numbers ++ drop i list) i (get_or numbers i 0) ≡ take (suc i) numbers ++ drop (suc i) list
    each [] list i l m = absurd (omega arith)
    each (x ∷ numbers) [] i l m = absurd (omega arith)
    each (x ∷ numbers) (y ∷ list) zero l m = refl
    each (x ∷ numbers) (y ∷ list) (suc i) l m = ap (λ xs. x ∷ xs) (each numbers list i (omega arith) (omega arith))

-- counts put over zeros are the counts for each level
pub counts_joined : (p : ProblemValue) (s t : StateValue) (counts : List ℕ) → counts ≡ trimmed_levels p s t → counts ++ drop (length counts) (replicate (length p.names + 1) 0) ≡ levels p s t
unfolding trimmed_levels
counts_joined p s t counts e =
    let z = zeros_cut (levels p s t) in
    let whole : levels p s t ≡ counts ++ replicate z.0 0 = z.1 ∙ ap (λ xs. xs ++ replicate z.0 0) (sym e) in
    let n = ap (length {A = ℕ}) whole ∙ length-append counts (replicate z.0 0) in
    let m = length-levels p s t in
    let r : length (replicate {A = ℕ} z.0 0) ≡ z.0 = length-replicate z.0 0 in
    let rest : (length p.names + 1) - length counts ≡ z.0 = omega arith in
    ap (λ xs. counts ++ xs) (drop-replicate (length counts) (length p.names + 1) 0 ∙ ap (λ k. replicate k 0) rest) ∙ sym whole

pub counts_fit : (p : ProblemValue) (s t : StateValue) (counts : List ℕ) → counts ≡ trimmed_levels p s t → length counts ≤ length p.names + 1
unfolding trimmed_levels
counts_fit p s t counts e =
    let z = zeros_cut (levels p s t) in
    let n = ap (length {A = ℕ}) z.1 ∙ length-append (without_last_zeros (levels p s t)) (replicate z.0 0) in
    let m = length-levels p s t in
    let k = ap (length {A = ℕ}) e in omega arith

-- ---- a runner

module _ (r : RunnerValue) (steps : ℕ) (visits : List (List ℕ)) (counts : List ℕ) (k : KeepsRunner r steps visits counts) where
  length_counts : length counts ≡ length r.problem.names + 1
  length_counts = ap (length {A = ℕ}) k.counts_are ∙ length-levels r.problem r.mark r.position

  -- what is taken out is the stretch from the mark to the position
  pub taken_out : (q : ProblemValue) (from to : StateValue) (vs : List (List ℕ)) (ls : List ℕ) → q ≡ r.problem → from ≡ r.mark → to ≡ r.position → vs ≡ visits → ls ≡ without_last_zeros counts → KeepsStretch q from to steps vs ls
  unfolding trimmed_levels
  taken_out q from to vs ls a b c d e = rw (a, b, c, d, e) here
    where
      cut : without_last_zeros counts ≡ trimmed_levels r.problem r.mark r.position
      cut = ap without_last_zeros k.counts_are

      here : KeepsStretch r.problem r.mark r.position steps visits (without_last_zeros counts)
      here = record { order = k.inside.stretch; steps_are = k.steps_are; visits_are = k.visits_are; levels_are = cut }

  -- nothing is left, and this branch begins at this state
  pub begun_at : (b new : Branch) (s : StateValue) (m : MachineValue) (mark : StateValue) (vs : List (List ℕ)) (cs : List ℕ) → new ≡ b → CanStart r.problem b s
      → Fits r.problem (first_of b.lo) → Fits r.problem (end_of b.hi) → m ≡ record { problem = r.problem; state = s } → mark ≡ s → vs ≡ [] → cs ≡ replicate (length counts) 0
      → KeepsRunner (record { problem = m.problem; branch = new; mark = mark; position = m.state }) 0 vs cs
  begun_at b new s m mark vs cs e can first end here a d c =
      rw e (started r.problem b s k.sound can.fits first end can.branch can.within m mark (length r.problem.names) vs cs here a refl d (c ∙ ap (λ n. replicate n 0) length_counts))

  -- and nothing is left
  pub emptied_there : (mark : StateValue) (vs : List (List ℕ)) (cs : List ℕ) → mark ≡ r.position → vs ≡ [] → cs ≡ replicate (length counts) 0 → KeepsRunner (record { problem = r.problem; branch = r.branch; mark = mark; position = r.position }) 0 vs cs
  emptied_there mark vs cs a b c =
      begun_at r.branch r.branch r.position (record { problem = r.problem; state = r.position }) mark vs cs refl
      (record { fits = position_fits r steps visits counts k; branch = k.inside.branch; within = k.inside.position_in }) k.first_fits k.end_fits refl a b c

  -- at the mark no steps are kept
  pub no_steps : r.position ≡ r.mark → steps ≡ 0
  no_steps e = k.steps_are ∙ ap (steps_between r.problem r.mark) e ∙ steps_between_self r.problem r.mark k.inside.stretch.fits

  pub at_mark : steps ≡ 0 → r.position ≡ r.mark
  at_mark z =
      let n : steps_between r.problem r.mark r.position ≡ 0 = sym k.steps_are ∙ z in
      sym (subst (ReachesIn r.problem r.mark r.position) n k.inside.stretch.reaches).ends

  pub not_at_mark : (s : StretchValue) → (steps ≡ 0 → ⊥) → IsTrue false ↔ EndsHere r s
  not_at_mark s h = (λ f. absurd (false≢true f), λ e. absurd (h (no_steps e.at_mark)))

  pub levels_fit : (s : StretchValue) → CanReopen r s → (n : ℕ) (vs : List (List ℕ)) (ls row : List ℕ) → KeepsStretch s.problem s.from s.to n vs ls → row ≡ counts → length ls ≤ length row
  levels_fit s can n vs ls row h e =
      let a = counts_fit s.problem s.from s.to ls h.levels_are in
      let b = ap (λ (p : ProblemValue). length p.names) can.same_problem in
      let c = ap (length {A = ℕ}) e in
      let d = length_counts in omega arith

  -- the stretch is unposted again
  pub reopened : (s : StretchValue) → CanReopen r s → (n : ℕ) (vs : List (List ℕ)) (ls cs : List ℕ) → KeepsStretch s.problem s.from s.to n vs ls → cs ≡ ls ++ drop (length ls) counts → KeepsRunner (record { problem = r.problem; branch = r.branch; mark = s.from; position = r.position }) n vs cs
  reopened s can n vs ls cs h c = rw c kept
    where
      here : KeepsStretch r.problem s.from r.position n vs ls
      here = subst (λ q. KeepsStretch q s.from r.position n vs ls) can.same_problem (subst (λ u. KeepsStretch s.problem s.from u n vs ls) can.ends.ends h)

      none : counts ≡ replicate (length r.problem.names + 1) 0
      none = k.counts_are ∙ ap (levels r.problem r.mark) can.ends.at_mark ∙ levels_none r.problem r.mark k.inside.stretch.fits

      kept : KeepsRunner (record { problem = r.problem; branch = r.branch; mark = s.from; position = r.position }) n vs (ls ++ drop (length ls) counts)
      kept = record {
        sound = k.sound;
        inside = record {
          branch = k.inside.branch;
          stretch = here.order;
          mark_in = record {
            begun = can.begun;
            not_past = before_not r.problem (end_of r.branch.hi) s.from k.end_fits (let a = reached_rank r.problem s.from r.position _ here.order.fits here.order.reaches in let b = end_up r steps visits counts k in omega arith);
          };
          position_in = k.inside.position_in;
        };
        first_fits = k.first_fits;
        end_fits = k.end_fits;
        steps_are = here.steps_are;
        visits_are = here.visits_are;
        counts_are = ap (λ xs. ls ++ drop (length ls) xs) none ∙ counts_joined r.problem s.from r.position ls here.levels_are;
      }
