-- Where a runner stands is a snapshot, with breakpoints that can be met and none of which comes twice.
use Rattle.std.proofs.Common.{◌≡◌, ℕ, true, Option, List, refl, sym, ap, ap₂, ◌∙◌, subst}
use Rattle.cover_problem.specs.Problem.{ProblemValue}
use Rattle.x_steps.specs.StateValue.{StateValue}
use Rattle.x_steps.proofs.StretchLemmas.{reached_fits}
use Rattle.x_branches.specs.declared.branch.Branch.{Branch}
use Rattle.x_branches.specs.Runner.{RunnerValue, IsRunner, IsBranch, IsWithin, IsOf}
use Rattle.x_branches.specs.Cut.{CutPath}
use Rattle.x_texts.specs.declared.breakpoint.Break.{Break}
use Rattle.x_snapshot.specs.declared.fault.SnapshotFault.{SnapshotFault}
use Rattle.x_snapshot.specs.declared.fault.SnapshotFault.TheVariants.{NotOnRun, OutsideBranch, BadBreak, OutOfMemory}
use Rattle.x_texts.specs.Breaks.{are_breaks}
use Rattle.x_snapshot.specs.Snapshot.{snapshot_with, branch_between, IsCutIfAny, IsOnRun, IsOnBranch}
use Rattle.x_snapshot.specs.Refusals.{IsRefused}
use Rattle.lab_book.specs.Book.{cut_path}
use Rattle.lab_world.proofs.OwnLemmas.{cut_back}

module _ (r : RunnerValue) (k : IsRunner r) (lo hi : Option (List ℕ)) (low : lo ≡ cut_path r.branch.lo) (high : hi ≡ cut_path r.branch.hi) where
  branch_is : branch_between r.problem lo hi ≡ r.branch
  branch_is =
      ap₂ (branch_between r.problem) low high
      ∙ ap₂ (λ (a b : Option CutPath). record { lo = a; hi = b }) (cut_back r.problem r.branch.lo k.branch.low) (cut_back r.problem r.branch.hi k.branch.high)

  inside : IsOnBranch r.problem lo hi r.position
  inside = record {
    branch = subst (IsBranch r.problem) (sym branch_is) k.branch;
    within = subst (λ (b : Branch). IsWithin r.problem b r.position) (sym branch_is) k.position_in;
  }

  module _ (low_cut : (p : ProblemValue) → IsOf p r.branch.lo → IsCutIfAny p lo) (high_cut : (p : ProblemValue) → IsOf p r.branch.hi → IsCutIfAny p hi) where
    on_run : IsOnRun r.problem lo hi r.position
    on_run = record {
      low = low_cut r.problem k.branch.low;
      high = high_cut r.problem k.branch.high;
      fits = reached_fits r.problem r.mark r.position _ k.stretch.fits k.stretch.reaches;
    }

    -- nothing stands against it
    pub not_refused : (breaks : List Break) → are_breaks r.problem breaks ≡ true → (f : SnapshotFault) → IsRefused (snapshot_with r.problem lo hi r.position breaks) f → (f ≡ OutOfMemory → ⊥) → ⊥
    not_refused breaks b NotOnRun h m = h.1 on_run
    not_refused breaks b OutsideBranch h m = h.1.1 inside
    not_refused breaks b BadBreak h m = cc
    not_refused breaks b OutOfMemory h m = m refl
    not_refused breaks b _ h m = h

-- the same, of parts that are equal to a runner's
pub is_snapshot : (r q : RunnerValue) (b : Branch) (p : ProblemValue) (lo hi : Option (List ℕ)) (s : StateValue) (breaks : List Break) (f : SnapshotFault) → IsRunner q → q ≡ r → b ≡ q.branch → p ≡ r.problem → s ≡ q.position
    → lo ≡ cut_path b.lo → hi ≡ cut_path b.hi → ((o : ProblemValue) → IsOf o b.lo → IsCutIfAny o lo) → ((o : ProblemValue) → IsOf o b.hi → IsCutIfAny o hi) → are_breaks r.problem breaks ≡ true
    → IsRefused (snapshot_with p lo hi s breaks) f → (f ≡ OutOfMemory → ⊥) → ⊥
is_snapshot r q b p lo hi s breaks f k e d g h low high low_cut high_cut a refused m =
    let g2 : p ≡ q.problem = g ∙ ap (λ (x : RunnerValue). x.problem) (sym e) in
    not_refused q k lo hi (low ∙ ap (λ (x : Branch). cut_path x.lo) d) (high ∙ ap (λ (x : Branch). cut_path x.hi) d)
    (subst (λ (x : Branch). (o : ProblemValue) → IsOf o x.lo → IsCutIfAny o lo) d low_cut) (subst (λ (x : Branch). (o : ProblemValue) → IsOf o x.hi → IsCutIfAny o hi) d high_cut)
    breaks (subst (λ (x : RunnerValue). are_breaks x.problem breaks ≡ true) (sym e) a) f (subst (λ (x : StateValue). IsRefused (snapshot_with q.problem lo hi x breaks) f) h (subst (λ (x : ProblemValue). IsRefused (snapshot_with x lo hi s breaks) f) g2 refused)) m
