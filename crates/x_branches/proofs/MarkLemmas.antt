-- At its mark a runner has no steps, no visits and no counts.
use Rattle.std.proofs.Common.{◌≡◌, ◌↔◌, Bool, IsTrue, ℕ, ◌+◌, List, [], ◌∷◌, length, map, replicate, refl, sym, ap, ◌∙◌, subst}
use Rattle.shared_words.specs.Lists.{numbers}
use Rattle.cover_problem.specs.Problem.{ProblemValue, IsProblem}
use Rattle.cover_problem.proofs.NumberLemmas.{length-numbers}
use Rattle.x_steps.specs.StateValue.{StateValue}
use Rattle.x_steps.specs.Steps.{Fits}
use Rattle.x_steps.specs.Machine.{MachineValue}
use Rattle.x_steps.specs.Run.{level_count, levels, ReachesIn}
use Rattle.x_steps.proofs.RunLemmas.{leads_none}
use Rattle.x_steps.proofs.BetweenLemmas.{steps_between_self, states_between_self, visits_between_self}
use Rattle.x_branches.specs.declared.branch.Branch.{Branch}
use Rattle.x_branches.specs.Branch.{first_of, end_of}
use Rattle.x_branches.specs.Stretch.{IsStretch}
use Rattle.x_branches.specs.Runner.{IsBranch, IsWithin, KeepsRunner}
use Rattle.x_branches.specs.Refusals.{CanStart}

no_count : (ns : List ℕ) → map (level_count []) ns ≡ replicate (length ns) 0
no_count [] = refl
no_count (n ∷ ns) = ap (λ xs. 0 ∷ xs) (no_count ns)

pub levels_none : (p : ProblemValue) (s : StateValue) → Fits p s → levels p s s ≡ replicate (length p.names + 1) 0
unfolding levels
levels_none p s f =
    ap (λ ss. map (level_count ss) (numbers (length p.names + 1) 0)) (states_between_self p s f) ∙ no_count (numbers (length p.names + 1) 0)
    ∙ ap (λ n. replicate n 0) (length-numbers (length p.names + 1) 0)

pub stretch_none : (p : ProblemValue) (s : StateValue) → Fits p s → IsStretch p s s
stretch_none p s f = record { fits = f; reaches = subst (ReachesIn p s s) (sym (steps_between_self p s f)) (leads_none p s) }

module _ (p : ProblemValue) (b : Branch) (s : StateValue) (sound : IsProblem p) (fits : Fits p s) (first_fits : Fits p (first_of b.lo)) (end_fits : Fits p (end_of b.hi)) (branch : IsBranch p b) (within : IsWithin p b s) where
  here : KeepsRunner (record { problem = p; branch = b; mark = s; position = s }) 0 [] (replicate (length p.names + 1) 0)
  here = record {
    sound = sound;
    inside = record { branch = branch; stretch = stretch_none p s fits; mark_in = within; position_in = within };
    first_fits = first_fits;
    end_fits = end_fits;
    steps_are = sym (steps_between_self p s fits);
    visits_are = sym (visits_between_self p s fits);
    counts_are = sym (levels_none p s fits);
  }

  -- the same at copies of the state
  pub started : (m : MachineValue) (mark : StateValue) (n : ℕ) (visits : List (List ℕ)) (counts : List ℕ) → m ≡ record { problem = p; state = s } → mark ≡ s → n ≡ length p.names → visits ≡ [] → counts ≡ replicate (n + 1) 0 → KeepsRunner (record { problem = m.problem; branch = b; mark = mark; position = m.state }) 0 visits counts
  started m mark n visits counts a c d e f = rw (a, c, e, f, d) here

-- what is tested of a branch tells whether a runner can start in it
pub can_start : (p q : ProblemValue) (b : Branch) (s t : StateValue) (test : Bool) → q ≡ p → t ≡ s → Fits p s → (IsTrue test → IsBranch q b)
    → (IsTrue test → IsWithin q b t) → (IsBranch q b → IsWithin q b t → IsTrue test) → IsTrue test ↔ CanStart p b s
can_start p q b s t test e f fits branch within outside =
    (λ h. record { fits = fits; branch = rw e at (branch h); within = rw (e, f) at (within h) }, λ k. outside (rw e k.branch) (rw (e, f) k.within))
