-- What the tests of a branch tell.
use Rattle.std.proofs.Common.{◌≡◌, ◌↔◌, Bool, true, false, not, refl, IsTrue}
use Rattle.std.proofs.lemmas.Bool.{false≢true}
use Rattle.cover_problem.specs.Problem.{ProblemValue}
use Rattle.x_steps.specs.StateValue.{StateValue}
use Rattle.x_branches.specs.declared.branch.Branch.{Branch}
use Rattle.x_branches.specs.Cut.{CutPath, cut_state}
use Rattle.x_branches.specs.Branch.{first_of, end_of}
use Rattle.x_branches.specs.RunOrder.{ComesBefore}
use Rattle.x_branches.specs.Runner.{RunnerValue, IsOf, IsBranch, IsWithin}
use Rattle.x_branches.specs.Refusals.{CanShorten}

module _ (p : ProblemValue) (b : Branch) (first end : StateValue) (at_first : first ≡ first_of b.lo) (at_end : end ≡ end_of b.hi) where
  pub branch_tested : (test : Bool) → IsOf p b.lo → IsOf p b.hi → IsTrue test ↔ ComesBefore p first end → IsTrue test ↔ IsBranch p b
  branch_tested test l h t =
      let u = rw (at_first, at_end) at t in
      (λ t. record { low = l; high = h; order = u.0 t }, λ i. u.1 i.order)

  pub within_from : (s position : StateValue) (test : Bool) → position ≡ s → IsTrue false ↔ ComesBefore p position first → IsTrue test ↔ ComesBefore p end position → IsTrue (not test) → IsWithin p b s
  within_from s position true e t u h = absurd (false≢true h)
  within_from s position false e t u h =
      let v = rw (e, at_first) at t in
      let w = rw (e, at_end) at u in
      record { begun = λ c. false≢true (v.1 c); not_past = λ c. false≢true (w.1 c) }

  pub within_passes : (s position : StateValue) (test : Bool) → position ≡ s → IsTrue test ↔ ComesBefore p end position → IsWithin p b s → IsTrue (not test)
  within_passes s position true e u w = let v = rw (e, at_end) at u in absurd (w.not_past (v.0 refl))
  within_passes s position false e u w = refl

  pub not_begun : (s position : StateValue) → position ≡ s → IsTrue true ↔ ComesBefore p position first → IsWithin p b s → IsTrue false
  not_begun s position e t w = let v = rw (e, at_first) at t in absurd (w.begun (v.0 refl))

pub shorten_tested : (r : RunnerValue) (cut : CutPath) (test : Bool) → cut.problem ≡ r.problem → ComesBefore r.problem r.position (cut_state cut.path) → IsTrue test ↔ ComesBefore r.problem (cut_state cut.path) (end_of r.branch.hi) → IsTrue test ↔ CanShorten r cut
shorten_tested r cut test e l t = (λ h. record { same_problem = e; later = l; before_end = t.0 h }, λ c. t.1 c.before_end)
