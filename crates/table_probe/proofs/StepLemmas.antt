-- What a probe needs to know of the machine that it takes on.
use Rattle.std.proofs.Common.{◌≡◌, ℕ, ◌<◌, ◌≤◌, List, length, get_or, ap, ap₂, ◌∙◌, subst, arith}
use Rattle.cover_problem.specs.Problem.{ProblemValue}
use Rattle.cover_problem.specs.Table.{IsCoveredList}
use Rattle.cover_problem.proofs.CoveredLemmas.{covered_item}
use Rattle.cover_problem.proofs.MemberLemmas.{has_at}
use Rattle.cover_problem.proofs.RemainingLemmas.{remaining_in}
use Rattle.x_steps.specs.declared.state.Label.TheVariants.{X5, X6}
use Rattle.x_steps.specs.declared.state.Cursor.TheVariants.{At}
use Rattle.x_steps.specs.StateValue.{StateValue}
use Rattle.x_steps.specs.Steps.{Fits, FitsAt}
use Rattle.x_steps.specs.Machine.{MachineValue}
use Rattle.x_steps.specs.Resume.{position, standing_at}
use Rattle.table_probe.specs.Words.{ServesItem}

-- the option that is left at X6 is one of the problem
pub left_option : (p : ProblemValue) (s : StateValue) (o : ℕ) → Fits p s → s.label ≡ X6 → s.cursor ≡ At o → (0 < o) × (o ≤ length p.options)
left_option p s o f l k =
    let here : FitsAt p X6 s.path (At o) = subst (λ c. FitsAt p X6 s.path c) k (subst (λ t. FitsAt p t s.path s.cursor) l f) in
    let r = remaining_in p _ _ o here.1.left in (r.1, r.2)

-- the option that is tried at X5 is one of the problem
pub tried_option : (p : ProblemValue) (s : StateValue) (o : ℕ) → Fits p s → s.label ≡ X5 → s.cursor ≡ At o → (0 < o) × (o ≤ length p.options)
tried_option p s o f l k =
    let here : FitsAt p X5 s.path (At o) = subst (λ c. FitsAt p X5 s.path c) k (subst (λ t. FitsAt p t s.path s.cursor) l f) in
    let r = remaining_in p _ _ o here.1.left in (r.1, r.2)

-- a table serves the items that are covered
pub serves : (p q : ProblemValue) (c list : List ℕ) (k d : ℕ) → q ≡ p → IsCoveredList q c → list ≡ c → k < length list → ServesItem p q (get_or list k d)
serves p q c list k d same a e l =
    let i = covered_item q c (get_or c k d) a (has_at c k d (rw e at l)) in
    let n = ap (λ (r : ProblemValue). length r.names) same in
    let within : get_or c k d ≤ length p.names = omega (arith, i.1) in
    record { same = same; some = rw e i.0; within = rw e within }

-- a machine that went back stands where it stood
pub stands_again : (old on new : MachineValue) (s : StateValue) → new ≡ standing_at on s → on.problem ≡ old.problem → s ≡ old.state → new ≡ old
stands_again old on new s e p t = e ∙ ap₂ position p t
