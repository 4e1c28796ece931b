use Rattle.std.proofs.Common.{refl}
use Rattle.x_branches.proofs.CutLemmas.{untried_is}
use Rattle.x_branches.proofs.RunnerLemmas.{position_fits}
use Rattle.x_branches.proofs.runner.Runner.cut_at.Goals as goal

pub of_path-requires : goal.of_path-requires
of_path-requires g c =
    let here = rw (← c.self.view_is) at c.requires in
    let u = untried_is _ _ _ (position_fits _ _ _ _ c.self.invariant) c.self.invariant.end_fits _ _ here in
    rw (c.deref.ensures.value, c.in-Ok-push.ensures.items, c.in-Ok.ensures.items, c.front.ensures, c.problem.ensures, ← c.self.view_is) u.cut

pub returns-in-Ok-of_path-clause-can_end : goal.returns-in-Ok-of_path-clause-can_end
returns-in-Ok-of_path-clause-can_end g c =
    let here = rw (← c.self.view_is) at c.requires in
    let u = untried_is _ _ _ (position_fits _ _ _ _ c.self.invariant) c.self.invariant.end_fits _ _ here in
    rw (
      c.in-Ok-of_path.ensures,
      c.deref.ensures.value,
      c.in-Ok-push.ensures.items,
      c.in-Ok.ensures.items,
      c.front.ensures,
      c.problem.ensures,
      ← c.self.view_is,
    )
    (record { same_problem = refl; later = u.later; before_end = u.before_end })
