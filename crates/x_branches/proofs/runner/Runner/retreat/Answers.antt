use Rattle.std.proofs.Common.{◌≡◌, length, arith, refl, ◌∙◌}
use Rattle.std.proofs.lemmas.Bool.{false≢true}
use Rattle.x_steps.proofs.WalkLemmas.{lent_whole}
use Rattle.x_branches.proofs.RunnerLemmas.{first_moved, visit_there, level_there, count_there, retreated, past_mark}
use Rattle.x_branches.proofs.runner.Runner.retreat.Goals as goal

pub unreachable-requires : goal.unreachable-requires
unreachable-requires g c = first_moved _ _ _ _ c.self.invariant c.if-self-eq0.false (c.in_default.ensures.first.0 refl)

pub forget-requires : goal.forget-requires
forget-requires g c = record {
  visit = rw c.in-Ok.ensures.problem (visit_there _ _ _ _ c.self.invariant _ c.in-Ok.ensures.before c.if-self-eq0.false);
  within = level_there _ _ _ _ c.self.invariant _ c.in-Ok.ensures.before c.if-self-eq0.false _ c.deref_mut.ensures.value;
  some = count_there _ _ _ _ c.self.invariant _ c.in-Ok.ensures.before c.if-self-eq0.false _ c.deref_mut.ensures.value;
}

pub invariant_of-self : goal.invariant_of-self
invariant_of-self g c =
    let same : length c.forget.new.counts ≡ length c.self.inside.counts.items = omega arith in
    let all = lent_whole c.self.inside.counts.len c.forget.new.counts c.self.inside.counts.items same c.self.inside.counts.ok.0 in
    let last = c.forget.ensures.visits in
    retreated _ _ _ _ c.self.invariant _ c.in-Ok.ensures.before c.if-self-eq0.false _ _ _ last.0 _ c.in-Ok.ensures.problem refl last.1 (rw c.in-Ok.ensures.problem at last.2) (all ∙ rw c.deref_mut.ensures.value at c.forget.ensures.counts)

pub returns-clause-at_mark : goal.returns-clause-at_mark
returns-clause-at_mark g c = (λ e. absurd (false≢true e), λ e. absurd (past_mark _ _ _ _ c.self.invariant _ c.in-Ok.ensures.before c.if-self-eq0.false (rw (← c.self.view_is) at e)))
