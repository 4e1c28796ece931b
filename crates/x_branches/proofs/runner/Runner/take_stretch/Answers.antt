use Rattle.std.proofs.Common.{◌≡◌, length, arith, ap, ◌∙◌}
use Rattle.x_steps.proofs.WalkLemmas.{lent_whole}
use Rattle.x_branches.proofs.PostingLemmas.{taken_out, emptied_there}
use Rattle.x_branches.proofs.runner.Runner.take_stretch.Goals as goal

pub invariant_of-result : goal.invariant_of-result
invariant_of-result g c =
    taken_out _ _ _ _ c.self.invariant _ _ _ _ _ c.problem.ensures c.replace-from.ensures.value (c.in_ok-to.ensures ∙ c.state-state.ensures.state) c.in_ok-visits.ensures.visits (rw c.deref.ensures.value at c.in_ok-visits.ensures.levels)

pub invariant_of-self : goal.invariant_of-self
invariant_of-self g c =
    let given : length c.deref_mut.result.now ≡ length c.self.inside.counts.items = ap length c.deref_mut.ensures.value in
    let same : length c.forget_all.new.counts ≡ length c.self.inside.counts.items = omega arith in
    let all = lent_whole c.self.inside.counts.len c.forget_all.new.counts c.self.inside.counts.items same c.self.inside.counts.ok.0 in
    emptied_there _ _ _ _ c.self.invariant _ _ _ (c.replace-from.ensures.after ∙ c.in_ok-mark.ensures ∙ c.in_ok-to.ensures ∙ c.state-state.ensures.state) c.forget_all.ensures.visits (all ∙ rw c.deref_mut.ensures.value at c.forget_all.ensures.counts)
