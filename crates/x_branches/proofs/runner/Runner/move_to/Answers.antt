use Rattle.std.proofs.Common.{◌≡◌, length, arith, ap, ◌∙◌}
use Rattle.x_steps.proofs.WalkLemmas.{lent_whole}
use Rattle.x_branches.proofs.PostingLemmas.{begun_at}
use Rattle.x_branches.proofs.runner.Runner.move_to.Goals as goal

pub invariant_of-self : goal.invariant_of-self
invariant_of-self g c =
    let given : length c.deref_mut.result.now ≡ length c.self.inside.counts.items = ap length c.deref_mut.ensures.value in
    let same : length c.forget_all.new.counts ≡ length c.self.inside.counts.items = omega arith in
    let all = lent_whole c.self.inside.counts.len c.forget_all.new.counts c.self.inside.counts.items same c.self.inside.counts.ok.0 in
    let can = rw (← c.self.view_is) at c.requires in
    let moved = rw c.state.ensures at c.move_to.ensures in
    let first = c.is_sound.ensures.first_fits _ can.branch.low in
    let end = c.is_sound.ensures.end_fits _ can.branch.high in
    begun_at _ _ _ _ c.self.invariant _ _ _ _ _ _ _ c.replace.ensures.after can first end moved c.replace-2.ensures.after c.forget_all.ensures.visits (all ∙ rw c.deref_mut.ensures.value at c.forget_all.ensures.counts)
