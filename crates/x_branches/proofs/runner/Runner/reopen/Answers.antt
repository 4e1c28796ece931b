use Rattle.std.proofs.Common.{◌≡◌, length, refl, ap, ◌∙◌, arith}
use Rattle.x_steps.proofs.WalkLemmas.{lent_whole}
use Rattle.x_branches.proofs.PostingLemmas.{levels_fit, reopened}
use Rattle.x_branches.proofs.runner.Runner.reopen.Goals as goal

pub put-requires : goal.put-requires
put-requires g c =
    let can = rw (← c.self.view_is, ← c.stretch.view_is) at (c.if-not-has_begin_of.ensures.0 refl) in
    rw c.deref.ensures.value (levels_fit _ _ _ _ c.self.invariant _ can _ _ _ _ c.stretch.invariant c.deref_mut.ensures.value)

pub invariant_of-self : goal.invariant_of-self
invariant_of-self g c =
    let can = rw (← c.self.view_is, ← c.stretch.view_is) at (c.if-not-has_begin_of.ensures.0 refl) in
    let given : length c.deref_mut.result.now ≡ length c.self.inside.counts.items = ap length c.deref_mut.ensures.value in
    let same : length c.put.new.counts ≡ length c.self.inside.counts.items = omega arith in
    let all = lent_whole c.self.inside.counts.len c.put.new.counts c.self.inside.counts.items same c.self.inside.counts.ok.0 in
    reopened _ _ _ _ c.self.invariant _ can _ _ _ _ c.stretch.invariant (all ∙ rw (c.deref.ensures.value, c.deref_mut.ensures.value) at c.put.ensures)
