use Rattle.std.proofs.Common.{◌∙◌, ◌<◌, ◌≤◌, ℕ, subst, vec_items}
use Rattle.poly_place.proofs.WalkLemmas.{mapped_push, one_turned, all_turned}
use Rattle.poly_place.proofs.placement.orientations.Goals as goal

pub loop-r-preserved : goal.loop-r-preserved
loop-r-preserved c =
    one_turned _ _ _ _ _ _ (subst (λ (n : ℕ). c.loop-r.r < n) c.turn_count-r-end.ensures c.loop-r-test.true) c.turn.ensures
    (mapped_push vec_items _ _ _ _ c.in_ok-push.ensures.items (c.in_ok-from_slice.ensures.items ∙ c.cells.ensures.value ∙ c.in_ok-turned.ensures.value))
    c.loop-r.invariant

pub returns : goal.returns
returns c = c.put_sets_in_order.ensures ∙ all_turned _ _ _ _ (subst (λ (n : ℕ). n ≤ c.loop-r.r) c.turn_count-r-end.ensures c.loop-r-test.false) c.loop-r.invariant
