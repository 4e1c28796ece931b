use Rattle.std.proofs.Common.{◌≡◌, ◌⊎◌, refl, inl, inr, arith}
use Rattle.std.proofs.lemmas.Bool.{false≢true}
use Rattle.x_steps.specs.declared.event.Event.TheVariants.{Visited}
use Rattle.x_branches.proofs.AdvanceLemmas.{begins, goes_on, comes_nearer, held_up}
use Rattle.x_branches.proofs.runner.Runner.advance_by.Goals as goal
use Rattle.x_branches.proofs.runner.Runner.advance_by.Goals.{then-walking-test+else-is_visited, else-walking-test}

pub walking-init : goal.walking-init
walking-init g c =
    let w = c.in_ok-walk.ensures in
    begins c.args.most c.args.self.now c.walk.new.self c.in_ok-walk.walk w.state w.each_step w.event w.within w.some w.stops

pub walk_on-walk-requires : goal.walk_on-walk-requires
walk_on-walk-requires g c = record { goes_on = c.walking.invariant.behind (c.if-is_visited.ensures.0 refl) }

pub walking-smaller : goal.walking-smaller
walking-smaller g c =
    let w = c.walk_on-walk.ensures in
    comes_nearer _ _ c.walking.left c.walking.walk c.walk_on-walk.result (c.if-is_visited.ensures.0 refl) w.event w.within

pub walking-preserved : goal.walking-preserved
walking-preserved g c =
    let w = c.walk_on-walk.ensures in
    goes_on c.args.most c.walking.left c.args.self.now c.walking.self c.walk_on-walk.new.self c.walking.walk c.walk_on-walk.result c.walking.invariant w.state w.each_step w.event w.within w.stops

pub overflow_sub-result : goal.overflow_sub-result
overflow_sub-result g c = c.walking.invariant.within

pub returns-clause-state : goal.returns-clause-state
returns-clause-state g c = c.walking.invariant.state

pub returns-clause-each_step : goal.returns-clause-each_step
returns-clause-each_step g c = c.walking.invariant.each_step

pub returns-clause-some : goal.returns-clause-some
returns-clause-some g c = λ l. let s = c.walking.invariant.some l in omega arith

pub returns-clause-stops : goal.returns-clause-stops
returns-clause-stops g c =
    let ended : (c.walking.left ≡ 0) ⊎ (c.walking.walk.event ≡ Visited → ⊥) =
    elim c.walking-test.branch [ then-walking-test+else-is_visited w ↦ inr (λ v. false≢true (w.if-is_visited.ensures.1 v)) | else-walking-test w ↦ inl (omega arith) ] in
    held_up _ c.args.most c.walking.left c.walking.walk.event c.walking.invariant.stops ended
