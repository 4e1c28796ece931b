use Rattle.std.proofs.Common.{◌≡◌, ap, length, arith}
use Rattle.x_steps.proofs.RoundLemmas.{level_counted, takes_to_X2, enters_to_X3, plans_to_X4, two_steps, four_steps}
use Rattle.x_steps.proofs.machine.Machine.take_and_open.Goals as goal

pub count_level-requires-clause-within : goal.count_level-requires-clause-within
count_level-requires-clause-within g c =
    let at_X2 = takes_to_X2 c.take.ensures c.requires.label c.requires.cursor in
    let below = level_counted _ _ _ _ _ c.self.invariant _ c.self.view_is _ c.take.ensures.problem at_X2 _ c.requires.levels in
    let path = ap (λ m. length m.state.path) c.self.view_is in omega (arith, c.self.inside.state.path.ok.0)

pub enter-requires : goal.enter-requires
enter-requires g c = takes_to_X2 c.take.ensures c.requires.label c.requires.cursor

pub plan-requires : goal.plan-requires
plan-requires g c = enters_to_X3 c.enter.ensures (takes_to_X2 c.take.ensures c.requires.label c.requires.cursor) c.in-Moved.is

pub returns-in_default-clause-round : goal.returns-in_default-clause-round
returns-in_default-clause-round g c =
    let at_X2 = takes_to_X2 c.take.ensures c.requires.label c.requires.cursor in
    let below = level_counted _ _ _ _ _ c.self.invariant _ c.self.view_is _ c.take.ensures.problem at_X2 _ c.requires.levels in
    let path = ap (λ m. length m.state.path) c.self.view_is in
    let len : c.len.result ≡ length c.take.new.self.state.path = omega (arith, c.self.inside.state.path.ok.0) in
    rw (c.count_level.ensures, len) (two_steps c.take.ensures c.enter.ensures _ c.requires.label c.requires.cursor below)

pub open-event-requires : goal.open-event-requires
open-event-requires g c = plans_to_X4 c.plan.ensures (enters_to_X3 c.enter.ensures (takes_to_X2 c.take.ensures c.requires.label c.requires.cursor) c.in-Moved.is)

pub returns-in-Moved-clause-round : goal.returns-in-Moved-clause-round
returns-in-Moved-clause-round g c =
    let at_X2 = takes_to_X2 c.take.ensures c.requires.label c.requires.cursor in
    let below = level_counted _ _ _ _ _ c.self.invariant _ c.self.view_is _ c.take.ensures.problem at_X2 _ c.requires.levels in
    let path = ap (λ m. length m.state.path) c.self.view_is in
    let len : c.len.result ≡ length c.take.new.self.state.path = omega (arith, c.self.inside.state.path.ok.0) in
    rw (c.count_level.ensures, len) (four_steps c.take.ensures c.enter.ensures _ c.requires.label c.requires.cursor below c.plan.ensures c.open-event.ensures c.in-Moved.is)
