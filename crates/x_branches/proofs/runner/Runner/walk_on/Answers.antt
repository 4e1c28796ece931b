use Rattle.std.proofs.Common.{◌≡◌, length, arith, refl, ◌∙◌, ap}
use Rattle.x_steps.proofs.WalkLemmas.{lent_whole}
use Rattle.x_branches.proofs.RunnerLemmas.{position_fits}
use Rattle.x_branches.proofs.WalkedLemmas.{walk_levels, walk_room, not_over, each_step, walked, stops_there, none_taken, room_asked}
use Rattle.x_branches.proofs.runner.Runner.walk_on.Goals as goal

pub walk_noted-walk-requires : goal.walk_noted-walk-requires
walk_noted-walk-requires g c =
    let other = rw (← c.self.view_is) at c.requires.goes_on in
    record {
      fits = position_fits _ _ _ _ c.self.invariant;
      goes_on = not_over _ _ _ _ c.self.invariant other;
      levels = walk_levels _ _ _ _ c.self.invariant _ c.deref_mut.ensures.value;
      room = walk_room _ _ _ _ c.self.invariant _ _ c.deref_mut.ensures.value (omega arith);
    }

pub invariant_of-self : goal.invariant_of-self
invariant_of-self g c =
    let same : length c.walk_noted-walk.new.counts ≡ length c.self.inside.counts.items = c.walk_noted-walk.ensures.walk.counted.levels ∙ ap length c.deref_mut.ensures.value in
    let all = lent_whole c.self.inside.counts.len c.walk_noted-walk.new.counts c.self.inside.counts.items same c.self.inside.counts.ok.0 in
    let w = c.walk_noted-walk.ensures in
    walked _ _ _ _ c.self.invariant _ _ _ _ (rw c.deref_mut.ensures.value at w.walk) (omega arith) (rw c.end_choices-end.ensures at w.before) _ _ _ _ w.problem refl w.visits all

pub returns-clause-each_step : goal.returns-clause-each_step
returns-clause-each_step g c =
    let w = c.walk_noted-walk.ensures in
    rw (← c.self.view_is) (each_step _ _ _ _ c.self.invariant _ _ _ _ (rw c.deref_mut.ensures.value at w.walk) (omega arith) (rw c.end_choices-end.ensures at w.before))

pub returns-clause-stops : goal.returns-clause-stops
returns-clause-stops g c =
    let w = c.walk_noted-walk.ensures in
    stops_there _ _ _ _ c.self.invariant _ _ _ _ (rw c.deref_mut.ensures.value at w.walk) (omega arith) (rw c.end_choices-end.ensures at w.before) c.args.most c.min-room.result _ w.problem
    (room_asked c.args.most c.self.inside.steps c.min-room.result (omega arith) c.min-room.ensures) (rw c.end_choices-end.ensures at w.stops)

pub returns-clause-none : goal.returns-clause-none
returns-clause-none g c = λ none.
    let w = c.walk_noted-walk.ensures in
    rw (← c.self.view_is) (none_taken _ _ _ _ c.self.invariant _ _ _ _ (rw c.deref_mut.ensures.value at w.walk) (omega arith) (rw c.end_choices-end.ensures at w.before) c.args.most c.min-room.result none
    (room_asked c.args.most c.self.inside.steps c.min-room.result (omega arith) c.min-room.ensures) (rw c.end_choices-end.ensures at w.stops))
