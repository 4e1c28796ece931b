use Rattle.std.proofs.Common.{arith}
use Rattle.x_steps.proofs.MachineLemmas.{takes, some_chosen, option_in, has_item, can_cover, room_left, cursor_in, goes, kept_at}
use Rattle.x_steps.proofs.machine.Machine.take.Goals as goal

pub last_covered-item-requires : goal.last_covered-item-requires
last_covered-item-requires g c = some_chosen _ _ _ _ _ _ (kept_at c.self.view_is c.requires.label c.self.invariant)

pub option-requires : goal.option-requires
option-requires g c = let w = option_in _ _ _ _ _ _ _ (cursor_in c.self.view_is c.requires.cursor) (kept_at c.self.view_is c.requires.label c.self.invariant) in record { some = w.0; within = w.1 }

pub cover_others-requires : goal.cover_others-requires
cover_others-requires g c = record {
  member = rw c.option.ensures (has_item _ _ _ _ _ _ _ (cursor_in c.self.view_is c.requires.cursor) _ c.last_covered-item.ensures (kept_at c.self.view_is c.requires.label c.self.invariant));
  can = rw c.option.ensures (can_cover _ _ _ _ _ _ _ (cursor_in c.self.view_is c.requires.cursor) _ c.last_covered-item.ensures (kept_at c.self.view_is c.requires.label c.self.invariant));
}

pub push_within-requires : goal.push_within-requires
push_within-requires g c = let room = room_left _ _ _ _ _ _ _ (cursor_in c.self.view_is c.requires.cursor) (kept_at c.self.view_is c.requires.label c.self.invariant) in omega (arith, room, c.self.inside.state.path.ok.0)

pub invariant_of-self : goal.invariant_of-self
invariant_of-self g c = rw (c.go.ensures, c.push_within.ensures.items) (takes _ _ _ _ _ _ _ (cursor_in c.self.view_is c.requires.cursor) _ _ _ _ c.last_covered-item.ensures c.cover_others.ensures.same_problem (rw c.option.ensures at c.cover_others.ensures.covered) c.push_within.ensures.room (kept_at c.self.view_is c.requires.label c.self.invariant)).keeps

pub returns : goal.returns
returns g c = rw (c.go.ensures, c.push_within.ensures.items) (goes c.self.view_is c.requires.label (takes _ _ _ _ _ _ _ (cursor_in c.self.view_is c.requires.cursor) _ _ _ _ c.last_covered-item.ensures c.cover_others.ensures.same_problem (rw c.option.ensures at c.cover_others.ensures.covered) c.push_within.ensures.room (kept_at c.self.view_is c.requires.label c.self.invariant)))
