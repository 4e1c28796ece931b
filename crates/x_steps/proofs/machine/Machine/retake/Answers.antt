use Rattle.std.proofs.Common.{arith}
use Rattle.x_steps.proofs.BackLemmas.{room_for, to_leave, goes_back}
use Rattle.x_steps.proofs.MachineLemmas.{cursor_in, kept_at}
use Rattle.x_steps.proofs.machine.Machine.retake.Goals as goal

pub push_within-requires : goal.push_within-requires
push_within-requires g c = let room = room_for _ _ _ _ _ _ _ (cursor_in c.self.view_is c.requires.cursor) (kept_at c.self.view_is c.requires.label c.self.invariant) in omega (arith, room, c.self.inside.state.path.ok.0)

pub invariant_of-self : goal.invariant_of-self
invariant_of-self g c = rw (c.go.ensures, c.push_within.ensures.items) (to_leave _ _ _ _ _ _ _ (cursor_in c.self.view_is c.requires.cursor) _ c.push_within.ensures.room (kept_at c.self.view_is c.requires.label c.self.invariant)).keeps

pub returns : goal.returns
returns g c = rw (c.go.ensures, c.push_within.ensures.items) (goes_back c.self.view_is c.requires.label tt (to_leave _ _ _ _ _ _ _ (cursor_in c.self.view_is c.requires.cursor) _ c.push_within.ensures.room (kept_at c.self.view_is c.requires.label c.self.invariant)))
