use Rattle.std.proofs.Common.{refl}
use Rattle.x_branches.proofs.runner.Runner.begin.Goals as goal

pub move_to-requires : goal.move_to-requires
move_to-requires g c = rw (c.in-Ok.ensures, c.state.ensures.state, ← c.self.view_is) (rw (← c.self.view_is) at (c.if-not-is_in.ensures.can.0 refl))
