use Rattle.std.proofs.Common.{◌≡◌, take}
use Rattle.x_debug.proofs.session.snapshot.set_of.Given as goal

abbrev pub invariant-loop-breakpoint : goal.invariant-loop-breakpoint
invariant-loop-breakpoint l = record { keys : l.set.keys ≡ take l.breakpoint-index l.draft.breaks }
