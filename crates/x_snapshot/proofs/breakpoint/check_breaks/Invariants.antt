use Rattle.std.proofs.Common.{◌≡◌, true, take}
use Rattle.x_texts.specs.Breaks.{are_new}
use Rattle.x_snapshot.proofs.breakpoint.check_breaks.Given as goal

abbrev pub invariant-loop-breakpoint : goal.invariant-loop-breakpoint
invariant-loop-breakpoint l = record {
  keys : l.seen.keys ≡ take l.breakpoint-index l.breaks;
  new : are_new (take l.breakpoint-index l.breaks) ≡ true;
}
