use Rattle.std.proofs.Common.{◌≡◌, ◌≤◌, None, replicate, vec_capacity}
use Rattle.lab_world.proofs.world.without_tiles.Given as goal

abbrev pub invariant-loop-made : goal.invariant-loop-made
invariant-loop-made g l = record {
  all : l.seats.items ≡ replicate l.made None;
  room : l.workers ≤ vec_capacity l.seats;
}
