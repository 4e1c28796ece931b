use Rattle.std.proofs.Common.{◌≡◌, ◌≤◌, length, vec_len, vec_capacity}
use Rattle.lab_world.proofs.WorldLemmas.{Plays}
use Rattle.lab_world.proofs.world.World.play.Given as goal

abbrev pub invariant-playing : goal.invariant-playing
invariant-playing g l = record {
  plays : Plays l.fn.self l.events l.event-index l.self l.replies.items;
  count : vec_len l.replies ≡ l.event-index;
  room : length l.events ≤ vec_capacity l.replies;
}
