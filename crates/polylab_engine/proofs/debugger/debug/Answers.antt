use denote.Param.Send.{sendable}
use Rattle.std.proofs.Crossing.{crosses}
use Rattle.cover_links.proofs.SendParts.{slots_send, slots_sync, allocation_send, allocation_sync}
use Rattle.polylab_engine.proofs.debugger.debug.Goals as goal

pub replies-requires-send-T : goal.replies-requires-send-T
replies-requires-send-T g c κs = search (sendable, crosses, slots_send, allocation_send) depth 60

pub replies-requires-sync-T : goal.replies-requires-sync-T
replies-requires-sync-T g c κs = search (sendable, crosses, slots_sync, allocation_sync) depth 60
