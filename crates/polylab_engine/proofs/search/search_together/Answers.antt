use denote.Param.Send.{sendable}
use Rattle.std.proofs.Crossing.{crosses}
use Rattle.cover_links.proofs.SendParts.{slots_send, slots_sync, allocation_send, allocation_sync}
use Rattle.polylab_engine.proofs.search.search_together.Goals as goal

pub share_by-requires-send-T : goal.share_by-requires-send-T
share_by-requires-send-T g c κs = search (sendable, crosses, slots_send, allocation_send) depth 60

pub share_by-requires-sync-T : goal.share_by-requires-sync-T
share_by-requires-sync-T g c κs = search (sendable, crosses, slots_sync, allocation_sync) depth 60
