use denote.Param.Send.{sendable}
use Rattle.std.proofs.Crossing.{crosses}
use Rattle.cover_links.proofs.SendParts.{slots_send, slots_sync, allocation_send, allocation_sync}
use Rattle.lab_pool_tests.proofs.pool_tests.find_the_cover.Goals as goal

pub finished_under-requires-send-T : goal.finished_under-requires-send-T
finished_under-requires-send-T g c κs = search (sendable, crosses, slots_send, allocation_send) depth 60

pub finished_under-requires-sync-T : goal.finished_under-requires-sync-T
finished_under-requires-sync-T g c κs = search (sendable, crosses, slots_sync, allocation_sync) depth 60
