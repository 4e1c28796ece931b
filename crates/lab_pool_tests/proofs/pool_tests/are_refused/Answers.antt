use denote.Param.Send.{sendable}
use Rattle.std.proofs.Crossing.{crosses}
use Rattle.cover_links.proofs.SendParts.{slots_send, slots_sync, allocation_send, allocation_sync}
use Rattle.cover_links.proofs.Crossing.{link_table_send, link_table_sync}
use Rattle.lab_pool_tests.proofs.pool_tests.are_refused.Goals as goal

pub run_pool-requires-send-T : goal.run_pool-requires-send-T
run_pool-requires-send-T g c κs = search (sendable, crosses, link_table_send, slots_send, allocation_send) depth 60

pub run_pool-requires-sync-T : goal.run_pool-requires-sync-T
run_pool-requires-sync-T g c κs = search (sendable, crosses, link_table_sync, slots_sync, allocation_sync) depth 60
