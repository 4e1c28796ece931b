-- A table of links may go to another thread, and be seen from there, as its row and the right to free it may.
use denote.Param.Send.{IsSend, IsSync, sendable}
use Rattle.std.proofs.Crossing.{crosses, frees}
use Rattle.std_heap.specs.contracts.Global as Heap
use Rattle.std_heap.specs.contracts.GlobalAllocator.TheImpl.{ghosts}
use Rattle.cover_links.specs.contracts.block.BlockRow as row
use Rattle.cover_links.specs.contracts.block.Block as block
use Rattle.cover_links.specs.contracts.table.LinkTable as table
use Rattle.cover_links.proofs.SendParts.{slots_send, slots_sync, allocation_send, allocation_sync}

row_send : IsSend (row.the_field).row
row_send = let slots = slots_send in search sendable depth 20

row_sync : IsSync (row.the_field).row
row_sync = let slots = slots_sync in search sendable depth 20

block_send : IsSend (block.the_field Heap.the_row ghosts).row
block_send =
    let a = allocation_send Heap.the_row ghosts frees in let r = row_send in search (sendable, crosses) depth 20

block_sync : IsSync (block.the_field Heap.the_row ghosts).row
block_sync =
    let a = allocation_sync Heap.the_row ghosts in let r = row_sync in search (sendable, crosses) depth 20

pub link_table_send : IsSend (table.the_field).row
link_table_send = let b = block_send in search (sendable, crosses) depth 20

pub link_table_sync : IsSync (table.the_field).row
link_table_sync = let b = block_sync in search (sendable, crosses) depth 20
