use denote.RattleType.{RattleType}
use denote.Param.Send.{IsSync}
use Rattle.core.specs.declared.alloc.Allocator.{Ghosts}
use Rattle.cover_links.proofs.SendParts.{allocation_sync}
use Rattle.cover_links.specs.contracts.raw.Allocation.{the_row}

pub sync : (A : RattleType) (g : Ghosts A.Denot) → IsSync (the_row A g)
sync = allocation_sync
