use denote.RattleType.{RattleType}
use denote.Param.Send.{IsSend, Frees}
use Rattle.core.specs.declared.alloc.Allocator.{Ghosts}
use Rattle.cover_links.proofs.SendParts.{allocation_send}
use Rattle.cover_links.specs.contracts.raw.Allocation.{the_row}

pub send : (A : RattleType) (g : Ghosts A.Denot) → IsSend A → Frees g g.dealloc_token → IsSend (the_row A g)
send A g s = allocation_send A g
