use denote.Param.Send.{IsSync}
use Rattle.cover_links.proofs.SendParts.{slots_sync}
use Rattle.cover_links.specs.contracts.raw.Slots.{the_row}

pub sync : IsSync the_row
sync = slots_sync
