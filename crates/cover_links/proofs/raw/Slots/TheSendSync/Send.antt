use denote.Param.Send.{IsSend}
use Rattle.cover_links.proofs.SendParts.{slots_send}
use Rattle.cover_links.specs.contracts.raw.Slots.{the_row}

pub send : IsSend the_row
send = slots_send
