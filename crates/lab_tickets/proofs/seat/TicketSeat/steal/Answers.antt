use Rattle.std.proofs.Common.{rules}
use Rattle.lab_tickets.proofs.StealLemmas.{steals}
use Rattle.lab_tickets.proofs.seat.TicketSeat.steal.Goals as goal

pub returns : goal.returns
returns c = rw (← c.self.view_is) (steals c.self.inside.number _ _ c.self.inside.others.items c.args.from c.place_of-at.result c.index_mut-other.result.now c.steal.new.self c.steal.result c.place_of-at.ensures.place (search rules) c.index_mut-other.ensures.value c.steal.ensures.same c.steal.ensures.taken)
