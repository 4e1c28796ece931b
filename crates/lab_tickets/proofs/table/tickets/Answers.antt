use Rattle.std.proofs.Common.{rules}
use Rattle.lab_tickets.proofs.JoinLemmas.{one_joins}
use Rattle.lab_tickets.proofs.table.tickets.Goals as goal

pub loop-k-preserved : goal.loop-k-preserved
loop-k-preserved c =
    let t = one_joins c.loop-k.seats.items c.seat_among.new.seats.items c.loop-k.k c.args.n (search rules) (search rules) (search rules) c.loop-k.invariant.1 c.loop-k.invariant.2 in
    (search rules, t.0, t.1)
