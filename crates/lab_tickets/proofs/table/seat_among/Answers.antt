use Rattle.std.proofs.Common.{◌≡◌, ◌-◌, vec_len, length, arith}
use Rattle.lab_tickets.proofs.CountLemmas.{others_count}
use Rattle.lab_tickets.proofs.table.seat_among.Goals as goal

pub join-requires : goal.join-requires
join-requires c =
    let count : length c.in_ok-others.others.items ≡ vec_len c.args.seats.now - 1 = others_count c.in_ok-others.others.items (vec_len c.args.seats.now - 1) c.in_ok-others.ensures.tallies in
    (omega (arith, count, c.in_ok-others.others.ok, c.requires.number), omega (arith, count, c.in_ok-others.others.ok, c.requires.seats))
