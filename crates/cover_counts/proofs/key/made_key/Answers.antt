use Rattle.std.proofs.Common.{[]}
use Rattle.x_steps.proofs.WalkLemmas.{lent_whole}
use Rattle.cover_counts.proofs.key.made_key.Goals as goal

pub returns : goal.returns
returns c =
    let all = lent_whole c.in_ok-row.row.len c.add_items.new.row c.in_ok-row.row.items (rw c.deref_mut.ensures.value at c.add_items.auto.row) c.in_ok-row.row.ok.0 in
    rw all (c.add_items.ensures [] (rw c.deref_mut.ensures.value (record { long = c.in_ok-row.ensures.long; bits = λ k l. c.in_ok-row.ensures.empty k })))
