use Rattle.x_steps.proofs.WalkLemmas.{lent_whole}
use Rattle.cover_counts.proofs.key.longer_key.Goals as goal

pub returns : goal.returns
returns c = λ d key.
    let new = c.extend_from_slice.new.self in
    let all = lent_whole new.len c.add_items.new.row new.items (rw c.deref_mut.ensures.value at c.add_items.auto.row) new.ok.0 in
    rw all (c.add_items.ensures d (rw (c.deref_mut.ensures.value, c.in_ok-extend_from_slice.ensures.items, c.in_ok-row.ensures.items) key))
