use Rattle.std.proofs.Common.{◌+◌, arith}
use Rattle.poly_place.proofs.LeftLemmas.{entries_next, entries_upto}
use Rattle.poly_place.proofs.room.entries_beside.Goals as goal

pub returns-then-size-entries-clause-past : goal.returns-then-size-entries-clause-past
returns-then-size-entries-clause-past c fits =
    let next = entries_next c.args.lefts.now c.loop-left.left-index c.left-item.result c.loop-left-test.true c.left-item.is in
    let upto = entries_upto c.args.lefts.now (c.loop-left.left-index + 1) in
    let sum = c.loop-left.invariant.sum in
    let low = c.loop-left.invariant.low in
    let size = c.len-size.ensures in
    let past = c.if-size-entries.true in
    omega (arith, fits, next, upto, sum, low, size, past)
