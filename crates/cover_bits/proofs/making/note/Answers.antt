use Rattle.std.proofs.Common.{arith}
use Rattle.cover_bits.proofs.making.note.Goals as goal

pub overflow_add-item : goal.overflow_add-item
overflow_add-item c =
    let a = (c.requires.items c.loop-item.item-index 0 c.loop-item-test.true).1 in
    let b = c.requires.fits in
    omega arith
