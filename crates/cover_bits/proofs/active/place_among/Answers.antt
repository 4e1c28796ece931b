use Rattle.std.proofs.Common.{refl}
use Rattle.cover_bits.proofs.TableLemmas.{time_past}
use Rattle.cover_bits.proofs.active.place_among.Goals as goal

pub returns-then-is_active : goal.returns-then-is_active
returns-then-is_active c =
    let t = c.if-is_active.ensures.0 refl in
    time_past c.args.covered.now c.args.item (c.requires.uncovered t.0 t.1)
