use Rattle.std.proofs.Common.{sym, ap, ◌∙◌}
use Rattle.poly_place.specs.Tables.{has_bit}
use Rattle.poly_place.proofs.WalkLemmas.{one_outside, sum_cell}
use Rattle.poly_place.proofs.set.all_inside.Goals as goal

pub returns-then-not-has_bit : goal.returns-then-not-has_bit
returns-then-not-has_bit c =
    one_outside _ _ _ _ _ c.loop-cell-test.true c.cell-item.is
    (sym (ap (has_bit c.args.bits.now)
    (sum_cell c.cell-item.result c.args.by _ _ _ _ _ _ c.x.ensures.value c.y.ensures.value c.z.ensures.value c.x-in-loop-cell.ensures.value c.y-in-loop-cell.ensures.value c.z-in-loop-cell.ensures.value))
    ∙ sym c.has_bit.ensures ∙ c.if-not-has_bit.true)
