use Rattle.std.proofs.Common.{refl, ◌≡◌, take, take_all}
use Rattle.poly_cells.proofs.TranslateLemmas.{stay_all, stay_more, one_leaves, same_translation}
use Rattle.poly_cells.proofs.set.stay_inside.Goals as goal

pub loop-cell-preserved : goal.loop-cell-preserved
loop-cell-preserved c =
    stay_more _ _ _ _ _ _ c.loop-cell-test.true c.cell-item.is c.is_none.ensures c.if-is_none.false c.translated.ensures.inside c.loop-cell.invariant

pub returns-then-is_none : goal.returns-then-is_none
returns-then-is_none c = (
  (λ h. cc),
  (λ s. absurd (one_leaves _ _ _ _ _ _ _ c.loop-cell-test.true c.cell-item.is c.is_none.ensures c.if-is_none.true c.translated.ensures.outside
      (same_translation _ _ _ c.ranges.dx c.ranges.dy c.ranges.dz) s)),
)

pub returns : goal.returns
returns c =
    let all : take c.loop-cell.cell-index c.args.cells.now ≡ c.args.cells.now = take_all _ _ c.loop-cell-test.false in
    let same = same_translation _ _ _ c.ranges.dx c.ranges.dy c.ranges.dz in
    ((λ h. stay_all _ _ _ _ c.loop-cell.invariant all same), (λ s. refl))
