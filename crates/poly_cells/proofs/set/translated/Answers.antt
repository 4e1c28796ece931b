use Rattle.std.proofs.Common.{◌≡◌, ◌∙◌, take, ap, take_all}
use Rattle.poly_cells.specs.Points.{Point}
use Rattle.poly_cells.proofs.TranslateLemmas.{one_stays, translates_more, same_translation}
use Rattle.poly_cells.specs.Images.{translates}
use Rattle.poly_cells.proofs.set.translated.Goals as goal

pub unwrap-requires : goal.unwrap-requires
unwrap-requires c =
    one_stays _ _ _ _ _ _ c.loop-cell-test.true c.cell-item.is c.translated.ensures.outside (same_translation _ _ _ c.ranges.dx c.ranges.dy c.ranges.dz) c.requires

pub loop-cell-preserved : goal.loop-cell-preserved
loop-cell-preserved c =
    let pushed = c.in_ok-push.ensures.items in
    translates_more _ _ _ _ _ _ _ _ c.loop-cell-test.true c.cell-item.is c.unwrap.ensures c.translated.ensures.inside pushed c.loop-cell.invariant

pub returns : goal.returns
returns c =
    let all : take c.loop-cell.cell-index c.args.cells.now ≡ c.args.cells.now = take_all _ _ c.loop-cell-test.false in
    let same = same_translation _ _ _ c.ranges.dx c.ranges.dy c.ranges.dz in
    c.loop-cell.invariant ∙ ap (translates _) all ∙ ap (λ (d : Point). translates d c.args.cells.now) same
