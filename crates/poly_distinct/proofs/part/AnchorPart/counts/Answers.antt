use Rattle.std.proofs.Common.{subst}
use Rattle.poly_cells.specs.Sets.{IsIn}
use Rattle.poly_place.specs.Packings.{every_choice}
use Rattle.poly_place.proofs.WalkLemmas.{item_in}
use Rattle.poly_distinct.specs.UpTo.{PartValue}
use Rattle.poly_distinct.proofs.PartLemmas.{counts_more}
use Rattle.poly_distinct.proofs.part.AnchorPart.counts.Goals as goal

pub add_count-requires : goal.add_count-requires
add_count-requires c =
    subst (λ (a : PartValue). IsIn c.choice-item.result (every_choice a.puzzle)) c.self.view_is
    (subst (IsIn c.choice-item.result) c.choices-choices.ensures.value (item_in _ _ _ c.loop-choice-test.true c.choice-item.is))

pub loop-choice-preserved : goal.loop-choice-preserved
loop-choice-preserved c =
    counts_more c.args.self.now c.choices-choices.result.now c.loop-choice.choice-index c.choice-item.result c.loop-choice.counts.items c.add_count.new.counts.items c.loop-choice-test.true c.choice-item.is
    c.loop-choice.invariant c.in_ok-add_count.ensures
