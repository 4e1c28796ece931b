use Rattle.std.proofs.Common.{vec_items}
use Rattle.poly_place.proofs.OptionLemmas.{chosen_at, one_option}
use Rattle.poly_place.proofs.WalkLemmas.{mapped_push}
use Rattle.poly_place.proofs.compiled.all_options.Goals as goal

pub option_of-requires-clause-member : goal.option_of-requires-clause-member
option_of-requires-clause-member c =
    (chosen_at c.args.numbers.now c.requires.puzzle c.args.list.now c.loop-choice.choice-index c.choice-item.result c.requires.list c.loop-choice-test.true c.choice-item.is).1

pub loop-choice-preserved : goal.loop-choice-preserved
loop-choice-preserved c =
    one_option c.args.numbers.now c.args.list.now c.loop-choice.choice-index c.choice-item.result _ _ c.loop-choice-test.true c.choice-item.is
    (mapped_push vec_items _ _ _ _ c.in_ok-push.ensures.items c.in_ok-option_of.ensures)
    c.loop-choice.invariant
