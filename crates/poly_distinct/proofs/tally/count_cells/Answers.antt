use Rattle.std.proofs.Common.{length, refl, subst, arith}
use Rattle.poly_cells.specs.Sets.{IsIn}
use Rattle.poly_place.proofs.WalkLemmas.{item_in}
use Rattle.poly_distinct.specs.Counts.{first_places, places_in}
use Rattle.poly_distinct.proofs.CountsLemmas.{counts_low, counts_more}
use Rattle.poly_distinct.proofs.tally.count_cells.Goals as goal

pub count_choice-requires-clause-member : goal.count_choice-requires-clause-member
count_choice-requires-clause-member c = subst (IsIn c.choice-item.result) c.requires.choices (item_in _ _ _ c.loop-choice-test.true c.choice-item.is)

pub count_choice-requires-clause-options : goal.count_choice-requires-clause-options
count_choice-requires-clause-options c = record {
  long = c.loop-choice.invariant.0.long;
  room = λ k h. let limit = c.requires.limit in
      counts_low (length c.args.moves.now.puzzle.region) (places_in c.args.moves.now.puzzle) c.args.choices.now c.loop-choice.choice-index k c.loop-choice.options c.loop-choice-test.true (omega (arith, limit)) c.loop-choice.invariant.0 h;
}

pub count_choice-requires-clause-kept : goal.count_choice-requires-clause-kept
count_choice-requires-clause-kept c = record {
  long = c.loop-choice.invariant.1.long;
  room = λ k h. let limit = c.requires.limit in
      counts_low (length c.args.moves.now.puzzle.region) (first_places c.args.moves.now) c.args.choices.now c.loop-choice.choice-index k c.loop-choice.kept c.loop-choice-test.true (omega (arith, limit)) c.loop-choice.invariant.1 h;
}

pub loop-choice-preserved : goal.loop-choice-preserved
loop-choice-preserved c = (
  counts_more (length c.args.moves.now.puzzle.region) (places_in c.args.moves.now.puzzle) c.args.choices.now c.loop-choice.choice-index c.choice-item.result c.loop-choice.options c.count_choice.new.options
      _ c.loop-choice-test.true c.choice-item.is refl c.loop-choice.invariant.0 c.in_ok-count_choice.ensures.options,
  counts_more (length c.args.moves.now.puzzle.region) (first_places c.args.moves.now) c.args.choices.now c.loop-choice.choice-index c.choice-item.result c.loop-choice.kept c.count_choice.new.kept
      _ c.loop-choice-test.true c.choice-item.is refl c.loop-choice.invariant.1 c.in_ok-count_choice.ensures.kept,
)
