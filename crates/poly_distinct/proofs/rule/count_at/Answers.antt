use Rattle.std.proofs.Common.{◌+◌, sym, subst, refl, arith}
use Rattle.poly_cells.specs.Sets.{IsIn}
use Rattle.poly_place.proofs.WalkLemmas.{item_in}
use Rattle.poly_distinct.specs.Moves.{thing_of, kept_at}
use Rattle.poly_distinct.specs.Rule.{is_kept_at}
use Rattle.poly_distinct.proofs.StepLemmas.{as_number, count_fits, count_step}
use Rattle.poly_distinct.proofs.rule.count_at.Goals as goal

pub is_kept-requires-clause-member : goal.is_kept-requires-clause-member
is_kept-requires-clause-member c = subst (IsIn c.choice-item.result) c.requires.choices (item_in _ _ _ c.loop-choice-test.true c.choice-item.is)

pub loop-choice-preserved : goal.loop-choice-preserved
loop-choice-preserved c =
    let p = c.args.moves.now.puzzle in
    let t = thing_of c.args.anchor.now in
    count_step (is_kept_at p (kept_at p c.args.moves.now.group t) t) c.args.choices.now c.loop-choice.choice-index c.choice-item.result c.loop-choice.kept c.from-kept.result c.in_ok-one.one c.loop-choice-test.true
    c.choice-item.is (as_number _ _ _ c.from-kept.ensures refl) (sym c.in_ok-one.ensures) c.loop-choice.invariant

pub overflow_add-kept : goal.overflow_add-kept
overflow_add-kept c =
    let p = c.args.moves.now.puzzle in
    let t = thing_of c.args.anchor.now in
    let test = is_kept_at p (kept_at p c.args.moves.now.group t) t in
    let sum = count_step test c.args.choices.now c.loop-choice.choice-index c.choice-item.result c.loop-choice.kept c.from-kept.result c.in_ok-one.one c.loop-choice-test.true
    c.choice-item.is (as_number _ _ _ c.from-kept.ensures refl) (sym c.in_ok-one.ensures) c.loop-choice.invariant in
    let fits = count_fits test c.args.choices.now c.loop-choice.choice-index (c.loop-choice.kept + c.from-kept.result) c.loop-choice-test.true sum in
    omega (arith, fits)
