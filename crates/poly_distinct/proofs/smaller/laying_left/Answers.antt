use Rattle.std.proofs.Common.{ap, subst, ◌∙◌}
use Rattle.poly_cells.specs.Sets.{IsIn}
use Rattle.poly_place.proofs.WalkLemmas.{item_in}
use Rattle.poly_distinct.specs.Distinct.{is_left_in}
use Rattle.poly_distinct.specs.Moves.{thing_of, kept_at}
use Rattle.poly_distinct.proofs.LeftInLemmas.{left_more, left_same}
use Rattle.poly_distinct.proofs.smaller.laying_left.Goals as goal
use Rattle.poly_distinct.proofs.smaller.laying_left.Goals.{then-branch+in_ok-push, else-branch}

pub is_left_in-requires-clause-member : goal.is_left_in-requires-clause-member
is_left_in-requires-clause-member c = subst (IsIn c.index-choices-k.result) c.requires.all (item_in _ _ _ c.loop-k-test.true c.index-choices-k.is)

pub loop-k-preserved : goal.loop-k-preserved
loop-k-preserved c =
    let p = c.args.moves.now.puzzle in
    let t = thing_of c.args.anchor.now in
    let test = is_left_in p t (kept_at p c.args.moves.now.group t) in
    elim c.if-branch.branch [
      | then-branch+in_ok-push w ↦
          ap (λ v. v.items) w.numbers-is
          ∙ left_more test c.args.choices.now c.loop-k.k c.loop-k.numbers.items c.loop-k.invariant c.loop-k-test.true c.index-choices-k.result c.index-choices-k.is
          c.in_ok-is_left_in.field-0 c.in_ok-is_left_in.ensures _ w.if-branch.true w.in_ok-push.ensures.items
      | else-branch w ↦
          ap (λ v. v.items) w.numbers-is
          ∙ left_same test c.args.choices.now c.loop-k.k c.loop-k.numbers.items c.loop-k.invariant c.loop-k-test.true c.index-choices-k.result c.index-choices-k.is
          c.in_ok-is_left_in.field-0 c.in_ok-is_left_in.ensures w.if-branch.false
    ]
