use Rattle.std.proofs.Common.{ℕ, ◌+◌, ◌∙◌, ap, arith, eq-eqb}
use Rattle.std.specs.Global.{Vec}
use Rattle.std.proofs.lemmas.Bool.{ne_eqb}
use Rattle.poly_place.proofs.NodeLemmas.{right_added, right_passed}
use Rattle.poly_place.proofs.nodes.push_from_right.Goals as goal
use Rattle.poly_place.proofs.nodes.push_from_right.Goals.{then-node-eq1+in_ok-push, else-node-eq1}

pub loop-level-preserved : goal.loop-level-preserved
loop-level-preserved c = record {
  rest = elim c.if-node-eq1.branch [
    | then-node-eq1+in_ok-push w ↦ right_added (λ (h : ℕ). c.args.before + h) c.args.levels c.loop-level._level c.loop-level.node _ _ _ (omega (arith, c.loop-level-test.true)) (eq-eqb _ _ w.if-node-eq1.true) (ap (λ (v : Vec ℕ). v.items) w.items-is ∙ w.in_ok-push.ensures.items) c.loop-level.invariant.rest
    | else-node-eq1 w ↦ right_passed (λ (h : ℕ). c.args.before + h) c.args.levels c.loop-level._level c.loop-level.node _ _ _ (omega (arith, c.loop-level-test.true)) (ne_eqb _ _ w.if-node-eq1.false) (ap (λ (v : Vec ℕ). v.items) w.items-is) c.loop-level.invariant.rest
  ];
  below = let b = c.loop-level.invariant.below in omega arith;
}
