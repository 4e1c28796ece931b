use Rattle.std.proofs.Common.{◌≡◌, ◌∙◌, ◌^◌, ℕ, ap, sym, refl, arith}
use Rattle.poly_place.proofs.NodeLemmas.{level_first, level_found, level_passed, level_last, leaves_double}
use Rattle.poly_place.proofs.nodes.tree_for.Goals as goal

pub loop-level-init : goal.loop-level-init
loop-level-init c = record { doubled = refl; first = level_first c.args.cells; within = omega arith }

pub loop-level-preserved : goal.loop-level-preserved
loop-level-preserved c =
    let at = c.loop-level.invariant in
    record {
      doubled = leaves_double c.loop-level.level c.loop-level.leaves at.doubled;
      first = level_passed c.args.cells c.loop-level.level c.loop-level.leaves c.loop-level-test.true at.doubled c.if-cells-leaves.false ∙ at.first;
      within = omega arith;
    }

pub returns-then-cells-leaves-clause-levels : goal.returns-then-cells-leaves-clause-levels
returns-then-cells-leaves-clause-levels c =
    let at = c.loop-level.invariant in
    sym (level_found c.args.cells c.loop-level.level c.loop-level.leaves c.loop-level-test.true at.doubled c.if-cells-leaves.true) ∙ at.first

pub returns-then-cells-leaves-clause-leaves : goal.returns-then-cells-leaves-clause-leaves
returns-then-cells-leaves-clause-leaves c =
    let at = c.loop-level.invariant in
    at.doubled ∙ ap (λ (k : ℕ). 2 ^ k) (sym (level_found c.args.cells c.loop-level.level c.loop-level.leaves c.loop-level-test.true at.doubled c.if-cells-leaves.true) ∙ at.first)

pub returns-clause-levels : goal.returns-clause-levels
returns-clause-levels c =
    let at = c.loop-level.invariant in
    sym (level_last c.args.cells c.loop-level.level (omega arith)) ∙ at.first

pub returns-clause-leaves : goal.returns-clause-leaves
returns-clause-leaves c =
    let at = c.loop-level.invariant in
    let is : c.loop-level.level ≡ 12 = omega arith in
    at.doubled ∙ ap (λ (k : ℕ). 2 ^ k) (is ∙ sym (level_last c.args.cells c.loop-level.level is) ∙ at.first)
