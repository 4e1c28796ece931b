use Rattle.std.proofs.Common.{ℕ, ◌<◌, ◌+◌, ◌∙◌, sym, subst, arith}
use Rattle.std.proofs.lemmas.List.{get_or_read}
use Rattle.poly_distinct.proofs.BestLemmas.{IsLeastPart, part_first, part_keeps, part_takes}
use Rattle.poly_distinct.proofs.rule.least_part.Goals as goal
use Rattle.poly_distinct.proofs.rule.least_part.Goals.{then-is_less_part, else-is_less_part}

pub loop-k-init : goal.loop-k-init
loop-k-init c = (omega arith, part_first c.args.tallies.now)

pub loop-k-preserved : goal.loop-k-preserved
loop-k-preserved c =
    let ts = c.args.tallies.now in
    let k = c.loop-k.k in
    let best = c.loop-k.best in
    let x = c.index-tallies-k.result in
    let y = c.index-tallies-best.result in
    let lt = c.loop-k-test.true in
    let low = c.loop-k.invariant.0 in
    let at = get_or_read ts k x lt c.index-tallies-k.is in
    let was = get_or_read ts best y (omega (arith, lt, low)) c.index-tallies-best.is in
    elim c.if-is_less_part.branch [
      | then-is_less_part w ↦
          subst (λ (b : ℕ). (b < k + 1) × IsLeastPart ts (k + 1) b) (sym w.best-is)
          (omega arith, part_takes ts k best lt low x y at was c.loop-k.invariant.1 (sym c.is_less_part.ensures ∙ w.if-is_less_part.true))
      | else-is_less_part w ↦
          subst (λ (b : ℕ). (b < k + 1) × IsLeastPart ts (k + 1) b) (sym w.best-is)
          (omega (arith, low), part_keeps ts k best lt low x y at was c.loop-k.invariant.1 (sym c.is_less_part.ensures ∙ w.if-is_less_part.false))
    ]
