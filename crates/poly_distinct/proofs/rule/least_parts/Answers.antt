use Rattle.std.proofs.Common.{ap, sym, ◌∙◌, arith}
use Rattle.poly_place.proofs.CountLemmas.{one_kept, one_left}
use Rattle.poly_distinct.specs.Rule.{none_better, less_part}
use Rattle.poly_distinct.proofs.BestLemmas.{none_less}
use Rattle.poly_distinct.proofs.rule.least_parts.Goals as goal
use Rattle.poly_distinct.proofs.rule.least_parts.Goals.{then-not-is_less_part+in_ok-push, else-not-is_less_part}

pub loop-tally-preserved : goal.loop-tally-preserved
loop-tally-preserved c =
    let ts = c.args.tallies.now in
    let best = c.least_part-best.result in
    let m = c.index-tallies-best.result in
    let a = c.tally-item.result in
    let more = c.loop-tally-test.true in
    let lt = c.least_part-best.ensures.within (omega (arith, more)) in
    elim c.if-not-is_less_part.branch [
      | then-not-is_less_part+in_ok-push w ↦
          one_kept (none_better less_part ts) ts c.loop-tally.tally-index a c.loop-tally.least.items _ c.loop-tally-test.true c.tally-item.is
          (none_less ts c.requires best c.least_part-best.ensures.least m lt c.index-tallies-best.is a _ (sym c.is_less_part.ensures ∙ w.if-not-is_less_part.true))
          (ap (λ v. v.items) w.least-is ∙ w.in_ok-push.ensures.items) c.loop-tally.invariant
      | else-not-is_less_part w ↦
          ap (λ v. v.items) w.least-is
          ∙ one_left (none_better less_part ts) ts c.loop-tally.tally-index a c.loop-tally.least.items c.loop-tally-test.true c.tally-item.is
          (none_less ts c.requires best c.least_part-best.ensures.least m lt c.index-tallies-best.is a _ (sym c.is_less_part.ensures ∙ w.if-not-is_less_part.false)) c.loop-tally.invariant
    ]
