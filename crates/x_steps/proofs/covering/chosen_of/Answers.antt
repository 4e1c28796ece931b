use Rattle.std.proofs.Common.{arith, sym, ◌∙◌}
use Rattle.std.proofs.lemmas.Bool.{false≢true}
use Rattle.std.proofs.lemmas.List.{take_all}
use Rattle.cover_problem.proofs.MemberLemmas.{has_at}
use Rattle.x_steps.proofs.OptionLemmas.{best_begins, best_taken, best_kept, best_is_choice}
use Rattle.x_steps.proofs.covering.chosen_of.Goals.{then-comes_before, else-comes_before}
use Rattle.x_steps.proofs.covering.chosen_of.Goals as goal

pub loop-item-init : goal.loop-item-init
loop-item-init g c = best_begins _ _

pub len-len-requires : goal.len-len-requires
len-len-requires g c = let i = c.requires.items _ (has_at c.args.option.now c.loop-item.item-index 0 c.loop-item-test.true) in record { some = i.0; within = i.1 }

pub loop-item-preserved : goal.loop-item-preserved
loop-item-preserved g c = elim c.if-comes_before.branch [
  | then-comes_before w ↦
      let m = c.comes_before.ensures.0 w.if-comes_before.true in
      rw (w.best-is, w.least-is) (best_taken _ _ c.args.option.now c.loop-item.item-index c.loop-item-test.true _ _ _ c.loop-item.invariant c.len-len.ensures (rw c.requires.primary at m.0) m.1)
  | else-comes_before w ↦
      rw (w.best-is, w.least-is) (best_kept _ _ c.args.option.now c.loop-item.item-index c.loop-item-test.true _ _ _ c.loop-item.invariant c.len-len.ensures
      (λ m. false≢true (sym w.if-comes_before.false ∙ c.comes_before.ensures.1 (rw c.requires.primary m))))
]

pub returns : goal.returns
returns g c =
    let all = take_all c.loop-item.item-index c.args.option.now (omega arith) in
    best_is_choice _ _ c.args.option.now c.loop-item.best c.loop-item.least (rw all at c.loop-item.invariant)
    (λ i h. let r = c.requires.items i h in (r.0, r.2)) c.requires.open c.requires.chosen (omega (arith, c.requires.few))
