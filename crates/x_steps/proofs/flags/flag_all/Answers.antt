use Rattle.std.proofs.Common.{arith, ◌++◌, subst}
use Rattle.std.proofs.lemmas.List.{take_all}
use Rattle.x_steps.specs.Flags.{AreFlagsOf}
use Rattle.x_steps.proofs.FlagLemmas.{flags_more}
use Rattle.x_steps.proofs.flags.flag_all.Goals as goal

pub loop-item-preserved : goal.loop-item-preserved
loop-item-preserved d n c a = flags_more d.loop-item.flags d.args.items.now d.loop-item.item-index n c (d.loop-item.invariant n c a) (omega arith) (omega (arith, d.requires d.loop-item.item-index 0))

pub returns : goal.returns
returns d n c a = subst (λ l. AreFlagsOf d.loop-item.flags n (c ++ l)) (take_all d.loop-item.item-index d.args.items.now (omega arith)) (d.loop-item.invariant n c a)
