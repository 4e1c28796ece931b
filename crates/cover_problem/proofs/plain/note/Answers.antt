use Rattle.std.proofs.Common.{map}
use Rattle.std.proofs.lemmas.List.{length-map}
use Rattle.cover_problem.proofs.HolderLemmas.{noted_more}
use Rattle.cover_problem.proofs.plain.note.Goals as goal

pub loop-item-preserved : goal.loop-item-preserved
loop-item-preserved c = noted_more (λ o. o.items) c.args.k c.args.option.now (map (λ o. o.items) c.args.holders.now) c.loop-item.holders c.loop-item.item-index c.push.new.self _ c.loop-item-test.true (rw length-map c.requires) c.in_ok-push.ensures.items c.loop-item.invariant
