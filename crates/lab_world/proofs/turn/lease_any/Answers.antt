use Rattle.std.proofs.Common.{refl, sym, ◌∙◌}
use Rattle.lab_history.specs.declared.entry.Call.TheVariants as call
use Rattle.lab_world.specs.Worker.{lent_worker}
use Rattle.lab_world.specs.declared.event.Act.TheVariants.{LeaseAny}
use Rattle.lab_world.proofs.EventLemmas.{busy_turned, lease_any_is, act_stepped}
use Rattle.lab_world.proofs.turn.lease_any.Goals as goal

pub returns-then-is_some-clause-turned : goal.returns-then-is_some-clause-turned
returns-then-is_some-clause-turned g c =
    busy_turned c.args.book.now c.args.w c.args.seat.now LeaseAny refl (sym c.is_some.ensures ∙ c.if-is_some.true)

pub returns-clause-turned : goal.returns-clause-turned
returns-clause-turned g c =
    act_stepped c.args.book.now c.lease_any.new.book c.args.w c.args.w c.next_index-index.result LeaseAny call.LeaseAny
    (lent_worker c.args.book.now.problem) c.args.seat.now c.in_ok-seat.field-0
    (lease_any_is c.args.book.now c.args.w c.args.seat.now (sym c.is_some.ensures ∙ c.if-is_some.false))
    c.next_index-index.ensures c.in_ok-seat.ensures.book c.in_ok-seat.ensures.worker
