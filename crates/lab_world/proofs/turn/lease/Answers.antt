use Rattle.std.proofs.Common.{Some, sym, ◌∙◌}
use Rattle.lab_world.specs.Worker.{lease_call, lent_worker}
use Rattle.lab_world.specs.World.{lease_act}
use Rattle.lab_world.specs.declared.event.WorldReply.TheVariants.{Book}
use Rattle.lab_world.proofs.EventLemmas.{told, busy_turned, lease_leases, lease_is, act_stepped, act_refused, none_there}
use Rattle.lab_world.proofs.turn.lease.Goals as goal

pub returns-then-is_some-clause-turned : goal.returns-then-is_some-clause-turned
returns-then-is_some-clause-turned g c =
    busy_turned c.args.book.now c.args.w c.args.seat.now (lease_act c.args.wanted c.args.id) (lease_leases c.args.wanted c.args.id)
    (sym c.is_some.ensures ∙ c.if-is_some.true)

pub returns-in-Ok-clause-turned : goal.returns-in-Ok-clause-turned
returns-in-Ok-clause-turned g c =
    act_stepped c.args.book.now c.lease_wanted.new.book c.args.w c.args.w c.next_index-index.result (lease_act c.args.wanted c.args.id)
    (lease_call c.args.wanted c.args.id) (lent_worker c.args.book.now.problem) c.args.seat.now (Some c.in-Ok.worker)
    (lease_is c.args.book.now c.args.w c.args.seat.now c.args.wanted c.args.id (sym c.is_some.ensures ∙ c.if-is_some.false))
    c.next_index-index.ensures c.in-Ok.ensures.book c.in-Ok.ensures.worker

pub returns-in-Err-clause-turned : goal.returns-in-Err-clause-turned
returns-in-Err-clause-turned g c =
    told c.refused.result (Book c.next_index-index.result) _ _ c.refused.ensures.reply c.refused.ensures.not_out_of_memory
    (λ o. act_refused c.args.book.now c.lease_wanted.new.book c.args.w c.args.w c.next_index-index.result
    (lease_act c.args.wanted c.args.id) (lease_call c.args.wanted c.args.id) (lent_worker c.args.book.now.problem)
    c.args.seat.now c.args.seat.now
    (lease_is c.args.book.now c.args.w c.args.seat.now c.args.wanted c.args.id (sym c.is_some.ensures ∙ c.if-is_some.false))
    c.next_index-index.ensures c.in-Err.fault c.in-Err.ensures.refused o
    (λ f. sym (none_there c.args.seat.now (sym c.is_some.ensures ∙ c.if-is_some.false))))
