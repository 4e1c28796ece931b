use Rattle.std.proofs.Common.{Some, refl, sym, ap}
use Rattle.lab_history.specs.declared.entry.Call.TheVariants as call
use Rattle.lab_world.specs.Worker.{WorkerValue, after_retract}
use Rattle.lab_world.specs.declared.event.Act.TheVariants.{Retract}
use Rattle.lab_world.specs.declared.event.WorldReply.TheVariants.{Book}
use Rattle.lab_world.proofs.EventLemmas.{told, idle_turned, retract_is, retract_not_called, act_stepped, act_refused}
use Rattle.lab_world.proofs.turn.retract.Goals as goal

pub returns-in_default-clause-turned : goal.returns-in_default-clause-turned
returns-in_default-clause-turned g c = idle_turned c.args.book.now c.args.w c.args.seat.now Retract refl c.in_default.is

pub returns-in-Ok-clause-turned : goal.returns-in-Ok-clause-turned
returns-in-Ok-clause-turned g c =
    act_stepped c.args.book.now c.retract.new.book c.args.w c.in-Some.worker.grant.worker c.next_index-index.result Retract
    (call.Retract c.in-Some.worker.grant) (after_retract c.in-Some.worker) c.args.seat.now (Some c.retract.new.self)
    (retract_is c.args.book.now c.args.w c.args.seat.now c.in-Some.worker c.in-Some.is c.in-Ok.ensures.none_unposted)
    c.next_index-index.ensures c.in-Ok.ensures.book c.in-Ok.ensures.worker

pub returns-in-Err-Runner-clause-turned : goal.returns-in-Err-Runner-clause-turned
returns-in-Err-Runner-clause-turned g c =
    let why = rw c.in-Err-Runner.field-0-is at c.in-Err-Runner.ensures.refused in
    retract_not_called c.args.book.now c.args.w c.args.seat.now c.in-Some.worker c.in-Some.is c.retract.new.book c.retract.new.self
    c.in-Err-Runner.ensures.unchanged c.in-Err-Runner.fault why

pub returns-in-Err-Book-clause-turned : goal.returns-in-Err-Book-clause-turned
returns-in-Err-Book-clause-turned g c =
    told c.refused.result (Book c.next_index-index.result) _ _ c.refused.ensures.reply c.refused.ensures.not_out_of_memory
    (λ o. let why = rw c.in-Err-Book.field-0-is at c.in-Err-Book.ensures.refused in
    act_refused c.args.book.now c.retract.new.book c.args.w c.in-Some.worker.grant.worker c.next_index-index.result Retract
    (call.Retract c.in-Some.worker.grant) (after_retract c.in-Some.worker) c.args.seat.now (Some c.retract.new.self)
    (retract_is c.args.book.now c.args.w c.args.seat.now c.in-Some.worker c.in-Some.is why.1)
    c.next_index-index.ensures c.in-Err-Book.fault why.0 o
    (λ f. ap (λ (v : WorkerValue). Some v) (sym c.in-Err-Book.ensures.unchanged)))
