use Rattle.std.proofs.Common.{◌≡◌, Some, None, sym, ap}
use Rattle.lab_history.specs.declared.entry.Reply.TheVariants as reply
use Rattle.lab_history.specs.Ending.{call_of_end}
use Rattle.lab_world.specs.Worker.{WorkerValue, after_end}
use Rattle.lab_world.specs.World.{end_act}
use Rattle.lab_world.specs.declared.event.WorldReply.TheVariants.{Book}
use Rattle.lab_world.proofs.EventLemmas.{told, end_needs, taken_idle, end_is, act_made, act_refused}
use Rattle.lab_world.proofs.turn.end.Goals as goal

pub returns-in_default-clause-turned : goal.returns-in_default-clause-turned
returns-in_default-clause-turned g c =
    let none : c.args.seat.now ≡ None = cc in
    let after : c.take.new.self ≡ None = cc in
    λ w. taken_idle c.args.book.now w c.args.seat.now c.take.new.self (end_act c.args.ending) (end_needs c.args.ending) none after

pub returns-in-Ok-clause-turned : goal.returns-in-Ok-clause-turned
returns-in-Ok-clause-turned g c =
    let here : c.args.seat.now ≡ Some c.in-Some.worker = cc in
    let after : c.take.new.self ≡ None = cc in
    λ w. act_made c.args.book.now c.end.new.book w c.in-Some.worker.grant.worker c.next_index-index.result (end_act c.args.ending)
    (call_of_end c.args.ending c.in-Some.worker.grant) (after_end c.in-Some.worker) c.args.seat.now c.take.new.self
    (end_is c.args.book.now w c.args.seat.now c.in-Some.worker here c.args.ending)
    c.next_index-index.ensures reply.Done c.in-Ok.ensures.made (sym after)

pub returns-clause-turned : goal.returns-clause-turned
returns-clause-turned g c =
    told c.refused.result (Book c.next_index-index.result) _ _ c.refused.ensures.reply c.refused.ensures.not_out_of_memory
    (λ o w. let here : c.args.seat.now ≡ Some c.in-Some.worker = cc in
    act_refused c.args.book.now c.end.new.book w c.in-Some.worker.grant.worker c.next_index-index.result (end_act c.args.ending)
    (call_of_end c.args.ending c.in-Some.worker.grant) (after_end c.in-Some.worker) c.args.seat.now (Some c.in-Err.refused.given)
    (end_is c.args.book.now w c.args.seat.now c.in-Some.worker here c.args.ending)
    c.next_index-index.ensures c.in-Err.refused.fault c.in-Err.ensures.refused o
    (λ f. ap (λ (v : WorkerValue). Some v) (sym c.in-Err.ensures.given_back)))
