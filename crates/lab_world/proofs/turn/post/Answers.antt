use Rattle.std.proofs.Common.{Some, refl, sym, ap}
use Rattle.lab_book.specs.Calls.{post_of, posted_reply}
use Rattle.lab_world.specs.Worker.{WorkerValue, unposted, after_post}
use Rattle.lab_world.specs.declared.event.Act.TheVariants.{Post}
use Rattle.lab_world.specs.declared.event.WorldReply.TheVariants.{Book}
use Rattle.lab_world.proofs.EventLemmas.{told, idle_turned, post_is, act_made, act_refused}
use Rattle.lab_world.proofs.turn.post.Goals as goal

pub returns-in_default-clause-turned : goal.returns-in_default-clause-turned
returns-in_default-clause-turned g c = idle_turned c.args.book.now c.args.w c.args.seat.now Post refl c.in_default.is

pub returns-in-Ok-clause-turned : goal.returns-in-Ok-clause-turned
returns-in-Ok-clause-turned g c =
    act_made c.args.book.now c.post_held.new.book c.args.w c.in-Some.worker.grant.worker c.next_index-index.result Post
    (post_of c.args.book.now.problem c.in-Some.worker.grant (unposted c.in-Some.worker)) (after_post c.in-Some.worker) c.args.seat.now
    (Some c.post_held.new.self)
    (post_is c.args.book.now c.args.w c.args.seat.now c.in-Some.worker c.in-Some.is) c.next_index-index.ensures (posted_reply c.in-Ok.field-0)
    c.in-Ok.ensures.made (ap (λ (v : WorkerValue). Some v) (sym c.in-Ok.ensures.marked))

pub returns-in-Err-clause-turned : goal.returns-in-Err-clause-turned
returns-in-Err-clause-turned g c =
    told c.refused.result (Book c.next_index-index.result) _ _ c.refused.ensures.reply c.refused.ensures.not_out_of_memory
    (λ o. act_refused c.args.book.now c.post_held.new.book c.args.w c.in-Some.worker.grant.worker c.next_index-index.result Post
    (post_of c.args.book.now.problem c.in-Some.worker.grant (unposted c.in-Some.worker)) (after_post c.in-Some.worker) c.args.seat.now
    (Some c.post_held.new.self)
    (post_is c.args.book.now c.args.w c.args.seat.now c.in-Some.worker c.in-Some.is)
    c.next_index-index.ensures c.in-Err.fault c.in-Err.ensures.refused o
    (λ f. ap (λ (v : WorkerValue). Some v) (sym c.in-Err.ensures.unchanged)))
