use Rattle.std.proofs.Common.{refl}
use Rattle.lab_history.specs.declared.entry.Call.TheVariants as call
use Rattle.lab_history.specs.declared.entry.Reply.{Reply}
use Rattle.lab_history.specs.declared.entry.Reply.TheVariants as reply
use Rattle.lab_world.specs.declared.event.Act.TheVariants.{RequestStop}
use Rattle.lab_world.specs.declared.event.WorldReply.TheVariants.{Book}
use Rattle.lab_world.proofs.EventLemmas.{told, stop_is, act_made, act_refused}
use Rattle.lab_world.proofs.turn.request_stop.Goals as goal

pub returns-in-Ok-clause-turned : goal.returns-in-Ok-clause-turned
returns-in-Ok-clause-turned c =
    λ x. act_made c.args.book.now c.request_stop.new.self c.args.w c.args.w c.next_index-index.result (RequestStop c.args.id)
    (call.RequestStop c.args.id) (λ (r : Reply). x) x x
    (stop_is c.args.book.now c.args.w x c.args.id) c.next_index-index.ensures reply.Done c.in-Ok.ensures.made refl

pub returns-in-Err-clause-turned : goal.returns-in-Err-clause-turned
returns-in-Err-clause-turned c =
    told c.refused.result (Book c.next_index-index.result) _ _ c.refused.ensures.reply c.refused.ensures.not_out_of_memory
    (λ o x. act_refused c.args.book.now c.request_stop.new.self c.args.w c.args.w c.next_index-index.result (RequestStop c.args.id)
    (call.RequestStop c.args.id) (λ (r : Reply). x) x x
    (stop_is c.args.book.now c.args.w x c.args.id) c.next_index-index.ensures c.in-Err.fault c.in-Err.ensures.refused o (λ f. refl))
