use Rattle.std.proofs.Common.{refl}
use Rattle.x_steps.specs.StateView.{state_value}
use Rattle.lab_history.specs.declared.entry.Call.TheVariants as call
use Rattle.lab_history.specs.declared.entry.Reply.{Reply}
use Rattle.lab_history.specs.declared.entry.Reply.TheVariants as reply
use Rattle.lab_world.specs.declared.event.Act.TheVariants.{PutBack}
use Rattle.lab_world.specs.declared.event.WorldReply.TheVariants.{Book}
use Rattle.lab_world.proofs.EventLemmas.{told, put_back_is, act_made, act_refused}
use Rattle.lab_world.proofs.turn.put_back.Goals as goal

pub returns-in-Ok-clause-turned : goal.returns-in-Ok-clause-turned
returns-in-Ok-clause-turned c =
    λ x. act_made c.args.book.now c.put_back.new.self c.args.w c.args.w c.next_index-index.result (PutBack c.args.id c.args.target.now)
    (call.PutBack c.args.id (state_value c.state-state.result.now)) (λ (r : Reply). x) x x
    (put_back_is c.args.book.now c.args.w x c.args.id c.args.target.now c.state-state.result.now c.state-state.ensures)
    c.next_index-index.ensures reply.Done c.in-Ok.ensures.made refl

pub returns-in-Err-clause-turned : goal.returns-in-Err-clause-turned
returns-in-Err-clause-turned c =
    told c.refused.result (Book c.next_index-index.result) _ _ c.refused.ensures.reply c.refused.ensures.not_out_of_memory
    (λ o x. act_refused c.args.book.now c.put_back.new.self c.args.w c.args.w c.next_index-index.result (PutBack c.args.id c.args.target.now)
    (call.PutBack c.args.id (state_value c.state-state.result.now)) (λ (r : Reply). x) x x
    (put_back_is c.args.book.now c.args.w x c.args.id c.args.target.now c.state-state.result.now c.state-state.ensures)
    c.next_index-index.ensures c.in-Err.fault c.in-Err.ensures.refused o (λ f. refl))
