use Rattle.std.proofs.Common.{Some, refl}
use Rattle.x_branches.specs.Refusals.{cut_at}
use Rattle.x_branches.specs.Untried.{with_choice}
use Rattle.lab_world.specs.Worker.{split_call, after_split}
use Rattle.lab_world.specs.declared.event.Act.TheVariants.{Split}
use Rattle.lab_world.specs.declared.event.WorldReply.TheVariants.{Book, Runner}
use Rattle.lab_world.proofs.EventLemmas.{told, idle_turned, split_is, split_not_called, split_worker, act_stepped}
use Rattle.lab_world.proofs.turn.split.Goals as goal

pub returns-in_default-clause-turned : goal.returns-in_default-clause-turned
returns-in_default-clause-turned g c = idle_turned c.args.book.now c.args.w c.args.seat.now (Split c.args.level c.args.option)
    refl c.in_default.is

pub returns-in-Ok-clause-turned : goal.returns-in-Ok-clause-turned
returns-in-Ok-clause-turned g c =
    act_stepped c.args.book.now c.split.new.book c.args.w c.in-Some.worker.grant.worker c.next_index-index.result
    (Split c.args.level c.args.option) (split_call c.in-Some.worker
    (with_choice c.in-Some.worker.runner.position c.args.level c.args.option))
    (after_split c.in-Some.worker (cut_at c.in-Some.worker.runner c.args.level c.args.option)) c.args.seat.now (Some c.split.new.self)
    (split_is c.args.book.now c.args.w c.args.seat.now c.in-Some.worker c.in-Some.is c.args.level c.args.option c.in-Ok.ensures.untried)
    c.next_index-index.ensures c.in-Ok.ensures.book
    (split_worker c.in-Some.worker c.split.new.self (cut_at c.in-Some.worker.runner c.args.level c.args.option)
    _ c.in-Ok.field-0 c.in-Ok.ensures.reply c.in-Ok.ensures.worker)

pub returns-in-Err-Runner-clause-turned : goal.returns-in-Err-Runner-clause-turned
returns-in-Err-Runner-clause-turned g c =
    told c.not_done.result (Runner c.in-Err-Runner.fault) _ _ c.not_done.ensures.reply c.not_done.ensures.not_out_of_memory
    (λ o. let why = rw c.in-Err-Runner.field-0-is at c.in-Err-Runner.ensures.refused in
    split_not_called c.args.book.now c.args.w c.args.seat.now c.in-Some.worker c.in-Some.is c.split.new.book c.split.new.self
    c.in-Err-Runner.ensures.unchanged c.args.level c.args.option c.in-Err-Runner.fault why o)

pub returns-in-Err-Book-clause-turned : goal.returns-in-Err-Book-clause-turned
returns-in-Err-Book-clause-turned g c =
    told c.refused.result (Book c.next_index-index.result) _ _ c.refused.ensures.reply c.refused.ensures.not_out_of_memory
    (λ o. let why = rw c.in-Err-Book.field-0-is at c.in-Err-Book.ensures.refused in absurd (o why.1))
