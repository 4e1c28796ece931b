use Rattle.std.proofs.Common.{refl}
use Rattle.lab_world.specs.declared.event.Act.TheVariants.{Step}
use Rattle.lab_world.specs.declared.event.WorldReply.TheVariants.{Runner}
use Rattle.lab_world.proofs.EventLemmas.{told, idle_turned, step_taken, step_not_taken}
use Rattle.lab_world.proofs.turn.step.Goals as goal

pub returns-in_default-clause-turned : goal.returns-in_default-clause-turned
returns-in_default-clause-turned g c = λ b w. idle_turned b w c.args.seat.now Step refl c.in_default.is

pub returns-in-Ok-clause-turned : goal.returns-in-Ok-clause-turned
returns-in-Ok-clause-turned g c =
    λ b w. step_taken b w c.args.seat.now c.in-Some.worker c.step.new.self c.in-Some.is c.in-Ok.event c.in-Ok.ensures.can
    c.in-Ok.ensures.event c.in-Ok.ensures.state

pub returns-in-Err-clause-turned : goal.returns-in-Err-clause-turned
returns-in-Err-clause-turned g c =
    told c.not_done.result (Runner c.in-Err.fault) _ _ c.not_done.ensures.reply c.not_done.ensures.not_out_of_memory
    (λ o b w. step_not_taken b w c.args.seat.now c.in-Some.worker c.step.new.self c.in-Some.is c.in-Err.fault c.in-Err.ensures.refused o
    c.in-Err.ensures.unchanged)
