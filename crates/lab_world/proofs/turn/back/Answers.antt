use Rattle.std.proofs.Common.{refl}
use Rattle.lab_world.specs.declared.event.Act.TheVariants.{Back}
use Rattle.lab_world.proofs.EventLemmas.{idle_turned, back_taken, back_not_taken}
use Rattle.lab_world.proofs.turn.back.Goals as goal

pub returns-in_default : goal.returns-in_default
returns-in_default g c = λ b w. idle_turned b w c.args.seat.now Back refl c.in_default.is

pub returns-in-Ok : goal.returns-in-Ok
returns-in-Ok g c = λ b w. back_taken b w c.args.seat.now c.in-Some.worker c.back.new.self c.in-Some.is c.in-Ok.ensures.can
    c.in-Ok.ensures.state

pub returns-in-Err : goal.returns-in-Err
returns-in-Err g c =
    λ b w. back_not_taken b w c.args.seat.now c.in-Some.worker c.back.new.self c.in-Some.is c.in-Err.fault c.in-Err.ensures.refused
    c.in-Err.ensures.at_mark c.in-Err.ensures.unchanged
