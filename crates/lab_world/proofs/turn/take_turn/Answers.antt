use Rattle.lab_world.proofs.AloneLemmas.{taken_seat, taken_noted, taken_problem}
use Rattle.lab_world.proofs.turn.take_turn.Goals as goal

pub returns-clause-seat : goal.returns-clause-seat
returns-clause-seat g c =
    taken_seat c.args.book.now c.perform.new.book c.args.w c.args.seat.now c.perform.new.seat c.args.act.now c.perform.result
    c.is_sound.ensures.tiling c.requires.seat c.perform.ensures.turned c.perform.ensures.book c.perform.ensures.unchanged

pub returns-clause-same_problem : goal.returns-clause-same_problem
returns-clause-same_problem g c =
    taken_problem c.args.book.now c.perform.new.book c.args.w c.args.seat.now c.perform.new.seat c.args.act.now c.perform.result
    c.perform.ensures.turned c.perform.ensures.book

pub returns-clause-noted : goal.returns-clause-noted
returns-clause-noted g c =
    taken_noted c.args.book.now c.perform.new.book c.args.w c.args.seat.now c.perform.new.seat c.args.act.now c.perform.result
    c.perform.ensures.turned
