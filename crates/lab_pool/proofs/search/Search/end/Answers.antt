use Rattle.lab_history.specs.Ending.{call_of_end}
use Rattle.lab_pool.specs.Worker.{ending_for}
use Rattle.lab_history.specs.declared.entry.Reply.TheVariants as reply
use Rattle.lab_pool.proofs.WorkerLemmas.{last, late, still_held}
use Rattle.lab_pool.proofs.search.Search.end.Goals as goal

pub returns-in_default-clause-ended : goal.returns-in_default-clause-ended
returns-in_default-clause-ended g c =
    last c.args.station.now.seat.now c.end.new.self.seat.now c.end.ensures.number (call_of_end (ending_for c.args.next) c.args.self.lease) reply.Done
    (rw c.ending_for.ensures at c.in_default.ensures.noted)

pub returns-clause-ended : goal.returns-clause-ended
returns-clause-ended g c =
    late c.in-Err.refused.fault c.next_of-after.result c.give_up.new.self.seat.now c.args.self.lease c.in-Err.refused.given c.next_of-after.ensures
    c.in-Err.ensures.given_back
    (c.give_up.ensures.abandoned
    (still_held c.args.station.now.seat.now c.end.new.self.seat.now c.args.self.lease c.in-Err.refused.given c.in-Err.ensures.held c.in-Err.ensures.given_back
    c.requires.held))
