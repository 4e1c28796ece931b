use Rattle.lab_pool.proofs.WorkerLemmas.{leased_to}
use Rattle.lab_pool.proofs.station.Station.lease_waiting.Goals as goal

pub returns-clause-leased : goal.returns-clause-leased
returns-clause-leased g c =
    leased_to c.lease_next-answer.result c.args.self.now.seat.now c.lease_next-answer.new.seat c.lease_next-answer.ensures.number
    c.lease_next-answer.ensures.worker c.lease_next-answer.ensures.held
