use Rattle.std.proofs.Common.{◌∙◌, sym}
use Rattle.lab_pool.proofs.WorkerLemmas.{newly_held}
use Rattle.lab_pool.proofs.station.Station.lease.Goals as goal

pub returns-in-Ok-clause-leased : goal.returns-in-Ok-clause-leased
returns-in-Ok-clause-leased g c = (
  c.in-Ok.ensures.worker ∙ sym c.lease-answer.ensures.number,
  newly_held c.args.self.now.seat.now c.lease-answer.new.seat c.in-Ok.leased.lease c.in-Ok.ensures.held.0,
)
