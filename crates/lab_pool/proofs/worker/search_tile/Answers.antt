use Rattle.std.proofs.Common.{refl}
use Rattle.lab_pool.specs.declared.search.Next.TheVariants as next
use Rattle.lab_pool.proofs.WorkerLemmas.{lost}
use Rattle.lab_pool.proofs.worker.search_tile.Goals as goal

pub returns-in-OutOfMemory-clause-given_up : goal.returns-in-OutOfMemory-clause-given_up
returns-in-OutOfMemory-clause-given_up g c =
    λ _. lost c.run-runner.result.1 next.OutOfMemory c.run-runner.new.station.seat.now c.lacks_memory.new.self.seat.now c.args.leased.lease
    c.begin-search.result.lease c.in-OutOfMemory.is c.lacks_memory.ensures c.begin-search.ensures.lease c.run-runner.ensures.ended

pub returns-in-On-clause-given_up : goal.returns-in-On-clause-given_up
returns-in-On-clause-given_up g c =
    λ _. lost c.run-runner.result.1 next.On c.run-runner.new.station.seat.now c.run-runner.new.station.seat.now c.args.leased.lease
    c.begin-search.result.lease c.in-On.is refl c.begin-search.ensures.lease c.run-runner.ensures.ended

pub returns-clause-given_up : goal.returns-clause-given_up
returns-clause-given_up g c =
    λ _. lost c.run-runner.result.1 next.Refused c.run-runner.new.station.seat.now c.run-runner.new.station.seat.now c.args.leased.lease
    c.begin-search.result.lease c.in-Refused.is refl c.begin-search.ensures.lease c.run-runner.ensures.ended
