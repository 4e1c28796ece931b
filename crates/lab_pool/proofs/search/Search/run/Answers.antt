use Rattle.std.proofs.Common.{refl}
use Rattle.lab_pool.proofs.WorkerLemmas.{lost, still_held}
use Rattle.lab_pool.proofs.search.Search.run.Goals as goal

pub end-requires-clause-held : goal.end-requires-clause-held
end-requires-clause-held g c κs lives =
    still_held c.args.station.now.seat.now c.go_on-next.new.station.seat.now c.args.self.lease c.go_on-next.new.self.lease c.go_on-next.ensures.seat.1
    c.go_on-next.ensures.lease c.requires.held

pub returns-clause-ended : goal.returns-clause-ended
returns-clause-ended g c =
    lost c.end.result.1 c.end.result.1 c.end.new.station.seat.now c.end.new.station.seat.now c.args.self.lease c.go_on-next.new.self.lease refl refl
    c.go_on-next.ensures.lease c.end.ensures.ended
