use Rattle.lab_world.proofs.AloneLemmas.{walk_leads}
use Rattle.lab_world.proofs.worker.Worker.walk.Goals as goal

pub returns-clause-played : goal.returns-clause-played
returns-clause-played g c =
    rw (← c.self.view_is)
    (walk_leads c.walk.result (record { grant = c.self.inside.lease; runner = c.self.inside.runner }) c.walk.new.self c.walk.ensures.state
    c.walk.ensures.each_step)
