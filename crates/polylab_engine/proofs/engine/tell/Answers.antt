use Rattle.polylab_engine.proofs.EndingLemmas.{taken}
use Rattle.polylab_engine.proofs.engine.tell.Goals as goal

pub returns : goal.returns
returns g c =
    taken c.write_whole.result (g.F.Sink.stream c.args.faults.now) (g.F.Sink.stream c.write_whole.new.sink) _
    c.write_whole.ensures.all c.write_whole.ensures.part
