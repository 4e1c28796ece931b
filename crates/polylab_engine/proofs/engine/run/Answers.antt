use Rattle.polylab_engine.proofs.EndingLemmas as of
use Rattle.polylab_engine.proofs.engine.run.Goals as goal

pub returns-clause-run : goal.returns-clause-run
returns-clause-run g c =
    let job = c.args.job in
    let r = g.I.Source.stream c.args.reader.now in
    let r' = g.I.Source.stream c.work-ending.new.reader in
    let w = g.O.Sink.stream c.args.writer.now in
    let w' = g.O.Sink.stream c.work-ending.new.writer in
    let f = g.F.Sink.stream c.args.faults.now in
    let f' = g.F.Sink.stream c.tell_ending.new.faults in
    rw c.status.ensures (of.run_is job r r' w w' f f' c.work-ending.result c.work-ending.ensures.ends c.tell_ending.ensures)

pub returns-clause-why : goal.returns-clause-why
returns-clause-why g c =
    rw c.status.ensures (of.want_is _ (g.F.Sink.stream c.args.faults.now) (g.F.Sink.stream c.tell_ending.new.faults) c.work-ending.result c.work-ending.ensures.why c.tell_ending.ensures)
