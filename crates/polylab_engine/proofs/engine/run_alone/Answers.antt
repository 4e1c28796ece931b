use Rattle.polylab_engine.proofs.EndingLemmas as of
use Rattle.polylab_engine.proofs.engine.run_alone.Goals as goal

pub returns-clause-memory : goal.returns-clause-memory
returns-clause-memory g c = λ e.
    of.only_memory c.args.job (g.I.Source.stream c.args.reader.now) (g.F.Sink.stream c.args.faults.now) (g.F.Sink.stream c.run.new.faults) c.requires
    (c.run.ensures.why e)
