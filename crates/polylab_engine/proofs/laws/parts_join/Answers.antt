use Rattle.x_steps.specs.StateValue.{start, done}
use Rattle.x_steps.proofs.RunLemmas.{start_fits}
use Rattle.polylab_engine.proofs.JoinedLemmas as of
use Rattle.polylab_engine.proofs.laws.parts_join.Goals as goal

pub returns : goal.returns
returns c = record {
  sum = of.parts_join;
  whole = λ keeps p parts j. of.parts_join keeps p start done parts (start_fits p) j;
}
