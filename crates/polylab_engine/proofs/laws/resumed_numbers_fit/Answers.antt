use Rattle.polylab_engine.proofs.AddedLemmas.{resumed_numbers}
use Rattle.polylab_engine.proofs.laws.resumed_numbers_fit.Goals as goal

pub returns : goal.returns
returns c = resumed_numbers
