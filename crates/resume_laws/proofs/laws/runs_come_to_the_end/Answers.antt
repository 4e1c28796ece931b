use Rattle.resume_laws.proofs.AheadLemmas as of
use Rattle.resume_laws.proofs.laws.runs_come_to_the_end.Goals as goal

pub returns : goal.returns
returns c = of.comes_to_the_end
