use Rattle.resume_laws.proofs.LawLemmas as of
use Rattle.resume_laws.proofs.laws.runs_add_up.Goals as goal

pub returns : goal.returns
returns c = record { numbers = of.numbers; visits = of.visits; input = of.input; whole = of.whole; cover = of.cover; cover_visits = of.cover_visits }
