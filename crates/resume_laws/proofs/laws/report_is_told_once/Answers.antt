use Rattle.resume_laws.proofs.OnceLemmas as of
use Rattle.resume_laws.proofs.laws.report_is_told_once.Goals as goal

pub returns : goal.returns
returns c = of.told_once
