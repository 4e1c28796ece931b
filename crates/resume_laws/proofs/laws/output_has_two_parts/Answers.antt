use Rattle.resume_laws.proofs.LawLemmas as of
use Rattle.resume_laws.proofs.laws.output_has_two_parts.Goals as goal

pub returns : goal.returns
returns c = record { parts = of.parts; report = of.report; lines = of.lines; rest = of.rest; end = of.end }
