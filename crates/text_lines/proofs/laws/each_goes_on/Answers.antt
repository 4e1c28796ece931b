use Rattle.text_lines.proofs.EachLemmas.{leads, from_leads}
use Rattle.text_lines.proofs.laws.each_goes_on.Goals as goal

pub returns : goal.returns
returns g c step s t xs = (leads step xs s t, from_leads step xs s t)
