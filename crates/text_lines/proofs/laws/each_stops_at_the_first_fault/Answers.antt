use Rattle.text_lines.proofs.EachLemmas.{fails, from_fails}
use Rattle.text_lines.proofs.laws.each_stops_at_the_first_fault.Goals as goal

pub returns : goal.returns
returns g c step s f xs = (fails step xs s f, from_fails step xs s f)
