use Rattle.x_snapshot.proofs.JudgedLemmas.{valid_decides, fit_decides, on_run_decides, inside_decides}
use Rattle.x_snapshot.proofs.laws.tests_tell_the_facts.Goals as goal

pub returns : goal.returns
returns c = record { path = valid_decides; state = fit_decides; on_run = on_run_decides; inside = inside_decides }
