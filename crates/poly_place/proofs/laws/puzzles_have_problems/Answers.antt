use Rattle.poly_place.proofs.CompiledLemmas.{is_problem}
use Rattle.poly_place.proofs.laws.puzzles_have_problems.Goals as goal

pub returns : goal.returns
returns c = is_problem
