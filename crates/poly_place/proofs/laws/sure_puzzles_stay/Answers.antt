use Rattle.poly_place.proofs.RangeLemmas.{sure_puzzles_stay}
use Rattle.poly_place.proofs.laws.sure_puzzles_stay.Goals as goal

pub returns : goal.returns
returns c = sure_puzzles_stay
