use Rattle.poly_place.proofs.PlainLemmas.{plain_stay}
use Rattle.poly_place.proofs.laws.plain_puzzles_stay.Goals as goal

pub returns : goal.returns
returns c = plain_stay
