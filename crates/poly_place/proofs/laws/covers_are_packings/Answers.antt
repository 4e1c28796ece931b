use Rattle.poly_place.proofs.PackingLemmas.{are_packings}
use Rattle.poly_place.proofs.laws.covers_are_packings.Goals as goal

pub returns : goal.returns
returns c = are_packings
