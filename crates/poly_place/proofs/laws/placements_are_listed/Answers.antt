use Rattle.poly_place.proofs.PlacementLemmas.{are_placements}
use Rattle.poly_place.proofs.laws.placements_are_listed.Goals as goal

pub returns : goal.returns
returns c = are_placements
