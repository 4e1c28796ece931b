use Rattle.poly_distinct.proofs.FreeVisitLemmas.{visits_stand, visits_multiply}
use Rattle.poly_distinct.proofs.free_laws.visits_of_free_anchors_multiply.Goals as goal

pub returns : goal.returns
returns c = record {
  visits = λ p group visits z free covers. visits_stand p z group free visits covers;
  packings = λ p group all visits z free whole apart covers d. visits_multiply p z group free all visits whole apart covers d;
}
