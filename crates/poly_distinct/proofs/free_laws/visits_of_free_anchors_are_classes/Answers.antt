use Rattle.poly_distinct.proofs.FreeVisitLemmas.{visits_distinct, visits_new, visits_count}
use Rattle.poly_distinct.proofs.free_laws.visits_of_free_anchors_are_classes.Goals as goal

pub returns : goal.returns
returns c = record {
  distinct = λ p group visits z free covers d. visits_distinct p z group free visits covers d;
  number = λ p group visits z free covers d. visits_new p z group free visits covers d;
  classes = λ p group all visits z free whole covers d. visits_count p z group free all visits whole covers d;
}
