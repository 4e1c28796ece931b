use Rattle.poly_distinct.proofs.FreeVisitLemmas.{free_unlike, all_distinct}
use Rattle.poly_distinct.proofs.free_laws.free_anchors_tell_classes.Goals as goal

pub returns : goal.returns
returns c = record {
  unlike = λ p group t ns small z a allowed free covers d. free_unlike p z group t a ns allowed free small covers d;
  distinct = λ p group t ns small z a allowed free covers d. all_distinct p z group _ (free_unlike p z group t a ns allowed free small covers d);
}
