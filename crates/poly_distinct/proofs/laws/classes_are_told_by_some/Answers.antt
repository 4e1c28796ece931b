use Rattle.poly_distinct.proofs.NewLemmas.{classes_are_distinct, same_classes, some_count}
use Rattle.poly_distinct.proofs.laws.classes_are_told_by_some.Goals as goal

pub returns : goal.returns
returns c = record {
  length = λ p group paths z. classes_are_distinct p z group paths;
  same = λ p group all some z a b. same_classes p z group all some a b;
  counts = λ p group all some z a b. some_count p z group all some a b;
}
