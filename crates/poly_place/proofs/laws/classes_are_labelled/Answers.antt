use Rattle.poly_place.proofs.LabelledLemmas.{alike_then_swaps, classes_are_labelled}
use Rattle.poly_place.proofs.ByNameLemmas.{alike_by_name, classes_by_name}
use Rattle.poly_place.proofs.laws.classes_are_labelled.Goals as goal

pub returns : goal.returns
returns c = record { alike = alike_then_swaps; classes = classes_are_labelled; named = alike_by_name; named_classes = classes_by_name }
