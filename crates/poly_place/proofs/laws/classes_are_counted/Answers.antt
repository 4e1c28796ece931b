use Rattle.poly_place.proofs.ClassCountLemmas.{tests_alike, counts_classes}
use Rattle.poly_place.proofs.laws.classes_are_counted.Goals as goal

pub returns : goal.returns
returns c = record { tests = tests_alike; counts = counts_classes }
