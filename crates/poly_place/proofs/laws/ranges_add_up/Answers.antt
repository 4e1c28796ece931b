use Rattle.poly_place.proofs.SumLemmas.{one_count, covers_are_counted, ends_are_listed, ranges_add_up}
use Rattle.poly_place.proofs.laws.ranges_add_up.Goals as goal

pub returns : goal.returns
returns c = record { one = one_count; covers = covers_are_counted; ways = ends_are_listed; sums = ranges_add_up }
