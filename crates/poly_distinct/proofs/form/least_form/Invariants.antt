use Rattle.std.proofs.Common.{◌≡◌, ◌+◌, drop, length}
use Rattle.poly_place.specs.Lists.{lists_of}
use Rattle.poly_place.specs.Forms.{least_from}
use Rattle.poly_distinct.proofs.form.least_form.Given as goal

-- the least from here on is the least of all
abbrev pub invariant-loop-carrier : goal.invariant-loop-carrier
invariant-loop-carrier l = record {
  least : least_from l.form l.best.items (lists_of (drop l.carrier-index l.carriers)) ≡ least_from l.form l.form (lists_of l.carriers);
  best_long : length l.best.items ≡ length l.form;
  firsts_long : length l.firsts.items ≡ length l.form + 1;
}
