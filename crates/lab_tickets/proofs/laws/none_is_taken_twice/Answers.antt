use Rattle.std.proofs.Common.{arith}
use Rattle.lab_tickets.proofs.laws.none_is_taken_twice.Goals as goal

pub returns : goal.returns
returns c = λ items tallies rule x once. let b = rule x in omega (arith, b, once)
