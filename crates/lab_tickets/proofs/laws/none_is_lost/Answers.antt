use Rattle.std.proofs.Common.{arith}
use Rattle.lab_tickets.proofs.laws.none_is_lost.Goals as goal

pub returns : goal.returns
returns c = λ tallies rule x. let b = rule x in omega (arith, b)
