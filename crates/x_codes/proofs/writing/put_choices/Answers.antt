use Rattle.std.proofs.Common.{arith}
use Rattle.x_codes.proofs.StateLemmas.{choices_small}
use Rattle.x_codes.proofs.writing.put_choices.Goals as goal

pub returns-clause-reads : goal.returns-clause-reads
returns-clause-reads c = choices_small _ (λ k l. omega (arith, (c.type_inv.choices k).fits))
