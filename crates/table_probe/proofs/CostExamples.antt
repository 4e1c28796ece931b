-- The example of specs/Costs.antt.
use Rattle.std.proofs.Common.{◌≡◌, refl}
use Rattle.table_probe.specs.declared.costs.Costs.{Costs}
use Rattle.table_probe.specs.Costs.{links_cost, bits_cost}

abbrev few : Costs
few = record { chosen = 2; looked = 10; hidden = 5; looked_words = 10; written_words = 3; row_words = 2 }

links_pay : links_cost few ≡ 180
links_pay = refl

bits_pay : bits_cost few ≡ 181
bits_pay = refl
