use Rattle.poly_distinct.proofs.AllowedLemmas.{are_allowed, have_inverses}
use Rattle.poly_distinct.proofs.laws.allowed_symmetries_are_a_group.Goals as goal

pub returns : goal.returns
returns c = record {
  allowed = λ p group mirrored s t z a mirrors. are_allowed p z group mirrored s mirrors t a;
  inverses = λ p group mirrored s t z a mirrors. have_inverses p z group mirrored s mirrors t a;
}
