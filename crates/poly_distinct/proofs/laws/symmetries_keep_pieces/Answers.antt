use Rattle.poly_distinct.proofs.KeepLemmas.{rotation_keeps, reflection_keeps}
use Rattle.poly_distinct.proofs.laws.symmetries_keep_pieces.Goals as goal

pub returns : goal.returns
returns c = record {
  rotations = λ p group n z k r. rotation_keeps p z group n k r;
  reflections = λ p group n s z k y r. reflection_keeps p z group n k s y r;
}
