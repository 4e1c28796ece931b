use Rattle.poly_texts.proofs.KindLemmas.{told_any}
use Rattle.poly_texts.proofs.pieces.is_taken.Goals as goal

pub loop-k-init : goal.loop-k-init
loop-k-init c = told_any (λ k. k.symbols) c.args.kinds.now c.args.name
