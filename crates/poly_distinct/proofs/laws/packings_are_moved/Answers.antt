use Rattle.poly_distinct.proofs.MovedCoverLemmas.{moved_path, moved_alike}
use Rattle.poly_distinct.proofs.laws.packings_are_moved.Goals as goal

pub returns : goal.returns
returns c = λ p group n s q z k keeps e.
    let r = moved_path p z group n k s keeps q e in
    (r.0, r.1, r.2, moved_alike p z group n k s keeps q e r.0 r.1 r.2)
