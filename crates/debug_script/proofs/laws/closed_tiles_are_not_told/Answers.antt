use Rattle.debug_script.proofs.AlikeLemmas.{replies_alike}
use Rattle.debug_script.proofs.laws.closed_tiles_are_not_told.Goals as goal

pub returns : goal.returns
returns c = λ a b lines k. replies_alike lines 0 a b k
