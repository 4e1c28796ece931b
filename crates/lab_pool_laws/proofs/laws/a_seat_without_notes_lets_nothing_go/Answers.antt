use Rattle.lab_pool_laws.proofs.NoteLemmas.{nothing_noted}
use Rattle.lab_pool_laws.proofs.laws.a_seat_without_notes_lets_nothing_go.Goals as goal

pub returns : goal.returns
returns c = nothing_noted
