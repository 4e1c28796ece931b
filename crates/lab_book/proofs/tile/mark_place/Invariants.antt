use Rattle.x_steps.specs.StateView.{state_value}
use Rattle.lab_book.proofs.MarkLemmas.{IsSought}
use Rattle.lab_book.proofs.tile.mark_place.Given as goal

abbrev pub invariant-looking : goal.invariant-looking
invariant-looking l = IsSought (state_value l.state) (state_value l.first) l.stretches l.place l.found
