use Rattle.packed_rows.specs.Pieces.{IsFound}
use Rattle.packed_rows.proofs.draft.find.Given as goal

abbrev pub invariant-finding : goal.invariant-finding
invariant-finding l = IsFound l.block l.list l.found.0 l.found.1
