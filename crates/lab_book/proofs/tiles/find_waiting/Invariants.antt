use Rattle.lab_book.specs.Index.{WaitFrom}
use Rattle.lab_book.proofs.tiles.find_waiting.Given as goal

abbrev pub invariant-finding : goal.invariant-finding
invariant-finding l = WaitFrom l.place l.list
