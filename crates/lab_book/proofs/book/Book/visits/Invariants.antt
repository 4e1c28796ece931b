use Rattle.std.proofs.Common.{◌≡◌, take}
use Rattle.lab_book.specs.Posted.{posted_visits}
use Rattle.lab_book.proofs.book.Book.visits.Given as goal

abbrev pub invariant-loop-tile : goal.invariant-loop-tile
invariant-loop-tile l = l.visits ≡ posted_visits (take l.tile-index l.fn.self.tiles)
