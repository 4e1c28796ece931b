use Rattle.std.proofs.Common.{◌≡◌, ◌++◌, take}
use Rattle.lab_book.specs.Posted.{stretch_visits}
use Rattle.lab_book.proofs.tile.Tile.add_visits.Given as goal

abbrev pub invariant-loop-place : goal.invariant-loop-place
invariant-loop-place l = l.visits ≡ l.fn.visits ++ stretch_visits (take l.place l.fn.self.stretches)
