use Rattle.std.proofs.Common.{◌≡◌, take}
use Rattle.drawn_books.proofs.has_tiles.Given as goal

abbrev pub invariant-comparing : goal.invariant-comparing
invariant-comparing l = take l.k l.own ≡ take l.k l.tiles
