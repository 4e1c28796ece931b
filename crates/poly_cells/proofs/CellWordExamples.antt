-- The examples of specs/CellWords.antt, computed.
use Rattle.std.proofs.Common.{◌≡◌, Some, None, codes, refl}
use Rattle.poly_cells.specs.Coordinates.{coordinates}
use Rattle.poly_cells.specs.CellWords.{cell_word, cell_of}

its_word : cell_word (coordinates 0 10 31) ≡ codes "0av"
its_word = refl

a_cell : cell_of (codes "0av") ≡ Some (coordinates 0 10 31)
a_cell = refl

two_symbols : cell_of (codes "0a") ≡ None
two_symbols = refl

above_31 : cell_of (codes "0aw") ≡ None
above_31 = refl

a_capital : cell_of (codes "0A0") ≡ None
a_capital = refl
