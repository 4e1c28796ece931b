use Rattle.std.proofs.Common.{ℕ, take}
use Rattle.poly_cells.specs.Coordinates.{Coordinates}
use Rattle.poly_place.specs.Layers.{AreSymbols, painted}
use Rattle.poly_place.proofs.layer.paint.Given as goal

-- the cells so far are shown
abbrev pub invariant-loop-cell : goal.invariant-loop-cell
invariant-loop-cell l = (f : Coordinates → ℕ) → AreSymbols f l.initial.symbols → AreSymbols (painted f (take l.cell-index l.cells) l.symbol) l.symbols
