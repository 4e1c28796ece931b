use Rattle.std.proofs.Common.{◌-◌, drop, length}
use Rattle.poly_place.specs.Layers.{AreSymbols, shown_symbol, symbol_over, ground}
use Rattle.poly_place.proofs.layer.symbols_of.Given as goal

-- the last k placements are shown
abbrev pub invariant-loop-k : goal.invariant-loop-k
invariant-loop-k l = AreSymbols (symbol_over (shown_symbol l.packing) (drop (length l.placements - l.k) l.placements) (ground l.packing.region)) l.symbols.items
