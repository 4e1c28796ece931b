use Rattle.std.proofs.Common.{◌++◌, ℕ, List, ap, ap₂, subst, ◌∙◌, sym}
use Rattle.text_lines.specs.Writing.{text_of}
use Rattle.poly_cells.specs.Coordinates.{Coordinates}
use Rattle.poly_cells.specs.Shapes.{corner}
use Rattle.poly_place.specs.Layers.{AreSymbols, symbol_at, layer_lines, layers, far_corner}
use Rattle.poly_place.proofs.layer.layers.Goals as goal

pub returns : goal.returns
unfolding layers
returns c =
    let region = c.cells-cells.ensures.value ∙ c.region.ensures in
    c.in_ok-push_lines.ensures (symbol_at c.args.packing.now) (subst (AreSymbols (symbol_at c.args.packing.now)) (sym c.as_slice.ensures.value) c.in_ok-symbols.ensures)
    ∙ ap₂ (λ (before lines : List ℕ). before ++ lines) c.new-text.ensures.bytes
    (ap₂ (λ (low high : Coordinates). text_of (layer_lines (symbol_at c.args.packing.now) low high)) (c.corner_of.ensures.value ∙ ap corner region) (c.far_corner.ensures ∙ ap far_corner region))
