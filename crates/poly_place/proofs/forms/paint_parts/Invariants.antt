use Rattle.std.proofs.Common.{◌≡◌, ℕ, List, map, take, length}
use Rattle.poly_cells.specs.Coordinates.{Coordinates}
use Rattle.poly_cells.specs.Shapes.{IsShape}
use Rattle.poly_place.specs.Compiled.{ArePlacesOf}
use Rattle.poly_place.specs.Layers.{painted}
use Rattle.poly_place.proofs.forms.paint_parts.Given as goal

-- the cells so far are of the part
abbrev pub invariant-loop-cell : goal.invariant-loop-cell
invariant-loop-cell l = record {
  shows : (region : List Coordinates) (f : Coordinates → ℕ) → IsShape region → ArePlacesOf region l.places → l.fn.parts.items ≡ map f region
      → l.parts.items ≡ map (painted f (take l.cell-index l.cells) l.part) region;
  long : length l.parts.items ≡ length l.fn.parts.items;
}
