-- The example of specs/Layers.antt, computed.
use Rattle.std.proofs.Common.{◌≡◌, [], ◌∷◌, ◌++◌, codes, refl}
use Rattle.poly_cells.specs.Coordinates.{coordinates}
use Rattle.poly_place.specs.Packings.{choice_with}
use Rattle.poly_place.specs.Chosen.{PackingValue}
use Rattle.poly_place.specs.Layers.{layers}

-- the piece A at 0 0 0 and 1 0 0, in the region 0 0 0, 1 0 0, 2 0 0
strip : PackingValue
strip = record {
  region = coordinates 0 0 0 ∷ coordinates 1 0 0 ∷ coordinates 2 0 0 ∷ [];
  maybe_cells = coordinates 2 0 0 ∷ [];
  placements = choice_with 65 (coordinates 0 0 0 ∷ coordinates 1 0 0 ∷ []) ∷ [];
  symbols = [];
}

its_layers : layers strip ≡ codes "AA_" ++ 10 ∷ []
unfolding layers strip
its_layers = refl

-- three copies of a cell A, which are shown by A and B in turn
copies : PackingValue
copies = record {
  region = coordinates 0 0 0 ∷ coordinates 1 0 0 ∷ coordinates 2 0 0 ∷ [];
  maybe_cells = [];
  placements = choice_with 65 (coordinates 0 0 0 ∷ []) ∷ choice_with 65 (coordinates 1 0 0 ∷ []) ∷ choice_with 65 (coordinates 2 0 0 ∷ []) ∷ [];
  symbols = (65 ∷ 66 ∷ []) ∷ [];
}

shown_in_turn : layers copies ≡ codes "ABA" ++ 10 ∷ []
unfolding layers copies
shown_in_turn = refl
