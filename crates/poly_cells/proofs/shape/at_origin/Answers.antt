use Rattle.std.proofs.Common.{◌≡◌, List, map, sym, ap, subst, ◌∙◌}
use Rattle.std.specs.List.Sorted.{IsStrictlySortedBy}
use Rattle.poly_cells.specs.Coordinates.{Coordinates, coordinates_cmp}
use Rattle.poly_cells.specs.Shapes.{normal, moved_back, corner}
use Rattle.poly_cells.proofs.ShapeLemmas.{normal_rises}
use Rattle.poly_cells.proofs.shape.at_origin.Goals as goal

-- the cells moved back by their corner are the normal form
settled : (k : Coordinates) (vs ws : List Coordinates) → k ≡ corner vs → ws ≡ map (moved_back k) vs → ws ≡ normal vs
unfolding normal
settled k vs ws least is = is ∙ ap (λ (u : Coordinates). map (moved_back u) vs) least

pub new-requires-clause-rises : goal.new-requires-clause-rises
new-requires-clause-rises c =
    subst (IsStrictlySortedBy coordinates_cmp) (sym (settled _ _ _ c.requires.least c.in_ok-moved.ensures)) (normal_rises _ c.requires.rises)

pub returns : goal.returns
returns c = c.new.ensures ∙ settled _ _ _ c.requires.least c.in_ok-moved.ensures
