-- The tests on cells say what their names say.
use Rattle.std.proofs.Common.{◌≡◌, List, true, ◌&&◌, nat_le, refl, sym, subst, ◌∙◌, arith}
use Rattle.std.specs.List.{list_all}
use Rattle.std.specs.Cmp.{both_ways as same_tests}
use Rattle.std.proofs.lemmas.Bool.{and_parts}
use Rattle.std.proofs.lemmas.Bool.Decides.{nat_tests}
use Rattle.poly_cells.specs.Coordinates.{Coordinates, IsInGrid, coordinates_cmp}
use Rattle.poly_cells.specs.CellTests.{is_same, has_cell, is_in_grid}
use Rattle.poly_cells.specs.Sets.{IsIn, in_order}
use Rattle.poly_cells.specs.Shapes.{AllInGrid}
use Rattle.poly_cells.proofs.SetLemmas.{in_order_rises, in_from_order, in_to_order, same_members}
use Rattle.poly_cells.proofs.CoordinateLemmas.{coordinates_total, coordinates_exact, is_same_Decides}
use Rattle.poly_cells.proofs.MemberLemmas.{some_passes, passes_some, passes}

-- *members*

pub in_from_has : (cells : List Coordinates) (c : Coordinates) → has_cell cells c ≡ true → IsIn c cells
in_from_has cells c h = let d = some_passes (is_same c) cells h in subst (λ v. IsIn v cells) (sym ((is_same_Decides c d.0).0 d.2)) d.1

pub has_from_in : (cells : List Coordinates) (c : Coordinates) → IsIn c cells → has_cell cells c ≡ true
has_from_in cells c i = passes_some (is_same c) c cells i ((is_same_Decides c c).1 refl)

pub is_same_symmetric : (v w : Coordinates) → is_same v w ≡ is_same w v
is_same_symmetric v w = grind (arith, nat_tests)

-- the same cells in order are the same list
pub same_in_order : (xs ys : List Coordinates) → ((c : Coordinates) → has_cell xs c ≡ has_cell ys c) → in_order coordinates_cmp xs ≡ in_order coordinates_cmp ys
same_in_order xs ys h =
    same_members coordinates_total (in_order coordinates_cmp xs) (in_order coordinates_cmp ys) (in_order_rises coordinates_total xs) (in_order_rises coordinates_total ys)
    (λ c i. in_to_order coordinates_exact c ys (in_from_has ys c (sym (h c) ∙ has_from_in xs c (in_from_order coordinates_cmp c xs i))))
    (λ c i. in_to_order coordinates_exact c xs (in_from_has xs c (h c ∙ has_from_in ys c (in_from_order coordinates_cmp c ys i))))

pub has_ordered : (cells : List Coordinates) (c : Coordinates) → has_cell (in_order coordinates_cmp cells) c ≡ has_cell cells c
has_ordered cells c = same_tests (has_cell (in_order coordinates_cmp cells) c) (has_cell cells c)
    (λ h. has_from_in cells c (in_from_order coordinates_cmp c cells (in_from_has (in_order coordinates_cmp cells) c h)))
    (λ h. has_from_in (in_order coordinates_cmp cells) c (in_to_order coordinates_exact c cells (in_from_has cells c h)))

-- *the limits*

pub in_grid_from : (c : Coordinates) → is_in_grid c ≡ true → IsInGrid c
in_grid_from c h =
    let p = and_parts (nat_le c.x 31) (nat_le c.y 31 && nat_le c.z 31) h in
    let q = and_parts (nat_le c.y 31) (nat_le c.z 31) p.1 in
    record { x_in = grind (arith, nat_tests); y_in = grind (arith, nat_tests); z_in = grind (arith, nat_tests) }

pub all_in_grid_from : (cs : List Coordinates) → list_all is_in_grid cs ≡ true → AllInGrid cs
all_in_grid_from cs h c i = in_grid_from c (passes is_in_grid cs h c i)
