-- The list of placements has exactly the placements of the piece in the region, each once, in order.
use Rattle.std.proofs.Common.{◌≡◌, ℕ, ◌+◌, ◌<◌, List, [], ◌∷◌, map, length, Bool, true, false, cond, ◌&&◌, nat_le, inl, inr, refl, sym, ap, subst, ◌∙◌, arith}
use Rattle.std.specs.List.{list_all, flat_map}
use Rattle.std.specs.List.Sorted.{IsStrictlySortedBy}
use Rattle.std.proofs.lemmas.Bool.{and_from}
use Rattle.std.proofs.lemmas.Bool.Decides.{nat_tests}
use Rattle.poly_cells.specs.Coordinates.{Coordinates, coordinates_cmp}
use Rattle.poly_cells.specs.Points.{point, translated}
use Rattle.poly_cells.specs.Sets.{IsIn, in_order}
use Rattle.poly_cells.specs.Shapes.{IsShape, moved, moved_back, turned}
use Rattle.poly_cells.specs.Images.{IsImage}
use Rattle.poly_cells.proofs.MemberLemmas.{in_flat_map, in_from_flat_map, all_pass, passes}
use Rattle.poly_cells.proofs.SetLemmas.{in_map, in_from_map, in_order_rises, in_from_order, in_to_order}
use Rattle.poly_cells.proofs.ImageLemmas.{turned_is, some_from_in, in_from_some}
use Rattle.poly_cells.proofs.ShapeLemmas.{turned_is_shape}
use Rattle.poly_cells.proofs.CellTestLemmas.{in_from_has, has_from_in}
use Rattle.poly_cells.specs.CellTests.{has_cell}
use Rattle.poly_place.specs.Placements.{cells_cmp, IsPlacement, ArePlacements, is_below, if_inside, at_cell, at_cells, orientations, placements}
use Rattle.poly_place.specs.Tables.{has_bit, IsCellTable}
use Rattle.poly_place.proofs.OrderLemmas.{cells_total, cells_exact}
use Rattle.poly_place.proofs.WalkLemmas.{at_cells_same}
use Rattle.poly_place.proofs.MoveLemmas.{moved_rises, moved_image, moved_by, is_moved}

-- ---- members under a test

in_cond : {X : Type 0} (b : Bool) (x : X) (xs : List X) → b ≡ true → IsIn x xs → IsIn x (cond b xs [])
in_cond true x xs h i = i
in_cond false x xs h i = cc

in_from_cond : {X : Type 0} (b : Bool) (x : X) (xs : List X) → IsIn x (cond b xs []) → (b ≡ true) × IsIn x xs
in_from_cond true x xs i = (refl, i)
in_from_cond false x xs i = absurd i

-- ---- a set of the list is the piece, turned, moved up and inside

-- the set is the piece, moved up, and each of its cells is inside
record IsUp (inside : Coordinates → Bool) (piece set : List Coordinates) : Type 0 where
  by : Coordinates
  same : set ≡ map (moved by) piece
  all : list_all inside set ≡ true

up_from_inside : (inside : Coordinates → Bool) (d : Coordinates) (piece set : List Coordinates) → IsIn set (if_inside inside (map (moved d) piece)) → IsUp inside piece set
up_from_inside inside d piece set i =
    let there = map (moved d) piece in
    let h = in_from_cond (list_all inside there) set (there ∷ []) i in
    elim h.1 [ inl e ↦ record { by = d; same = e; all = subst (λ (s : List Coordinates). list_all inside s ≡ true) (sym e) h.0 } | inr n ↦ absurd n ]

up_from_cell : (inside : Coordinates → Bool) (piece set : List Coordinates) (c : Coordinates) → IsIn set (at_cell inside piece c) → IsUp inside piece set
up_from_cell inside [] set c i = absurd i
up_from_cell inside (f ∷ fs) set c i =
    up_from_inside inside (moved_back f c) (f ∷ fs) set (in_from_cond (is_below f c) set (if_inside inside (map (moved (moved_back f c)) (f ∷ fs))) i).1

-- a turned form of the piece is one of the orientations
in_from_orientations : (turns : List ℕ) (piece turned_piece : List Coordinates) → IsIn turned_piece (orientations turns piece) → (n : ℕ) × IsIn n turns × (turned_piece ≡ turned n piece)
unfolding orientations
in_from_orientations turns piece o i =
    in_from_map (λ n. turned n piece) o turns (in_from_order cells_cmp o (map (λ n. turned n piece) turns) i)

in_orientations : (turns : List ℕ) (piece : List Coordinates) (n : ℕ) → IsIn n turns → IsIn (turned n piece) (orientations turns piece)
unfolding orientations
in_orientations turns piece n i =
    in_to_order cells_exact (turned n piece) (map (λ k. turned k piece) turns) (in_map (λ k. turned k piece) n turns i)

-- the sets of the list, before they are put in order
abbrev all_sets : List ℕ → List Coordinates → List Coordinates → List (List Coordinates)
all_sets turns piece region = flat_map (at_cells (has_cell region) region) (orientations turns piece)

placement_from_up : (turns : List ℕ) (piece region set : List Coordinates) (n : ℕ) → IsShape piece → IsIn n turns → IsUp (has_cell region) (turned n piece) set
    → IsStrictlySortedBy coordinates_cmp set × IsPlacement turns piece region set
placement_from_up turns piece region set n s i u =
    let t = turned_is n piece s.some s.limits in (
      subst (IsStrictlySortedBy coordinates_cmp) (sym u.same) (moved_rises u.by (turned n piece) (turned_is_shape n piece s.some s.limits).rises),
      record {
        symmetry = n;
        by = translated (point u.by) t.by;
        turned = i;
        image = subst (IsImage n (translated (point u.by) t.by) piece) (sym u.same) (moved_image n u.by t.by piece (turned n piece) t.image);
        inside = λ c j. in_from_has region c (passes (has_cell region) set u.all c j);
      },
    )

pub sound : (turns : List ℕ) (piece region set : List Coordinates) → IsShape piece → IsIn set (placements turns piece region) → IsStrictlySortedBy coordinates_cmp set × IsPlacement turns piece region set
unfolding placements
sound turns piece region set s i =
    let o = in_from_flat_map (at_cells (has_cell region) region) set (orientations turns piece) (in_from_order cells_cmp set (all_sets turns piece region) i) in
    let c = in_from_flat_map (at_cell (has_cell region) o.0) set region o.2 in
    let n = in_from_orientations turns piece o.0 o.1 in
    placement_from_up turns piece region set n.0 s n.1 (subst (λ (w : List Coordinates). IsUp (has_cell region) w set) n.2 (up_from_cell (has_cell region) o.0 set c.0 c.2))

-- ---- and each such set is on the list

at_its_cell : (inside : Coordinates → Bool) (f c d : Coordinates) (fs : List Coordinates) → is_below f c ≡ true → moved_back f c ≡ d → list_all inside (map (moved d) (f ∷ fs)) ≡ true
    → IsIn (map (moved d) (f ∷ fs)) (at_cell inside (f ∷ fs) c)
at_its_cell inside f c d fs below back all =
    let there = map (moved d) (f ∷ fs) in
    in_cond (is_below f c) there (if_inside inside (map (moved (moved_back f c)) (f ∷ fs))) below
    (subst (λ (e : Coordinates). IsIn there (if_inside inside (map (moved e) (f ∷ fs)))) (sym back) (in_cond (list_all inside there) there (there ∷ []) all (inl refl)))

le_sum : (m k : ℕ) → nat_le m (m + k) ≡ true
le_sum m k = grind (arith, nat_tests)

below_moved : (d f : Coordinates) → is_below f (moved d f) ≡ true
below_moved d f =
    and_from (nat_le f.x (f.x + d.x)) (nat_le f.y (f.y + d.y) && nat_le f.z (f.z + d.z)) (le_sum f.x d.x)
    (and_from (nat_le f.y (f.y + d.y)) (nat_le f.z (f.z + d.z)) (le_sum f.y d.y) (le_sum f.z d.z))

reached : (region piece : List Coordinates) (d : Coordinates) → 0 < length piece → ((c : Coordinates) → IsIn c (map (moved d) piece) → IsIn c region)
    → IsIn (map (moved d) piece) (at_cells (has_cell region) region piece)
reached region [] d some inside = absurd (omega arith)
reached region (f ∷ fs) d some inside =
    in_flat_map (at_cell (has_cell region) (f ∷ fs)) (map (moved d) (f ∷ fs)) (moved d f) region (inside (moved d f) (inl refl))
    (at_its_cell (has_cell region) f (moved d f) d fs (below_moved d f) (moved_by d f)
    (all_pass (has_cell region) (map (moved d) (f ∷ fs)) (λ c i. has_from_in region c (inside c i))))

in_all_sets : (turns : List ℕ) (piece region : List Coordinates) (n : ℕ) (d : Coordinates) → IsShape piece → IsIn n turns → ((c : Coordinates) → IsIn c (map (moved d) (turned n piece)) → IsIn c region)
    → IsIn (map (moved d) (turned n piece)) (all_sets turns piece region)
in_all_sets turns piece region n d s i inside =
    in_flat_map (at_cells (has_cell region) region) (map (moved d) (turned n piece)) (turned n piece) (orientations turns piece) (in_orientations turns piece n i)
    (reached region (turned n piece) d (turned_is_shape n piece s.some s.limits).some inside)

pub complete : (turns : List ℕ) (piece region set : List Coordinates) → IsShape piece → IsStrictlySortedBy coordinates_cmp set → IsPlacement turns piece region set → IsIn set (placements turns piece region)
unfolding placements
complete turns piece region set s rises p =
    let n = p.symmetry in
    let there = is_moved n piece (turned n piece) set p.by (turned_is n piece s.some s.limits) p.image (turned_is_shape n piece s.some s.limits).rises rises in
    in_to_order cells_exact set (all_sets turns piece region)
    (subst (λ (w : List Coordinates). IsIn w (all_sets turns piece region)) (sym there.same)
    (in_all_sets turns piece region n there.by s p.turned (λ c i. p.inside c (subst (λ (w : List Coordinates). IsIn c w) (sym there.same) i))))

pub placements_rise : (turns : List ℕ) (piece region : List Coordinates) → IsStrictlySortedBy cells_cmp (placements turns piece region)
unfolding placements
placements_rise turns piece region = in_order_rises cells_total (all_sets turns piece region)

pub are_placements : (turns : List ℕ) (piece region : List Coordinates) → IsShape piece → IsShape region → ArePlacements turns piece region (placements turns piece region)
unfolding placements
are_placements turns piece region s r = record {
  rises = placements_rise turns piece region;
  sound = λ set i. sound turns piece region set s i;
  complete = λ set rises some p. complete turns piece region set s rises p;
}

-- ---- what the code finds

-- a placement is a shape
pub placement_is_shape : (turns : List ℕ) (piece region set : List Coordinates) → IsShape piece → IsShape region → IsStrictlySortedBy coordinates_cmp set → IsPlacement turns piece region set → IsShape set
placement_is_shape turns piece region set s r rises p =
    let v = in_from_some piece s.some in
    let w = p.image.into v.0 v.1 in
    record { some = some_from_in w.0 set w.1; rises = rises; limits = λ c i. r.limits c (p.inside c i) }

pub are_shapes : (turns : List ℕ) (piece region : List Coordinates) (sets : List (List Coordinates)) → IsShape piece → IsShape region → sets ≡ placements turns piece region → (set : List Coordinates) → IsIn set sets → IsShape set
are_shapes turns piece region sets s r is set i =
    let h = sound turns piece region set s (subst (λ (ws : List (List Coordinates)). IsIn set ws) is i) in
    placement_is_shape turns piece region set s r h.0 h.1

-- with a table of the region in its place
pub found_placements : (turns : List ℕ) (piece region cells : List Coordinates) (bits read : List Bool) (forms walked sets found : List (List Coordinates))
    → cells ≡ region → IsCellTable cells bits → read ≡ bits → forms ≡ orientations turns piece → walked ≡ forms → sets ≡ flat_map (at_cells (has_bit read) cells) walked → found ≡ in_order cells_cmp sets
    → found ≡ placements turns piece region
unfolding placements
found_placements turns piece region cells bits read forms walked sets found same table reads are walks all sorted =
    sorted ∙ ap (in_order cells_cmp) (all
    ∙ ap (λ b. flat_map (at_cells (has_bit b) cells) walked) reads
    ∙ at_cells_same (has_bit bits) (has_cell cells) table.same cells walked
    ∙ ap (λ vs. flat_map (at_cells (has_cell vs) vs) walked) same
    ∙ ap (flat_map (at_cells (has_cell region) region)) (walks ∙ are))
