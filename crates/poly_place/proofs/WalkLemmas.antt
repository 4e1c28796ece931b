-- The loops: cells moved one by one, sets added one by one, and lists made with two tests that agree.
use Rattle.std.proofs.Common.{◌≡◌, ℕ, ◌+◌, ◌<◌, List, [], ◌∷◌, ◌++◌, map, length, get_or, take, Bool, true, false, sym, ap, ap₂, subst, ◌∙◌, slice_index, arith, ◌≤◌}
use Rattle.std.specs.List.{list_all, flat_map}
use Rattle.std.proofs.lemmas.List.{take_all, map_more, map-append}
use Rattle.std.proofs.lemmas.List.Folds.{list_all-map, list_all_at}
use Rattle.poly_cells.specs.Coordinates.{Coordinates, coordinates, IsInGrid}
use Rattle.poly_cells.specs.Sets.{IsIn, in_order}
use Rattle.poly_cells.specs.Shapes.{moved, turned}
use Rattle.poly_cells.proofs.CoordinateLemmas.{same_coordinates}
use Rattle.poly_cells.proofs.SetLemmas.{in_map, in_at}
use Rattle.std.proofs.lemmas.List.FromFn.{length-range_with_len, get_or-range_with_len}
use Rattle.poly_cells.proofs.GroupLemmas.{are_rotations}
use Rattle.poly_place.specs.declared.alike.Group.{Group}
use Rattle.poly_place.specs.declared.alike.Group.TheVariants.{Rotations, Symmetries}
use Rattle.poly_place.specs.Placements.{cells_cmp, at_cells, orientations, symmetries, turns_by}
use Rattle.poly_place.specs.Tables.{has_bit}
use Rattle.poly_cells.proofs.MemberLemmas.{passes, same_function}
use Rattle.poly_place.proofs.TableLemmas.{bit_in}

-- ---- cells moved, one by one

-- a loop's item is a member
pub item_in : {X : Type 0} (xs : List X) (i : ℕ) (x : X) → i < length xs → x ≡ get_or xs i x → IsIn x xs
item_in {X} xs i x lt is = subst (λ (y : X). IsIn y xs) (sym is) (in_at xs i x lt)

pub sum_cell : (v d : Coordinates) (x y z a b c : ℕ) → x ≡ v.x → y ≡ v.y → z ≡ v.z → a ≡ d.x → b ≡ d.y → c ≡ d.z → coordinates (x + a) (y + b) (z + c) ≡ moved d v
sum_cell v d x y z a b c p q r s t u = same_coordinates _ _ _ _ _ _ (ap₂ (λ m n. m + n) p s) (ap₂ (λ m n. m + n) q t) (ap₂ (λ m n. m + n) r u)

pub one_outside : (test : Coordinates → Bool) (d : Coordinates) (vs : List Coordinates) (i : ℕ) (v : Coordinates) → i < length vs → v ≡ get_or vs i v → test (moved d v) ≡ false → false ≡ list_all test (map (moved d) vs)
one_outside test d vs i v lt is h =
    sym (list_all-map test (moved d) vs ∙ list_all_at (λ w. test (moved d w)) vs i v lt (ap (λ (w : Coordinates). test (moved d w)) (sym is) ∙ h))

-- where the table has each cell after the move, each is within the limits
pub all_within : (bits : List Bool) (d : Coordinates) (vs : List Coordinates) → list_all (has_bit bits) (map (moved d) vs) ≡ true → (v : Coordinates) → IsIn v vs → IsInGrid (moved d v)
all_within bits d vs h v i = bit_in bits (moved d v) (passes (has_bit bits) (map (moved d) vs) h (moved d v) (in_map (moved d) v vs i))

-- ---- two tests that agree

pub at_cells_same : (p q : Coordinates → Bool) → ((c : Coordinates) → p c ≡ q c) → (cells : List Coordinates) (pieces : List (List Coordinates)) → flat_map (at_cells p cells) pieces ≡ flat_map (at_cells q cells) pieces
at_cells_same p q h cells pieces = ap (λ (r : Coordinates → Bool). flat_map (at_cells r cells) pieces) (same_function p q h)

-- ---- the symmetries, one by one

pub mapped_push : {X Y : Type 0} (f : X → Y) (xs ys : List X) (x : X) (y : Y) → ys ≡ xs ++ x ∷ [] → f x ≡ y → map f ys ≡ map f xs ++ y ∷ []
mapped_push {X} {Y} f xs ys x y push is = ap (map f) push ∙ map-append f xs (x ∷ []) ∙ ap (λ (z : Y). map f xs ++ z ∷ []) is

pub one_turned : (turns : List ℕ) (piece : List Coordinates) (r n : ℕ) (before after : List (List Coordinates)) → r < length turns → n ≡ slice_index turns r → after ≡ before ++ turned n piece ∷ []
    → before ≡ map (λ k. turned k piece) (take r turns) → after ≡ map (λ k. turned k piece) (take (r + 1) turns)
one_turned turns piece r n before after lt is push so =
    push ∙ ap₂ (λ ws (k : ℕ). ws ++ turned k piece ∷ []) so is ∙ sym (map_more (λ k. turned k piece) turns r 0 lt)

pub all_turned : (turns : List ℕ) (piece : List Coordinates) (r : ℕ) (forms : List (List Coordinates)) → length turns ≤ r → forms ≡ map (λ k. turned k piece) (take r turns) → in_order cells_cmp forms ≡ orientations turns piece
unfolding orientations
all_turned turns piece r forms le so = ap (in_order cells_cmp) (so ∙ ap (map (λ k. turned k piece)) (take_all r turns le))

pub rotation_count : (g : Group) → g ≡ Rotations → 24 ≡ length (turns_by g)
rotation_count g e = subst (λ (f : Group). 24 ≡ length (turns_by f)) (sym e) (sym are_rotations.count)

pub rotation_low : (g : Group) (r : ℕ) → g ≡ Rotations → r < length (turns_by g) → r < 24
rotation_low g r e h = let count = rotation_count g e in omega (arith, count, h)

pub symmetry_at : (g : Group) (r n : ℕ) → g ≡ Symmetries → r < length (turns_by g) → n ≡ r → n ≡ slice_index (turns_by g) r
symmetry_at g r n e = subst (λ (f : Group). r < length (turns_by f) → n ≡ r → n ≡ slice_index (turns_by f) r) (sym e) (at_place r n)
  where
    at_place : (r n : ℕ) → r < length symmetries → n ≡ r → n ≡ slice_index symmetries r
    at_place r n h is =
        let long : length symmetries ≡ 48 = length-range_with_len 0 48 in
        let at = get_or-range_with_len 0 48 r 0 (omega (arith, h, long)) in
        omega (arith, is, at)
