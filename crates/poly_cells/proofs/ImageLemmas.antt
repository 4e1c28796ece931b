-- Turned and normal forms are images of sets of cells over the integers, with their least corner at 0 0 0.
use Rattle.std.proofs.Common.{◌≡◌, ℕ, ◌-◌, ◌<◌, ◌≤◌, Bool, true, false, cond, ◌==◌, List, [], ◌∷◌, map, length, ℤ, pos, neg_ℤ, ◌+ℤ◌, inl, refl, sym, ap, subst, ◌∙◌, arith}
use Rattle.std.proofs.lemmas.Int.{ints}
use Rattle.poly_cells.specs.Coordinates.{Coordinates, IsInGrid, coordinates_cmp}
use Rattle.poly_cells.specs.Points.{Point, point_at, point, translated}
use Rattle.poly_cells.specs.Symmetries.{pick, Matrix, matrix, signed, sent, sent_by}
use Rattle.poly_cells.specs.Turns.{mirrored, turned_by, turn}
use Rattle.poly_cells.specs.Sets.{IsIn, in_order}
use Rattle.poly_cells.specs.Shapes.{AllInGrid, corner, moved_back, normal, turned}
use Rattle.poly_cells.specs.Images.{IsTurned, IsNormal}
use Rattle.poly_cells.proofs.MatrixLemmas.{same_point}
use Rattle.poly_cells.proofs.CoordinateLemmas.{same_coordinates, coordinates_exact}
use Rattle.poly_cells.proofs.SetLemmas.{in_map, in_from_map, in_from_order, in_to_order}
use Rattle.poly_cells.proofs.CornerLemmas.{least_below, least_reached}

-- ---- a turn is a matrix and then a translation

lift_one : Bool → ℤ
lift_one minus = cond minus (pos 31) (pos 0)

-- the translation after the matrix
pub lift : Matrix → Point
lift m = point_at (lift_one m.minus_x) (lift_one m.minus_y) (lift_one m.minus_z)

lifted : (minus : Bool) (c : ℕ) → c ≤ 31 → pos (mirrored minus c) ≡ signed minus (pos c) +ℤ lift_one minus
unfolding lift_one
lifted false c h = omega (arith, ints)
lifted true c h = omega (arith, ints)

picked : (first second minus : Bool) (v : Coordinates) → IsInGrid v
    → pos (mirrored minus (cond first v.x (cond second v.y v.z))) ≡ signed minus (cond first (pos v.x) (cond second (pos v.y) (pos v.z))) +ℤ lift_one minus
picked true second minus v h = lifted minus v.x h.x_in
picked false true minus v h = lifted minus v.y h.y_in
picked false false minus v h = lifted minus v.z h.z_in

row : (f : ℕ) (minus : Bool) (v : Coordinates) → IsInGrid v → pos (mirrored minus (pick f v.x v.y v.z)) ≡ signed minus (pick f (pos v.x) (pos v.y) (pos v.z)) +ℤ lift_one minus
row f minus v h = picked (f == 0) (f == 1) minus v h

turned_is_lifted : (m : Matrix) (v : Coordinates) → IsInGrid v → point (turned_by m v) ≡ translated (lift m) (sent m (point v))
unfolding lift
turned_is_lifted m v h =
    same_point _ _ _ _ _ _ (row m.from_x m.minus_x v h) (row m.from_y m.minus_y v h) (row m.from_z m.minus_z v h)

pub turn_is_lifted : (n : ℕ) (v : Coordinates) → IsInGrid v → point (turn n v) ≡ translated (lift (matrix n)) (sent_by n (point v))
turn_is_lifted n v h = turned_is_lifted (matrix n) v h

mirrored_in : (minus : Bool) (c : ℕ) → c ≤ 31 → mirrored minus c ≤ 31
mirrored_in false c h = h
mirrored_in true c h = omega arith

pub pick_in : (first second : Bool) (v : Coordinates) → IsInGrid v → cond first v.x (cond second v.y v.z) ≤ 31
pick_in true second v h = h.x_in
pick_in false true v h = h.y_in
pick_in false false v h = h.z_in

turned_by_in : (m : Matrix) (v : Coordinates) → IsInGrid v → IsInGrid (turned_by m v)
turned_by_in m v h = record {
  x_in = mirrored_in m.minus_x (pick m.from_x v.x v.y v.z) (pick_in (m.from_x == 0) (m.from_x == 1) v h);
  y_in = mirrored_in m.minus_y (pick m.from_y v.x v.y v.z) (pick_in (m.from_y == 0) (m.from_y == 1) v h);
  z_in = mirrored_in m.minus_z (pick m.from_z v.x v.y v.z) (pick_in (m.from_z == 0) (m.from_z == 1) v h);
}

pub turn_in : (n : ℕ) (v : Coordinates) → IsInGrid v → IsInGrid (turn n v)
turn_in n v h = turned_by_in (matrix n) v h

-- ---- points and translations

pos_same : (m n : ℕ) → pos m ≡ pos n → m ≡ n
pos_same m n h = cc

pub point_same : (v w : Coordinates) → point v ≡ point w → v ≡ w
point_same v w h =
    same_coordinates v.x v.y v.z w.x w.y w.z (pos_same v.x w.x (ap (λ (p : Point). p.x) h)) (pos_same v.y w.y (ap (λ (p : Point). p.y) h)) (pos_same v.z w.z (ap (λ (p : Point). p.z) h))

-- minus the cell's coordinates
pub negated : Coordinates → Point
negated k = point_at (neg_ℤ (pos k.x)) (neg_ℤ (pos k.y)) (neg_ℤ (pos k.z))

pub moved_back_point : (k v : Coordinates) → k.x ≤ v.x → k.y ≤ v.y → k.z ≤ v.z → point (moved_back k v) ≡ translated (negated k) (point v)
unfolding negated
moved_back_point k v x y z = same_point _ _ _ _ _ _ (omega (arith, ints)) (omega (arith, ints)) (omega (arith, ints))

pub translated_twice : (d e v : Point) → translated d (translated e v) ≡ translated (translated d e) v
translated_twice d e v = same_point _ _ _ _ _ _ (omega (arith, ints)) (omega (arith, ints)) (omega (arith, ints))

-- ---- the normal form

below_corner : (vs : List Coordinates) (v : Coordinates) → IsIn v vs → point (moved_back (corner vs) v) ≡ translated (negated (corner vs)) (point v)
below_corner vs v i = moved_back_point (corner vs) v (least_below (λ w. w.x) vs v i) (least_below (λ w. w.y) vs v i) (least_below (λ w. w.z) vs v i)

none_left : (a b : ℕ) → a ≡ b → a - b ≡ 0
none_left a b h = omega arith

pub normal_is : (vs : List Coordinates) → 0 < length vs → AllInGrid vs → IsNormal vs (normal vs)
unfolding normal
normal_is vs some limits = record {
  by = negated (corner vs);
  image = record {
    onto = λ w i. let from = in_from_map (moved_back (corner vs)) w vs i in (from.0, from.1, ap point from.2 ∙ below_corner vs from.0 from.1);
    into = λ v i. (moved_back (corner vs) v, in_map (moved_back (corner vs)) v vs i, below_corner vs v i);
  };
  origin = record {
    x = let r = least_reached (λ w. w.x) vs some (λ v i. (limits v i).x_in) in (moved_back (corner vs) r.0, in_map (moved_back (corner vs)) r.0 vs r.1, none_left r.0.x (corner vs).x r.2);
    y = let r = least_reached (λ w. w.y) vs some (λ v i. (limits v i).y_in) in (moved_back (corner vs) r.0, in_map (moved_back (corner vs)) r.0 vs r.1, none_left r.0.y (corner vs).y r.2);
    z = let r = least_reached (λ w. w.z) vs some (λ v i. (limits v i).z_in) in (moved_back (corner vs) r.0, in_map (moved_back (corner vs)) r.0 vs r.1, none_left r.0.z (corner vs).z r.2);
  };
}

pub normal_by : (vs : List Coordinates) (some : 0 < length vs) (limits : AllInGrid vs) → (normal_is vs some limits).by ≡ negated (corner vs)
unfolding normal_is
normal_by vs some limits = refl

-- a translation back and forth
pub led_forth : (k : Coordinates) (p : Point) → translated (point k) (translated (negated k) p) ≡ p
unfolding negated
led_forth k p = same_point _ _ _ _ _ _ (omega (arith, ints)) (omega (arith, ints)) (omega (arith, ints))

-- ---- the turned form

pub some_from_in : {K : Type 0} (x : K) (xs : List K) → IsIn x xs → 0 < length xs
some_from_in x [] i = absurd i
some_from_in x (y ∷ ys) i = omega arith

pub in_from_some : {K : Type 0} (xs : List K) → 0 < length xs → (x : K) × IsIn x xs
in_from_some [] h = absurd (omega arith)
in_from_some (x ∷ xs) h = (x, inl refl)

-- the images of the cells, in order
abbrev pub turned_set : ℕ → List Coordinates → List Coordinates
turned_set n vs = in_order coordinates_cmp (map (turn n) vs)

pub turned_set_into : (n : ℕ) (vs : List Coordinates) (v : Coordinates) → IsIn v vs → IsIn (turn n v) (turned_set n vs)
turned_set_into n vs v i = in_to_order coordinates_exact (turn n v) (map (turn n) vs) (in_map (turn n) v vs i)

pub turned_set_onto : (n : ℕ) (vs : List Coordinates) (w : Coordinates) → IsIn w (turned_set n vs) → (v : Coordinates) × IsIn v vs × (w ≡ turn n v)
turned_set_onto n vs w i = in_from_map (turn n) w vs (in_from_order coordinates_cmp w (map (turn n) vs) i)

pub turned_set_some : (n : ℕ) (vs : List Coordinates) → 0 < length vs → 0 < length (turned_set n vs)
turned_set_some n vs some = let one = in_from_some vs some in some_from_in (turn n one.0) (turned_set n vs) (turned_set_into n vs one.0 one.1)

pub turned_set_limits : (n : ℕ) (vs : List Coordinates) → AllInGrid vs → AllInGrid (turned_set n vs)
turned_set_limits n vs limits w i =
    let from = turned_set_onto n vs w i in subst IsInGrid (sym from.2) (turn_in n from.0 (limits from.0 from.1))

pub turned_is : (n : ℕ) (vs : List Coordinates) → 0 < length vs → AllInGrid vs → IsTurned n vs (turned n vs)
unfolding turned
turned_is n vs some limits =
    let settled = normal_is (turned_set n vs) (turned_set_some n vs some) (turned_set_limits n vs limits) in
    let d = translated settled.by (lift (matrix n)) in
    record {
      by = d;
      image = record {
        onto = λ w i.
            let u = settled.image.onto w i in
            let v = turned_set_onto n vs u.0 u.1 in
            (v.0, v.1, u.2 ∙ ap (translated settled.by) (ap point v.2 ∙ turn_is_lifted n v.0 (limits v.0 v.1)) ∙ translated_twice settled.by (lift (matrix n)) (sent_by n (point v.0)));
        into = λ v i.
            let u = settled.image.into (turn n v) (turned_set_into n vs v i) in
            (u.0, u.1, u.2 ∙ ap (translated settled.by) (turn_is_lifted n v (limits v i)) ∙ translated_twice settled.by (lift (matrix n)) (sent_by n (point v)));
      };
      origin = settled.origin;
    }
