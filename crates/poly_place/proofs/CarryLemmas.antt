-- Where the symmetries of a region bring its cells: they are a group of maps of the region onto itself.
use Rattle.std.proofs.Common.{◌≡◌, ℕ, ◌<◌, Bool, true, false, cond, ◌==◌, List, map, ℤ, pos, neg_ℤ, ◌+ℤ◌, refl, sym, ap, subst, ◌∙◌, arith}
use Rattle.std.proofs.lemmas.Int.{ints}
use Rattle.poly_cells.specs.Coordinates.{Coordinates, IsInGrid}
use Rattle.poly_cells.specs.Points.{Point, point_at, point, translated}
use Rattle.poly_cells.specs.Symmetries.{pick, Matrix, matrix, signed, sent, sent_by, IsComposed, is_rotation}
use Rattle.poly_cells.specs.Products.{composed, inverse_of}
use Rattle.poly_cells.specs.Turns.{turn}
use Rattle.poly_cells.specs.Sets.{IsIn}
use Rattle.poly_cells.specs.Shapes.{AllInGrid, IsShape, corner, moved_back, normal}
use Rattle.poly_cells.specs.Images.{IsImage, IsTranslate, HasSymmetry}
use Rattle.poly_cells.proofs.MatrixLemmas.{same_point}
use Rattle.poly_cells.proofs.SetLemmas.{in_map, in_from_map}
use Rattle.poly_cells.proofs.CornerLemmas.{least_below}
use Rattle.poly_cells.proofs.ImageLemmas.{lift, turn_is_lifted, turn_in, point_same, negated, moved_back_point, translated_twice, normal_is, normal_by, led_forth, some_from_in}
use Rattle.poly_cells.proofs.RegionLemmas.{across, led_across, at_rest}
use Rattle.poly_cells.proofs.SymmetryTables.{composed_in, is_composed, inverse_in, undone_before, neutral, rotation_composed, rotation_inverse}
use Rattle.poly_cells.specs.CellTests.{has_cell}
use Rattle.poly_place.specs.declared.alike.Group.{Group}
use Rattle.poly_place.specs.declared.alike.Group.TheVariants.{Rotations, Symmetries}
use Rattle.poly_place.specs.Classes.{is_member}
use Rattle.poly_place.specs.ClassCount.{image_in}
use Rattle.poly_place.specs.Forms.{IsKept}
use Rattle.poly_place.proofs.MoveLemmas.{moved_point}
use Rattle.poly_cells.proofs.MemberLemmas.{same_at, same_map}
use mathlib.Core.List.{map-map}

-- ---- a symmetry sends sums to sums

signed_sum : (minus : Bool) (a b : ℤ) → signed minus (a +ℤ b) ≡ signed minus a +ℤ signed minus b
signed_sum false a b = refl
signed_sum true a b = omega (arith, ints)

pick_sum : (first second minus : Bool) (v d : Point)
    → signed minus (cond first (v.x +ℤ d.x) (cond second (v.y +ℤ d.y) (v.z +ℤ d.z))) ≡ signed minus (cond first v.x (cond second v.y v.z)) +ℤ signed minus (cond first d.x (cond second d.y d.z))
pick_sum true second minus v d = signed_sum minus v.x d.x
pick_sum false true minus v d = signed_sum minus v.y d.y
pick_sum false false minus v d = signed_sum minus v.z d.z

row_sum : (f : ℕ) (minus : Bool) (v d : Point) → signed minus (pick f (v.x +ℤ d.x) (v.y +ℤ d.y) (v.z +ℤ d.z)) ≡ signed minus (pick f v.x v.y v.z) +ℤ signed minus (pick f d.x d.y d.z)
row_sum f minus v d = pick_sum (f == 0) (f == 1) minus v d

sent_sum : (m : Matrix) (d v : Point) → sent m (translated d v) ≡ translated (sent m d) (sent m v)
sent_sum m d v = same_point _ _ _ _ _ _ (row_sum m.from_x m.minus_x v d) (row_sum m.from_y m.minus_y v d) (row_sum m.from_z m.minus_z v d)

-- ---- one after the other, and back

pub one_after : (a b c : ℕ) → IsComposed a b c → (d e p : Point) → translated d (sent_by a (translated e (sent_by b p))) ≡ translated (translated d (sent_by a e)) (sent_by c p)
one_after a b c is d e p =
    ap (translated d) (sent_sum (matrix a) e (sent_by b p))
    ∙ translated_twice d (sent_by a e) (sent_by a (sent_by b p))
    ∙ ap (translated (translated d (sent_by a e))) (sym (is p))

-- the translation back
abbrev pub minus : Point → Point
minus d = point_at (neg_ℤ d.x) (neg_ℤ d.y) (neg_ℤ d.z)

taken_back : (d p : Point) → translated (minus d) (translated d p) ≡ p
taken_back d p = same_point _ _ _ _ _ _ (omega (arith, ints)) (omega (arith, ints)) (omega (arith, ints))

pub undone : (n c : ℕ) → IsComposed c n 0 → (d p : Point) → translated (sent_by c (minus d)) (sent_by c (translated d (sent_by n p))) ≡ p
undone n c is d p =
    sym (sent_sum (matrix c) (minus d) (translated d (sent_by n p)))
    ∙ ap (sent_by c) (taken_back d (sent_by n p))
    ∙ sym (is p)
    ∙ neutral p

pub image_composed : (a b c : ℕ) (d e : Point) (us vs ws : List Coordinates) → IsComposed a b c → IsImage a d vs ws → IsImage b e us vs → IsImage c (translated d (sent_by a e)) us ws
image_composed a b c d e us vs ws is first second = record {
  onto = λ w i.
      let u = first.onto w i in
      let v = second.onto u.0 u.1 in
      (v.0, v.1, u.2 ∙ ap (λ p. translated d (sent_by a p)) v.2 ∙ one_after a b c is d e (point v.0));
  into = λ v i.
      let u = second.into v i in
      let w = first.into u.0 u.1 in
      (w.0, w.1, w.2 ∙ ap (λ p. translated d (sent_by a p)) u.2 ∙ one_after a b c is d e (point v));
}

pub image_undone : (n c : ℕ) (d : Point) (vs ws : List Coordinates) → IsComposed c n 0 → IsImage n d vs ws → IsImage c (sent_by c (minus d)) ws vs
image_undone n c d vs ws is image = record {
  onto = λ w i. let v = image.into w i in (v.0, v.1, sym (ap (λ p. translated (sent_by c (minus d)) (sent_by c p)) v.2 ∙ undone n c is d (point w)));
  into = λ v i. let w = image.onto v i in (w.0, w.1, sym (ap (λ p. translated (sent_by c (minus d)) (sent_by c p)) w.2 ∙ undone n c is d (point w.0)));
}

pub nothing : Point
nothing = point_at (pos 0) (pos 0) (pos 0)

at_rest_there : (p : Point) → translated nothing (sent_by 0 p) ≡ p
unfolding nothing
at_rest_there p = ap (translated nothing) (neutral p) ∙ same_point _ _ _ _ _ _ (omega (arith, ints)) (omega (arith, ints)) (omega (arith, ints))

pub image_neutral : (vs : List Coordinates) → IsImage 0 nothing vs vs
image_neutral vs = record {
  onto = λ w i. (w, i, sym (at_rest_there (point w)));
  into = λ v i. (v, i, sym (at_rest_there (point v)));
}

-- ---- where a symmetry of the region brings a cell

turned_in : (n : ℕ) (vs : List Coordinates) → AllInGrid vs → AllInGrid (map (turn n) vs)
turned_in n vs limits w i = let v = in_from_map (turn n) w vs i in subst IsInGrid (sym v.2) (turn_in n v.0 (limits v.0 v.1))

-- the region's cells turned and moved to the origin are the region moved to the origin
abbrev settles : List Coordinates → ℕ → Type 0
settles vs n = (v : Coordinates) → IsIn v vs → (d : Point) → IsImage n d vs vs
    → translated (negated (corner (map (turn n) vs))) (point (turn n v)) ≡ translated (negated (corner vs)) (translated d (sent_by n (point v)))

both_settle : (vs : List Coordinates) (n : ℕ) → IsShape vs → settles vs n
both_settle vs n s v i d h =
    let there = in_map (turn n) v vs i in
    let t = normal_is (map (turn n) vs) (some_from_in (turn n v) (map (turn n) vs) there) (turned_in n vs s.limits) in
    let m = normal_is vs s.some s.limits in
    let b = translated t.by (lift (matrix n)) in
    let e = across b d m.by in
    let lifted : (u : Coordinates) → IsIn u vs → (w : Coordinates) → point w ≡ translated t.by (point (turn n u)) → point w ≡ translated b (sent_by n (point u)) =
    λ u j w q. q ∙ ap (translated t.by) (turn_is_lifted n u (s.limits u j)) ∙ translated_twice t.by (lift (matrix n)) (sent_by n (point u)) in
    let shift : IsTranslate e (normal (map (turn n) vs)) (normal vs) = record {
      onto = λ u j.
          let r = m.image.onto u j in
          let x = h.onto r.0 r.1 in
          let w = t.image.into (turn n x.0) (in_map (turn n) x.0 vs x.1) in
          (w.0, w.1, led_across (point w.0) (sent_by n (point x.0)) (point r.0) (point u) b d m.by (lifted x.0 x.1 w.0 w.2) x.2 r.2);
      into = λ w j.
          let y = t.image.onto w j in
          let x = in_from_map (turn n) y.0 vs y.1 in
          let r = h.into x.0 x.1 in
          let u = m.image.into r.0 r.1 in
          (u.0, u.1, led_across (point w) (sent_by n (point x.0)) (point r.0) (point u.0) b d m.by (lifted x.0 x.1 w (y.2 ∙ ap (λ c. translated t.by (point c)) x.2)) r.2 u.2);
    } in
    let rest = at_rest (normal (map (turn n) vs)) (normal vs) e t.origin m.origin shift in
    let w = t.image.into (turn n v) there in
    let r = h.into v i in
    let u = m.image.into r.0 r.1 in
    ap (λ p. translated p (point (turn n v))) (sym (normal_by (map (turn n) vs) (some_from_in (turn n v) (map (turn n) vs) there) (turned_in n vs s.limits)))
    ∙ sym w.2
    ∙ sym (rest (point w.0))
    ∙ sym (led_across (point w.0) (sent_by n (point v)) (point r.0) (point u.0) b d m.by (lifted v i w.0 w.2) r.2 u.2)
    ∙ u.2
    ∙ ap (translated m.by) r.2
    ∙ ap (λ p. translated p (translated d (sent_by n (point v)))) (normal_by vs s.some s.limits)

pub image_point : (vs : List Coordinates) (n : ℕ) → IsShape vs → (d : Point) → IsImage n d vs vs → (v : Coordinates) → IsIn v vs → point (image_in vs n v) ≡ translated d (sent_by n (point v))
unfolding image_in
image_point vs n s d h v i =
    let there = in_map (turn n) v vs i in
    let k = corner (map (turn n) vs) in
    moved_point (corner vs) (moved_back k (turn n v))
    ∙ ap (translated (point (corner vs)))
    (moved_back_point k (turn n v) (least_below (λ w. w.x) (map (turn n) vs) (turn n v) there) (least_below (λ w. w.y) (map (turn n) vs) (turn n v) there) (least_below (λ w. w.z) (map (turn n) vs) (turn n v) there)
    ∙ both_settle vs n s v i d h)
    ∙ led_forth (corner vs) (translated d (sent_by n (point v)))

-- the one cell to which the cell is brought
pub image_is : (vs : List Coordinates) (n : ℕ) → IsShape vs → (d : Point) → IsImage n d vs vs → (v w : Coordinates) → IsIn v vs → point w ≡ translated d (sent_by n (point v)) → w ≡ image_in vs n v
image_is vs n s d h v w i e = point_same w (image_in vs n v) (e ∙ sym (image_point vs n s d h v i))

pub image_stays : (vs : List Coordinates) (n : ℕ) → IsShape vs → HasSymmetry n vs → (v : Coordinates) → IsIn v vs → IsIn (image_in vs n v) vs
image_stays vs n s h v i =
    let w = h.1.into v i in
    subst (λ c. IsIn c vs) (image_is vs n s h.0 h.1 v w.0 i w.2) w.1

-- ---- maps over two lists

pub maps_at : {X Y Z : Type 0} (a : Y → Z) (f : X → Y) (b : X → Z) (xs : List X) → map a (map f xs) ≡ map b xs → (x : X) → IsIn x xs → a (f x) ≡ b x
maps_at a f b xs h = same_at (λ x. a (f x)) b xs (sym (map-map a f xs) ∙ h)

pub maps_are : {X Y Z : Type 0} (a : Y → Z) (f : X → Y) (b : X → Z) (xs : List X) → ((x : X) → IsIn x xs → a (f x) ≡ b x) → map a (map f xs) ≡ map b xs
maps_are a f b xs h = map-map a f xs ∙ same_map (λ x. a (f x)) b xs h

-- ---- the symmetries that count are a group

pub kept_stays : (group : Group) (vs ms : List Coordinates) (n : ℕ) → IsShape vs → IsKept group vs ms n → (v : Coordinates) → IsIn v vs → IsIn (image_in vs n v) vs
kept_stays group vs ms n s k v i = image_stays vs n s k.symmetry v i

kept_marks : (group : Group) (vs ms : List Coordinates) (n : ℕ) → IsKept group vs ms n → (v : Coordinates) → IsIn v vs → has_cell ms (image_in vs n v) ≡ has_cell ms v
kept_marks group vs ms n k v i = maps_at (has_cell ms) (image_in vs n) (has_cell ms) vs k.optional v i

neutral_member : (group : Group) → is_member group 0 ≡ true
unfolding is_rotation matrix
neutral_member Rotations = refl
neutral_member Symmetries = refl

composed_member : (group : Group) (a b : ℕ) → a < 48 → b < 48 → is_member group a ≡ true → is_member group b ≡ true → is_member group (composed a b) ≡ true
composed_member Rotations a b la lb p q = rotation_composed a b la lb p q
composed_member Symmetries a b la lb p q = refl

inverse_member : (group : Group) (n : ℕ) → n < 48 → is_member group n ≡ true → is_member group (inverse_of n) ≡ true
inverse_member Rotations n l p = rotation_inverse n l p
inverse_member Symmetries n l p = refl

pub neutral_stays : (vs : List Coordinates) → IsShape vs → (v : Coordinates) → IsIn v vs → image_in vs 0 v ≡ v
neutral_stays vs s v i = sym (image_is vs 0 s nothing (image_neutral vs) v v i (sym (at_rest_there (point v))))

pub neutral_kept : (group : Group) (vs ms : List Coordinates) → IsShape vs → IsKept group vs ms 0
neutral_kept group vs ms s = record {
  limit = omega arith;
  member = neutral_member group;
  symmetry = (nothing, image_neutral vs);
  optional = maps_are (has_cell ms) (image_in vs 0) (has_cell ms) vs (λ v i. ap (has_cell ms) (neutral_stays vs s v i));
}

composed_image : (vs : List Coordinates) (a b c : ℕ) → IsShape vs → IsComposed a b c → (p : HasSymmetry a vs) → (q : HasSymmetry b vs) → (v : Coordinates) → IsIn v vs
    → image_in vs c v ≡ image_in vs a (image_in vs b v)
composed_image vs a b c s is p q v i =
    sym (image_is vs c s (translated p.0 (sent_by a q.0)) (image_composed a b c p.0 q.0 vs vs vs is p.1 q.1) v (image_in vs a (image_in vs b v)) i
    (image_point vs a s p.0 p.1 (image_in vs b v) (image_stays vs b s q v i)
    ∙ ap (λ x. translated p.0 (sent_by a x)) (image_point vs b s q.0 q.1 v i)
    ∙ one_after a b c is p.0 q.0 (point v)))

pub kept_composed : (group : Group) (vs ms : List Coordinates) (a b : ℕ) → IsShape vs → IsKept group vs ms a → IsKept group vs ms b
    → (c : ℕ) × IsKept group vs ms c × ((v : Coordinates) → IsIn v vs → image_in vs c v ≡ image_in vs a (image_in vs b v))
kept_composed group vs ms a b s p q =
    let is = is_composed a b p.limit q.limit in
    let same : (v : Coordinates) → IsIn v vs → image_in vs (composed a b) v ≡ image_in vs a (image_in vs b v) = composed_image vs a b (composed a b) s is p.symmetry q.symmetry in (
      composed a b,
      record {
        limit = composed_in a b p.limit q.limit;
        member = composed_member group a b p.limit q.limit p.member q.member;
        symmetry = (translated p.symmetry.0 (sent_by a q.symmetry.0), image_composed a b (composed a b) p.symmetry.0 q.symmetry.0 vs vs vs is p.symmetry.1 q.symmetry.1);
        optional = maps_are (has_cell ms) (image_in vs (composed a b)) (has_cell ms) vs
            (λ v i. ap (has_cell ms) (same v i) ∙ kept_marks group vs ms a p (image_in vs b v) (kept_stays group vs ms b s q v i) ∙ kept_marks group vs ms b q v i);
      },
      same,
    )

pub kept_inverse : (group : Group) (vs ms : List Coordinates) (n : ℕ) → IsShape vs → IsKept group vs ms n
    → (c : ℕ) × IsKept group vs ms c × ((v : Coordinates) → IsIn v vs → image_in vs n (image_in vs c v) ≡ v)
kept_inverse group vs ms n s k =
    let c = inverse_of n in
    let is = undone_before n k.limit in
    let d = k.symmetry.0 in
    let image = image_undone n c d vs vs is k.symmetry.1 in
    let back : (v : Coordinates) → IsIn v vs → image_in vs n (image_in vs c v) ≡ v = λ v i.
    let w = k.symmetry.1.onto v i in
    let there : w.0 ≡ image_in vs c v = image_is vs c s (sent_by c (minus d)) image v w.0 i (sym (ap (λ p. translated (sent_by c (minus d)) (sent_by c p)) w.2 ∙ undone n c is d (point w.0))) in
    ap (image_in vs n) (sym there) ∙ sym (image_is vs n s d k.symmetry.1 w.0 v w.1 w.2) in (
      c,
      record {
        limit = inverse_in n k.limit;
        member = inverse_member group n k.limit k.member;
        symmetry = (sent_by c (minus d), image);
        optional = maps_are (has_cell ms) (image_in vs c) (has_cell ms) vs
            (λ v i. sym (kept_marks group vs ms n k (image_in vs c v) (image_stays vs c s (sent_by c (minus d), image) v i)) ∙ ap (has_cell ms) (back v i));
      },
      back,
    )
