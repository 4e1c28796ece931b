-- Lists of which nothing comes twice, compared by length, and how many cells a placement has.
use Rattle.std.proofs.Common.{◌≡◌, ℕ, ◌+◌, ◌<◌, ◌≤◌, ◌⊎◌, List, [], ◌∷◌, length, inl, inr, refl, sym, ap, subst, ◌∙◌, arith}
use Rattle.std.specs.List.{sum_by}
use Rattle.std.proofs.lemmas.List.Sums.{sum_by-cons}
use Rattle.std.proofs.lemmas.Int.{ints}
use Rattle.poly_cells.specs.Coordinates.{Coordinates}
use Rattle.poly_cells.specs.Points.{Point, point, translated}
use Rattle.poly_cells.specs.Sets.{IsIn}
use Rattle.poly_cells.specs.Products.{inverse_of}
use Rattle.poly_cells.specs.Symmetries.{sent_by}
use Rattle.poly_cells.specs.Images.{IsImage}
use Rattle.poly_cells.proofs.CoordinateLemmas.{coordinates_total}
use Rattle.poly_cells.proofs.GroupLemmas.{rotation_from_in}
use Rattle.poly_cells.proofs.ImageLemmas.{point_same}
use Rattle.poly_cells.proofs.MemberLemmas.{in_from_range}
use Rattle.poly_cells.proofs.SetLemmas.{in_map}
use Rattle.poly_cells.proofs.SymmetryTables.{neutral, undone_before}
use Rattle.poly_texts.specs.Puzzle.{PuzzleValue, names_of}
use Rattle.poly_place.specs.declared.alike.Group.{Group}
use Rattle.poly_place.specs.declared.alike.Group.TheVariants.{Rotations, Symmetries}
use Rattle.poly_place.specs.Placements.{turns_by}
use Rattle.poly_place.specs.Packings.{ChoiceValue, turning_group, IsPlaced}
use Rattle.poly_place.proofs.DistinctLemmas.{IsDistinct, distinct_rising}
use Rattle.poly_place.proofs.PlacedLemmas.{HasShapes}

-- ---- sums

-- the list without one of its members
record IsWithout {Y : Type 0} (g : Y → ℕ) (y : Y) (ys : List Y) : Type 0 where
  rest : List Y
  total : sum_by g ys ≡ g y + sum_by g rest
  others : (z : Y) → IsIn z ys → (z ≡ y) ⊎ IsIn z rest

without : {Y : Type 0} (g : Y → ℕ) (y : Y) (ys : List Y) → IsIn y ys → IsWithout g y ys
without g y [] i = absurd i
without {Y} g y (x ∷ xs) i =
    elim i [
      | inl e ↦ record {
        rest = xs;
        total = sum_by-cons g x xs ∙ ap (λ (z : Y). g z + sum_by g xs) (sym e);
        others = λ z j. elim j [ inl f ↦ inl (f ∙ sym e) | inr r ↦ inr r ];
      }
      | inr r ↦
          let w = without g y xs r in
          let here = w.total in
          let cons = sum_by-cons g x xs in
          let more = sum_by-cons g x w.rest in
          record {
            rest = x ∷ w.rest;
            total = omega (arith, here, cons, more);
            others = λ z j. elim j [ inl f ↦ inr (inl f) | inr s ↦ elim (w.others z s) [ inl f ↦ inl f | inr t ↦ inr (inr t) ] ];
          }
    ]

-- each member of a list has a partner of the same weight in the other list, and no two have one partner
pub sum_below : {X Y : Type 0} (Pairs : X → Y → Type 0) (f : X → ℕ) (g : Y → ℕ) → ((a b : X) (y : Y) → Pairs a y → Pairs b y → a ≡ b) → ((x : X) (y : Y) → Pairs x y → f x ≡ g y)
    → (xs : List X) (ys : List Y) → IsDistinct xs → ((x : X) → IsIn x xs → (y : Y) × IsIn y ys × Pairs x y) → sum_by f xs ≤ sum_by g ys
sum_below Pairs f g one even [] ys d each = omega arith
sum_below {X} {Y} Pairs f g one even (x ∷ xs) ys d each =
    let mine = each x (inl refl) in
    let w = without g mine.0 ys mine.1 in
    let later : (z : X) → IsIn z xs → (y : Y) × IsIn y w.rest × Pairs z y = λ z i.
    let its = each z (inr i) in
    elim (w.others its.0 its.1) [
      | inl e ↦ absurd (d.0 (subst (λ (k : X). IsIn k xs) (one z x mine.0 (subst (λ (y : Y). Pairs z y) e its.2) mine.2) i))
      | inr r ↦ (its.0, r, its.2)
    ] in
    let rest = sum_below Pairs f g one even xs w.rest d.1 later in
    let first = even x mine.0 mine.2 in
    let total = w.total in
    let cons = sum_by-cons f x xs in
    omega (arith, rest, first, total, cons)

pub ones : {X : Type 0} (xs : List X) → sum_by (λ x. 1) xs ≡ length xs
ones [] = refl
ones (x ∷ xs) = let rest = ones xs in let cons = sum_by-cons (λ y. 1) x xs in omega (arith, rest, cons)

-- lists in which nothing comes twice, with the same members, are equally long
pub short : {X : Type 0} (xs ys : List X) → IsDistinct xs → ((x : X) → IsIn x xs → IsIn x ys) → length xs ≤ length ys
short {X} xs ys d each =
    let below = sum_below (λ (a b : X). a ≡ b) (λ (x : X). 1) (λ (x : X). 1) (λ a b y e f. e ∙ sym f) (λ x y e. refl) xs ys d (λ x i. (x, each x i, refl)) in
    let one = ones xs in
    let two = ones ys in
    omega (arith, below, one, two)

-- ---- a placement has as many cells as the piece

untranslated : (d a b : Point) → translated d a ≡ translated d b → a ≡ b
untranslated d a b e = λ i. record { x = x_same i; y = y_same i; z = z_same i }
  where
    x_same : a.x ≡ b.x
    x_same = omega (arith, ints, ap (λ (u : Point). u.x) e)

    y_same : a.y ≡ b.y
    y_same = omega (arith, ints, ap (λ (u : Point). u.y) e)

    z_same : a.z ≡ b.z
    z_same = omega (arith, ints, ap (λ (u : Point). u.z) e)

unsent : (n : ℕ) → n < 48 → (a b : Point) → sent_by n a ≡ sent_by n b → a ≡ b
unsent n low a b e =
    sym (sym (undone_before n low a) ∙ neutral a) ∙ ap (sent_by (inverse_of n)) e ∙ (sym (undone_before n low b) ∙ neutral b)

pub low_turn : (g : Group) (n : ℕ) → IsIn n (turns_by g) → n < 48
low_turn Rotations n i = (rotation_from_in n i).0
low_turn Symmetries n i = in_from_range n 0 48 i

pub size_is : (n : ℕ) (d : Point) (vs ws : List Coordinates) → n < 48 → IsDistinct vs → IsDistinct ws → IsImage n d vs ws → length ws ≡ length vs
size_is n d vs ws low dv dw h =
    let up = sum_below (λ (w v : Coordinates). point w ≡ translated d (sent_by n (point v))) (λ (w : Coordinates). 1) (λ (v : Coordinates). 1)
    (λ a b v e f. point_same a b (e ∙ sym f)) (λ w v e. refl) ws vs dw (λ w i. h.onto w i) in
    let down = sum_below (λ (v w : Coordinates). point w ≡ translated d (sent_by n (point v))) (λ (v : Coordinates). 1) (λ (w : Coordinates). 1)
    (λ a b w e f. point_same a b (unsent n low (point a) (point b) (untranslated d (sent_by n (point a)) (sent_by n (point b)) (sym e ∙ f)))) (λ v w e. refl) vs ws dv (λ v i. h.into v i) in
    let one = ones vs in
    let two = ones ws in
    omega (arith, up, down, one, two)

pub placed_size : (p : PuzzleValue) → HasShapes p → (c : ChoiceValue) → (q : IsPlaced p c) → length c.cells ≡ length q.piece
placed_size p s c q =
    size_is q.placed.symmetry q.placed.by q.piece c.cells (low_turn (turning_group p c.name) q.placed.symmetry q.placed.turned)
    (distinct_rising coordinates_total q.piece (s.pieces (c.name, q.piece) q.named).rises) (distinct_rising coordinates_total c.cells q.rises) q.placed.image

-- ---- pieces of different names

pub distinct_pieces : (ps : List (ℕ × List Coordinates)) → IsDistinct (names_of ps) → IsDistinct ps
distinct_pieces [] d = tt
distinct_pieces (q ∷ qs) d = ((λ i. d.0 (in_map (λ (r : ℕ × List Coordinates). r.0) q qs i)), distinct_pieces qs d.1)

pub one_piece : (ps : List (ℕ × List Coordinates)) → IsDistinct (names_of ps) → (a b : ℕ × List Coordinates) → IsIn a ps → IsIn b ps → a.0 ≡ b.0 → a ≡ b
one_piece [] d a b i j e = absurd i
one_piece (q ∷ qs) d a b i j e =
    elim i [
      | inl f ↦ elim j [
        | inl g ↦ f ∙ sym g
        | inr s ↦ absurd (d.0 (subst (λ (n : ℕ). IsIn n (names_of qs)) (sym e ∙ ap (λ (r : ℕ × List Coordinates). r.0) f) (in_map (λ (r : ℕ × List Coordinates). r.0) b qs s)))
      ]
      | inr r ↦ elim j [
        | inl g ↦ absurd (d.0 (subst (λ (n : ℕ). IsIn n (names_of qs)) (e ∙ ap (λ (r : ℕ × List Coordinates). r.0) g) (in_map (λ (r : ℕ × List Coordinates). r.0) a qs r)))
        | inr s ↦ one_piece qs d.1 a b r s e
      ]
    ]
