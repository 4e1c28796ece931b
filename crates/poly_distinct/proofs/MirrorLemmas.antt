-- A test tells whether an exchange of names brings each piece to its mirror image.
use Rattle.std.proofs.Common.{◌≡◌, ℕ, ◌==◌, Bool, true, not, ◌&&◌, ◌||◌, List, inl, inr, sym, ap, subst, ◌∙◌, arith, eqb-true, eq-eqb}
use Rattle.std.specs.List.{list_any, list_all, range_with_len}
use Rattle.std.specs.Cmp.{Equal-is, booleans_Decides}
use Rattle.std.specs.Ordering.{is_eq}
use Rattle.std.proofs.Math.Bool.{beq}
use Rattle.std.proofs.lemmas.Bool.{false≢true, and_parts, and_from, or_cases, or_left, or_right, not-true}
use Rattle.poly_cells.specs.Coordinates.{Coordinates}
use Rattle.poly_cells.specs.Symmetries.{is_rotation}
use Rattle.poly_cells.specs.Sets.{IsIn}
use Rattle.poly_cells.specs.Shapes.{turned}
use Rattle.poly_cells.specs.Images.{IsImage}
use Rattle.poly_cells.proofs.MemberLemmas.{some_passes, passes_some, passes, in_from_range}
use Rattle.poly_cells.proofs.ImageLemmas.{turned_is}
use Rattle.poly_texts.specs.Puzzle.{PuzzleValue, IsPuzzle, pieces_of, mirrored_names, equal_names, names_of, has_name, is_needed, is_spare}
use Rattle.poly_place.specs.Placements.{cells_cmp}
use Rattle.poly_place.specs.Packings.{is_any}
use Rattle.poly_place.specs.Swaps.{AreEqual}
use Rattle.poly_distinct.specs.Distinct.{IsMirrored, Mirrors, are_equal, is_mirrored, keeps_flags, tells_names, are_mirrors}
use Rattle.poly_place.proofs.PlacedLemmas.{has_shapes}
use Rattle.poly_place.proofs.OrderLemmas.{cells_exact}
use Rattle.poly_place.proofs.DistinctLemmas.{in_from_name, name_from_in}

same_flags : (a b : Bool) → beq a b ≡ true → a ≡ b
same_flags a b h = (booleans_Decides a b).0 h

equal_from : (p : PuzzleValue) (m n : ℕ) → are_equal p m n ≡ true → AreEqual p m n
equal_from p m n h =
    elim (or_cases (m == n) (list_any (λ group. has_name group m && has_name group n) (equal_names p)) h) [
      | inl e ↦ inl (eqb-true m n e)
      | inr r ↦
          let g = some_passes (λ group. has_name group m && has_name group n) (equal_names p) r in
          let both = and_parts (has_name g.0 m) (has_name g.0 n) g.2 in
          inr (g.0, g.1, in_from_name g.0 m both.0, in_from_name g.0 n both.1)
    ]

from_equal : (p : PuzzleValue) (m n : ℕ) → AreEqual p m n → are_equal p m n ≡ true
from_equal p m n h =
    elim h [
      | inl e ↦ or_left (m == n) (list_any (λ group. has_name group m && has_name group n) (equal_names p)) (eq-eqb m n e)
      | inr g ↦ or_right (m == n) (list_any (λ group. has_name group m && has_name group n) (equal_names p))
          (passes_some (λ group. has_name group m && has_name group n) g.0 (equal_names p) g.1 (and_from (has_name g.0 m) (has_name g.0 n) (name_from_in g.0 m g.2) (name_from_in g.0 n g.3)))
    ]

implied : (a b : Bool) → (not a || b) ≡ true → a ≡ true → b ≡ true
implied a b h t = elim (or_cases (not a) b h) [ inl n ↦ absurd (false≢true (sym (ap not t) ∙ n)) | inr r ↦ r ]

module _ (p : PuzzleValue) (z : IsPuzzle p) (s : ℕ → ℕ) where
  mirrored_from : (name : ℕ) (cells piece : List Coordinates) → IsIn (name, cells) (pieces_of p) → is_mirrored p name cells piece ≡ true → IsMirrored p name cells piece
  mirrored_from name cells piece i h =
      let n = some_passes (λ n. (not (is_rotation n) || has_name (mirrored_names p) name) && is_eq (cells_cmp (turned n cells) piece)) (range_with_len 0 48) h in
      let lt = in_from_range n.0 0 48 n.1 in
      let both = and_parts (not (is_rotation n.0) || has_name (mirrored_names p) name) (is_eq (cells_cmp (turned n.0 cells) piece)) n.2 in
      let shape = (has_shapes p z).pieces (name, cells) i in
      let t = turned_is n.0 cells shape.some shape.limits in
      record {
        symmetry = n.0;
        limit = omega (arith, lt);
        reflects = elim (or_cases (not (is_rotation n.0)) (has_name (mirrored_names p) name) both.0) [ inl r ↦ inl (not-true (is_rotation n.0) r) | inr r ↦ inr r ];
        by = t.by;
        image = subst (λ (us : List Coordinates). IsImage n.0 t.by cells us) (cells_exact (turned n.0 cells) piece ((Equal-is (cells_cmp (turned n.0 cells) piece)).0 both.1)) t.image;
      }

  flags : list_all (keeps_flags p s) (names_of (pieces_of p)) ≡ true → (name : ℕ) → IsIn name (names_of (pieces_of p))
      → (beq (has_name (mirrored_names p) (s name)) (has_name (mirrored_names p) name) ≡ true) × (beq (is_needed p (s name)) (is_needed p name) ≡ true) × (beq (is_any p (s name)) (is_any p name) ≡ true) × (beq (is_spare p (s name)) (is_spare p name) ≡ true)
  flags h name i =
      let f = passes (keeps_flags p s) (names_of (pieces_of p)) h name i in
      let g = and_parts (beq (has_name (mirrored_names p) (s name)) (has_name (mirrored_names p) name)) _ f in
      let k = and_parts (beq (is_needed p (s name)) (is_needed p name)) _ g.1 in
      let l = and_parts (beq (is_any p (s name)) (is_any p name)) (beq (is_spare p (s name)) (is_spare p name)) k.1 in
      (g.0, k.0, l.0, l.1)

  told : list_all (λ a. list_all (tells_names p s a) (names_of (pieces_of p))) (names_of (pieces_of p)) ≡ true → (a b : ℕ) → IsIn a (names_of (pieces_of p)) → IsIn b (names_of (pieces_of p))
      → ((not (s a == s b) || (a == b)) ≡ true) × ((not (are_equal p (s a) (s b)) || are_equal p a b) ≡ true)
  told h a b i j = and_parts (not (s a == s b) || (a == b)) (not (are_equal p (s a) (s b)) || are_equal p a b) (passes (tells_names p s a) (names_of (pieces_of p)) (passes (λ a. list_all (tells_names p s a) (names_of (pieces_of p))) (names_of (pieces_of p)) h a i) b j)

  pub mirrors_from : are_mirrors p s ≡ true → Mirrors p s
  unfolding are_mirrors
  mirrors_from h =
      let one = and_parts _ _ h in
      let two = and_parts _ _ one.1 in
      let three = and_parts _ _ two.1 in
      record {
        shapes = λ name piece i.
            let other = some_passes (λ (o : ℕ × List Coordinates). (o.0 == s name) && is_mirrored p (o.0) (o.1) piece) (pieces_of p)
            (passes (λ (named : ℕ × List Coordinates). list_any (λ (o : ℕ × List Coordinates). (o.0 == s (named.0)) && is_mirrored p (o.0) (o.1) (named.1)) (pieces_of p)) (pieces_of p) one.0 (name, piece) i) in
            let both = and_parts (other.0.0 == s name) (is_mirrored p other.0.0 other.0.1 piece) other.2 in
            let e = eqb-true other.0.0 (s name) both.0 in
            let here : IsIn (other.0.0, other.0.1) (pieces_of p) = other.1 in
            (other.0.1, subst (λ (m : ℕ). IsIn {K = ℕ × List Coordinates} (m, other.0.1) (pieces_of p)) e here, subst (λ (m : ℕ). IsMirrored p m other.0.1 piece) e (mirrored_from other.0.0 other.0.1 piece here both.1));
        mirrored = λ name i. same_flags _ _ (flags two.0 name i).0;
        needed = λ name i. same_flags _ _ (flags two.0 name i).1;
        any = λ name i. same_flags _ _ (flags two.0 name i).2;
        spare = λ name i. same_flags _ _ (flags two.0 name i).3;
        equal = λ a b i j e. equal_from p a b (implied (are_equal p (s a) (s b)) (are_equal p a b) (told three.0 a b i j).1 (from_equal p (s a) (s b) e));
        apart = λ a b i j e. eqb-true a b (implied (s a == s b) (a == b) (told three.0 a b i j).0 (eq-eqb (s a) (s b) e));
        onto = λ b i.
            let a = some_passes (λ a. s a == b) (names_of (pieces_of p)) (passes (λ b. list_any (λ a. s a == b) (names_of (pieces_of p))) (names_of (pieces_of p)) three.1 b i) in
            (a.0, a.1, eqb-true (s a.0) b a.2);
      }
