-- Where the volume forces how often a piece is used.
use Rattle.std.proofs.Common.{◌≡◌, ℕ, ◌+◌, ◌*◌, ◌≤◌, ◌==◌, List, [], ◌∷◌, filter, flat_map, length, Bool, true, false, not, inl, inr, refl, sym, ap, subst, ◌∙◌, arith, eqb-true, eq-eqb, length-append}
use Rattle.std.specs.List.{sum_by}
use Rattle.std.proofs.lemmas.List.Sums.{sum_by-cons}
use Rattle.std.proofs.lemmas.List.Filters.{sum_by-filter_both}
use Rattle.std.proofs.lemmas.Bool.{and_parts, and_from, both_ways, not-true, not_from_false, false_from_ne_true}
use Rattle.std.proofs.Math.Bool.{or-false}
use Rattle.std.proofs.Math.Nat.{suc-mul}
use Rattle.poly_cells.specs.Coordinates.{Coordinates}
use Rattle.poly_cells.specs.CellTests.{has_cell}
use Rattle.poly_cells.specs.Sets.{IsIn}
use Rattle.poly_cells.proofs.CellTestLemmas.{has_from_in}
use Rattle.poly_cells.proofs.CoordinateLemmas.{coordinates_total}
use Rattle.poly_cells.proofs.MemberLemmas.{in_filter, in_from_filter, in_flat_map, in_from_flat_map, some_passes, passes_some}
use Rattle.poly_cells.proofs.SetLemmas.{in_map}
use Rattle.poly_texts.specs.Puzzle.{PuzzleValue, IsPuzzle, names_of, has_name, is_needed, pieces_of}
use Rattle.poly_texts.proofs.NameLemmas.{pieces_new}
use Rattle.poly_place.specs.Packings.{ChoiceValue, is_any, must_fill, IsPlaced, IsPacking}
use Rattle.poly_place.specs.Chosen.{is_among, same_choice}
use Rattle.poly_place.specs.Volume.{IsForced, other_pieces, other_cells, copies_in, are_once, VolumeForces}
use Rattle.poly_place.proofs.DistinctLemmas.{IsDistinct, distinct_filter, distinct_rising, distinct_names}
use Rattle.poly_place.proofs.CompiledLemmas.{distinct_flat_map}
use Rattle.poly_place.proofs.PlacedLemmas.{HasShapes, has_shapes}
use Rattle.poly_place.proofs.PackingLemmas.{same_choice_is, same_choice_itself}
use Rattle.poly_place.proofs.SizeLemmas.{sum_below, short, placed_size, distinct_pieces, one_piece}

-- ---- sums

weighed : {X : Type 0} (f : X → ℕ) (k : ℕ) (xs : List X) → ((x : X) → IsIn x xs → f x ≡ k) → sum_by f xs ≡ length xs * k
weighed f k [] each = omega arith
weighed f k (x ∷ xs) each =
    let first = each x (inl refl) in
    let rest = weighed f k xs (λ y i. each y (inr i)) in
    let cons = sum_by-cons f x xs in
    let product = suc-mul (length xs) k in
    omega (arith, first, rest, cons, product)

flat_length : {X A : Type 0} (f : X → List A) (xs : List X) → length (flat_map f xs) ≡ sum_by (λ x. length (f x)) xs
flat_length f [] = refl
flat_length f (x ∷ xs) =
    let rest = flat_length f xs in
    let joined = length-append (f x) (flat_map f xs) in
    let cons = sum_by-cons (λ y. length (f y)) x xs in
    omega (arith, rest, joined, cons)

-- ---- a packing as a list

among : (cs : List ChoiceValue) (c : ChoiceValue) → IsIn c cs → is_among cs c ≡ true
among cs c i = passes_some (same_choice c) c cs i (same_choice_itself c)

from_among : (cs : List ChoiceValue) (c : ChoiceValue) → is_among cs c ≡ true → IsIn c cs
from_among cs c h = let d = some_passes (same_choice c) cs h in subst (λ (e : ChoiceValue). IsIn e cs) (sym (same_choice_is c d.0 d.2)) d.1

distinct_once : (cs : List ChoiceValue) → are_once cs ≡ true → IsDistinct cs
distinct_once [] h = tt
distinct_once (c ∷ cs) h =
    let p = and_parts (not (is_among cs c)) (are_once cs) h in
    ((λ i. both_ways (is_among cs c) (not-true _ p.0) (among cs c i)), distinct_once cs p.1)

module _ (p : PuzzleValue) (name : ℕ) (piece : List Coordinates) (cs : List ChoiceValue) (z : IsPuzzle p) (f : IsForced p name piece) (once : are_once cs ≡ true) (h : IsPacking p (is_among cs)) where
  shapes : HasShapes p
  shapes = has_shapes p z

  apart : IsDistinct (names_of (pieces_of p))
  apart = distinct_names (names_of (pieces_of p)) (pieces_new p z)

  each_once : IsDistinct cs
  each_once = distinct_once cs once

  placed : (c : ChoiceValue) → IsIn c cs → IsPlaced p c
  placed c i = h.placed c (among cs c i)

  -- a placement has as many cells as its piece
  sized : (c : ChoiceValue) (i : IsIn c cs) → (q : ℕ × List Coordinates) → IsIn q (pieces_of p) → q.0 ≡ c.name → length c.cells ≡ length (q.1)
  sized c i q there e =
      let at = placed c i in
      let same = one_piece (pieces_of p) apart (c.name, at.piece) q at.named there (sym e) in
      placed_size p shapes c at ∙ ap (λ (r : ℕ × List Coordinates). length (r.1)) same

  -- the cells of all placements are those of the region
  total : sum_by (λ c. length c.cells) cs ≡ length p.region
  total =
      let flat = flat_map (λ (c : ChoiceValue). c.cells) cs in
      let distinct : IsDistinct flat = distinct_flat_map (λ (c : ChoiceValue). c.cells) cs
      (λ c i. distinct_rising coordinates_total c.cells (placed c i).rises) (λ c d v i j k l. h.apart v c d (among cs c i) (among cs d j) k l) each_once in
      let up = short flat p.region distinct (λ v i.
      let c = in_from_flat_map (λ (c : ChoiceValue). c.cells) v cs i in (placed c.0 c.1).placed.inside v c.2) in
      let down = short p.region flat (distinct_rising coordinates_total p.region shapes.region.rises) (λ v i.
      let c = h.filled v (needed v i) in in_flat_map (λ (c : ChoiceValue). c.cells) v c.0 cs (from_among cs c.0 c.1) c.2) in
      let long = flat_length (λ (c : ChoiceValue). c.cells) cs in
      omega (arith, up, down, long)
    where
      needed : (v : Coordinates) → IsIn v p.region → must_fill p v ≡ true
      needed v i = and_from _ _ (has_from_in p.region v i) (ap (λ (vs : List Coordinates). not (has_cell vs v)) f.filled)

  other : ChoiceValue → Bool
  other c = not (c.name == name)

  single : (n : ℕ) → not (n == name) ≡ true → is_any p n ≡ false
  single n e =
      ap (λ (ns : List ℕ). has_name ns n) f.any
      ∙ false_from_ne_true _ (λ t. both_ways (n == name) (not-true _ e) (eq-eqb n name (sym (eqb-true name n (sym (or-false (name == n)) ∙ t)))))

  -- a piece of another name and its placement
  record Goes (c : ChoiceValue) (q : ℕ × List Coordinates) : Type 0 where
    there : IsIn c cs
    known : IsIn q (pieces_of p)
    same : q.0 ≡ c.name
    apart : not (c.name == name) ≡ true

  others_placed : sum_by (λ c. length c.cells) (filter other cs) ≤ other_cells p name
  unfolding other
  others_placed =
      sum_below Goes (λ (c : ChoiceValue). length c.cells) (λ (q : ℕ × List Coordinates). length (q.1))
      (λ a b q g k. h.once a b (among cs a g.there) (among cs b k.there) (single a.name g.apart) (sym g.same ∙ k.same))
      (λ c q g. sized c g.there q g.known g.same)
      (filter other cs) (other_pieces p name) (distinct_filter other cs each_once)
      (λ c i.
      let k = in_from_filter other c cs i in
      let at = placed c k.0 in
      ((c.name, at.piece), in_filter (λ (q : ℕ × List Coordinates). not (q.0 == name)) (c.name, at.piece) (pieces_of p) at.named k.1, record { there = k.0; known = at.named; same = refl; apart = k.1 }))

  others_used : other_cells p name ≤ sum_by (λ c. length c.cells) (filter other cs)
  unfolding other
  others_used =
      sum_below (λ (q : ℕ × List Coordinates) (c : ChoiceValue). Goes c q) (λ (q : ℕ × List Coordinates). length (q.1)) (λ (c : ChoiceValue). length c.cells)
      (λ a b c g k. one_piece (pieces_of p) apart a b g.known k.known (g.same ∙ sym k.same))
      (λ q c g. sym (sized c g.there q g.known g.same))
      (other_pieces p name) (filter other cs) (distinct_filter (λ (q : ℕ × List Coordinates). not (q.0 == name)) (pieces_of p) (distinct_pieces (pieces_of p) apart))
      (λ q i.
      let k = in_from_filter (λ (r : ℕ × List Coordinates). not (r.0 == name)) q (pieces_of p) i in
      let c = h.used (q.0) (in_map (λ (r : ℕ × List Coordinates). r.0) q (pieces_of p) k.0) (needs (q.0) k.1) (ap (λ (ns : List ℕ). has_name ns (q.0)) f.sure) in
      let there = from_among cs c.0 c.1 in
      let far = subst (λ (n : ℕ). not (n == name) ≡ true) (sym c.2) k.1 in
      (c.0, in_filter other c.0 cs there far, record { there = there; known = k.0; same = sym c.2; apart = far }))
    where
      needs : (n : ℕ) → not (n == name) ≡ true → is_needed p n ≡ true
      needs n e = and_from _ _ (ap (λ (ns : List ℕ). not (has_name ns n)) f.used) (not_from_false _ (single n e))

  pub volume_is : copies_in name cs * length piece + other_cells p name ≡ length p.region
  unfolding other
  volume_is =
      let both = sum_by-filter_both (λ (c : ChoiceValue). c.name == name) other (λ c. refl) (λ (c : ChoiceValue). length c.cells) cs in
      let copies = weighed (λ (c : ChoiceValue). length c.cells) (length piece) (filter (λ (c : ChoiceValue). c.name == name) cs) (λ c i.
      let k = in_from_filter (λ (d : ChoiceValue). d.name == name) c cs i in sized c k.0 (name, piece) f.named (sym (eqb-true c.name name k.1))) in
      let all = total in
      let up = others_placed in
      let down = others_used in
      omega (arith, both, copies, all, up, down)

pub volume_forces : VolumeForces
volume_forces p name piece cs z f once h = volume_is p name piece cs z f once h
