-- The placements of a packing come in the order of the pieces: no placement of a piece before one of an earlier piece, and where none is used
-- several times, each name once.
use Rattle.std.proofs.Common.{◌≡◌, ℕ, zero, suc, map, ◌+◌, ◌-◌, ◌<◌, ◌≤◌, ◌==◌, nat_lt, nat_le, true, cond, List, [], ◌∷◌, ◌++◌, filter, flat_map, length, get_or, inl, inr, refl, sym, ap, subst, ◌∙◌, Ordering, Less, nat_cmp, eqb-true, eq-eqb, arith}
use Rattle.std.specs.Cmp.{IsTotalOrder, nat_cmp_is}
use Rattle.std.specs.List.Sorted.{IsNonDecreasingBy, IsStrictlySortedBy}
use Rattle.std.proofs.lemmas.Bool.{cases_Bool, ltb-true, ltb-false}
use Rattle.std.proofs.lemmas.Bool.Decides.{nat_tests}
use Rattle.std.proofs.lemmas.Cmp.{nat_cmp_total, on_total}
use Rattle.std.proofs.lemmas.List.{map-id, length-append, get_or_append_left, get_or-append_right}
use Rattle.std.proofs.lemmas.List.Kept.{IsStrictlySortedBy-filter}
use Rattle.poly_cells.specs.Coordinates.{Coordinates}
use Rattle.poly_cells.specs.Sets.{IsIn, in_order}
use Rattle.poly_cells.proofs.SetLemmas.{in_at, in_map, in_from_map, in_order_rises, rising_head, rising_tail, rising_cons, rising_none, rising_map, same_members}
use Rattle.poly_texts.specs.Puzzle.{PuzzleValue, IsPuzzle, names_of, has_name, pieces_of, any_names}
use Rattle.shared_words.specs.Lists.{has}
use Rattle.cover_problem.specs.ExactCover.{IsExactCover}
use Rattle.poly_place.specs.Packings.{ChoiceValue, choice_with, every_choice, choices_of_piece, choice_at, laying_count, packing_problem}
use Rattle.poly_place.specs.Chosen.{laying, chosen_by, is_among, same_choice, names_in, AreInPieceOrder, ComeByPiece, place_in}
use Rattle.poly_cells.proofs.MemberLemmas.{in_from_filter, in_filter, passes_some}
use Rattle.poly_texts.proofs.NameLemmas.{pieces_new}
use Rattle.poly_place.proofs.DistinctLemmas.{IsDistinct, distinct_names, in_from_name, name_from_in}
use Rattle.poly_place.proofs.FormLemmas.{place_tells}
use Rattle.poly_place.proofs.PackingLemmas.{same_choice_itself}
use Rattle.poly_place.proofs.StandLemmas.{same_number, chosen_in}
use Rattle.poly_place.proofs.PlacedLemmas.{named_by, named_among}
use Rattle.poly_place.proofs.ChosenLemmas.{in_laying, cover_packs}

-- ---- names are ordered by their places in a list

by_place : List ℕ → ℕ → ℕ → Ordering
by_place names a b = nat_cmp (place_in names a) (place_in names b)

place_total : (names : List ℕ) → IsTotalOrder (by_place names)
unfolding by_place
place_total names = on_total (place_in names) nat_cmp_total

less_from : (m n : ℕ) → m < n → nat_cmp m n ≡ Less
less_from m n h = sym (nat_cmp_is m n Less h)

from_less : (m n : ℕ) → nat_cmp m n ≡ Less → m < n
from_less m n h = grind (arith, nat_tests, h)

-- the first name is at place 0, and any other one at a place more than among the others
first_place : (n : ℕ) (ns : List ℕ) → place_in (n ∷ ns) n ≡ 0
first_place n ns = ap (λ b. cond b 0 (1 + place_in ns n)) (eq-eqb n n refl)

later_place : (n x : ℕ) (ns : List ℕ) → (IsIn n ns → ⊥) → IsIn x ns → place_in (n ∷ ns) x ≡ 1 + place_in ns x
later_place n x ns new i =
    elim (cases_Bool (n == x)) [
      | inl t ↦ absurd (new (subst (λ (y : ℕ). IsIn y ns) (sym (eqb-true n x t)) i))
      | inr f ↦ ap (λ b. cond b 0 (1 + place_in ns x)) f
    ]

names_rise : (names : List ℕ) → IsDistinct names → IsStrictlySortedBy (by_place names) names
unfolding by_place
names_rise [] d = rising_none (by_place [])
names_rise (n ∷ ns) d =
    rising_cons (by_place (n ∷ ns)) n ns
    (λ y i. let first = first_place n ns in let later = later_place n y ns d.0 i in less_from (place_in (n ∷ ns) n) (place_in (n ∷ ns) y) (omega (arith, first, later)))
    (subst (IsStrictlySortedBy (by_place (n ∷ ns))) (map-id ns)
    (rising_map (λ (x : ℕ). x) (by_place ns) (by_place (n ∷ ns)) ns
    (λ x y i j h.
    let below = from_less (place_in ns x) (place_in ns y) h in
    let one = later_place n x ns d.0 i in
    let other = later_place n y ns d.0 j in
    less_from (place_in (n ∷ ns) x) (place_in (n ∷ ns) y) (omega (arith, below, one, other)))
    (names_rise ns d.1)))

-- ---- what may be chosen comes piece by piece

abbrev name_at : List ChoiceValue → ℕ → ℕ
name_at cs i = (get_or cs i (choice_with 0 [])).name

first_name : (p : PuzzleValue) (n : ℕ × List Coordinates) (ds : List ChoiceValue) (i : ℕ) → i < length (choices_of_piece p n) → name_at (choices_of_piece p n ++ ds) i ≡ n.0
first_name p n ds i lt =
    ap (λ (c : ChoiceValue). c.name) (get_or_append_left (choices_of_piece p n) ds (choice_with 0 []) i lt)
    ∙ named_by p n (get_or (choices_of_piece p n) i (choice_with 0 [])) (in_at (choices_of_piece p n) i (choice_with 0 []) lt)

later_name : (p : PuzzleValue) (n : ℕ × List Coordinates) (ds : List ChoiceValue) (i : ℕ) → length (choices_of_piece p n) ≤ i → name_at (choices_of_piece p n ++ ds) i ≡ name_at ds (i - length (choices_of_piece p n))
later_name p n ds i le = ap (λ (c : ChoiceValue). c.name) (get_or-append_right (choices_of_piece p n) ds (length (choices_of_piece p n)) i (choice_with 0 []) refl le)

-- a name of a later piece is at a place one more than among the later pieces
place_after : (p : PuzzleValue) (n : ℕ × List Coordinates) (ns : List (ℕ × List Coordinates)) → IsDistinct (names_of (n ∷ ns)) → (i : ℕ) → length (choices_of_piece p n) ≤ i → i < length (choices_of_piece p n ++ flat_map (choices_of_piece p) ns)
    → place_in (names_of (n ∷ ns)) (name_at (choices_of_piece p n ++ flat_map (choices_of_piece p) ns) i) ≡ 1 + place_in (names_of ns) (name_at (flat_map (choices_of_piece p) ns) (i - length (choices_of_piece p n)))
place_after p n ns d i le within =
    let len = length-append (choices_of_piece p n) (flat_map (choices_of_piece p) ns) in
    let k = i - length (choices_of_piece p n) in
    let inside : k < length (flat_map (choices_of_piece p) ns) = omega (arith, le, within, len) in
    ap (place_in (names_of (n ∷ ns))) (later_name p n (flat_map (choices_of_piece p) ns) i le)
    ∙ later_place (n.0) (name_at (flat_map (choices_of_piece p) ns) k) (names_of ns) d.0 (named_among p ns (get_or (flat_map (choices_of_piece p) ns) k (choice_with 0 [])) (in_at (flat_map (choices_of_piece p) ns) k (choice_with 0 []) inside))

piece_by_piece : (p : PuzzleValue) (ns : List (ℕ × List Coordinates)) → IsDistinct (names_of ns) → (i j : ℕ) → i < j → j < length (flat_map (choices_of_piece p) ns)
    → place_in (names_of ns) (name_at (flat_map (choices_of_piece p) ns) i) ≤ place_in (names_of ns) (name_at (flat_map (choices_of_piece p) ns) j)
piece_by_piece p [] d i j lt within = absurd (omega arith)
piece_by_piece p (n ∷ ns) d i j lt within =
    let a = length (choices_of_piece p n) in
    let ih = piece_by_piece p ns d.1 (i - a) (j - a) in
    elim (cases_Bool (nat_lt i a)) [
      | inl t ↦
          let first = ap (place_in (names_of (n ∷ ns))) (first_name p n (flat_map (choices_of_piece p) ns) i (ltb-true i a t)) ∙ first_place (n.0) (names_of ns) in
          omega (arith, first)
      | inr f ↦
          let le = ltb-false i a f in
          let len = length-append (choices_of_piece p n) (flat_map (choices_of_piece p) ns) in
          let one = place_after p n ns d i le (omega (arith, lt, within)) in
          let other = place_after p n ns d j (omega (arith, le, lt)) within in
          let more = ih (omega (arith, le, lt)) (omega (arith, le, lt, within, len)) in
          omega (arith, one, other, more)
    ]

choice_place : PuzzleValue → ℕ → ℕ
choice_place p o = place_in (names_of (pieces_of p)) (choice_at p o).name

choices_by_piece : (p : PuzzleValue) → IsPuzzle p → (a b : ℕ) → 0 < a → a < b → b ≤ length (every_choice p) → choice_place p a ≤ choice_place p b
unfolding every_choice choice_place
choices_by_piece p z a b some lt within = piece_by_piece p (pieces_of p) (distinct_names (names_of (pieces_of p)) (pieces_new p z)) (a - 1) (b - 1) (omega (arith, some, lt)) (omega (arith, some, lt, within))

choice_named : (p : PuzzleValue) (c : ChoiceValue) → IsIn c (every_choice p) → IsIn c.name (names_of (pieces_of p))
unfolding every_choice
choice_named p c i = named_among p (pieces_of p) c i

-- ---- what doesn't fall from a member to a greater one never falls

never_falls : {X Y : Type 0} (R : X → X → Ordering) (f : X → Y) (n : Y → ℕ) (xs : List X) → IsStrictlySortedBy R xs → ((a b : X) → IsIn a xs → IsIn b xs → R a b ≡ Less → n (f a) ≤ n (f b)) → IsNonDecreasingBy n (map f xs)
never_falls R f n [] h keeps i j d le lt = absurd (omega arith)
never_falls R f n (x ∷ xs) h keeps zero zero d le lt = omega arith
never_falls {X} {Y} R f n (x ∷ xs) h keeps zero (suc j) d le lt =
    let y = get_or (map f xs) j d in
    let from = in_from_map f y xs (in_at (map f xs) j d (omega arith)) in
    subst (λ (w : Y). n (f x) ≤ n w) (sym from.2) (keeps x from.0 (inl refl) (inr from.1) (rising_head R x xs h from.0 from.1))
never_falls R f n (x ∷ xs) h keeps (suc i) zero d le lt = absurd (omega arith)
never_falls R f n (x ∷ xs) h keeps (suc i) (suc j) d le lt =
    never_falls R f n xs (rising_tail R x xs h) (λ a b p q less. keeps a b (inr p) (inr q) less) i j d (omega arith) (omega arith)

-- ---- the placements of a packing

module _ (p : PuzzleValue) (z : IsPuzzle p) (path : List ℕ) (e : IsExactCover (packing_problem p) (has path)) where
  in_path : (o : ℕ) → IsIn o (laying p path) → (0 < o) × (o ≤ length (every_choice p))
  in_path o i = let there = in_laying p path o i in ((e.options o (name_from_in path o there.0)).0, there.1)

  laying_rises : IsStrictlySortedBy nat_cmp (laying p path)
  laying_rises = IsStrictlySortedBy-filter nat_cmp (λ o. nat_le o (laying_count p)) (in_order nat_cmp path) (in_order_rises nat_cmp_total path)

  among : (o : ℕ) → IsIn o (laying p path) → is_among (chosen_by p path) (choice_at p o) ≡ true
  among o i = passes_some (same_choice (choice_at p o)) (choice_at p o) (chosen_by p path) (in_map (choice_at p) o (laying p path) i) (same_choice_itself (choice_at p o))

  named_in : (o : ℕ) → IsIn o (laying p path) → IsIn (choice_at p o).name (names_of (pieces_of p))
  named_in o i = let low = in_path o i in choice_named p (choice_at p o) (chosen_in p o low.0 low.1)

  pub placed_by_piece : ComeByPiece p (chosen_by p path)
  unfolding choice_place
  placed_by_piece =
      never_falls nat_cmp (choice_at p) (λ (c : ChoiceValue). place_in (names_of (pieces_of p)) c.name) (laying p path) laying_rises
      (λ a b i j less. choices_by_piece p z a b (in_path a i).0 (from_less a b less) (in_path b j).1)

  -- where no piece may be used several times
  places_rise : (any_names p) ≡ [] → (a b : ℕ) → IsIn a (laying p path) → IsIn b (laying p path) → a < b → choice_place p a < choice_place p b
  unfolding choice_place
  places_rise none a b i j lt =
      let low = in_path a i in
      let high = in_path b j in
      let upto = choices_by_piece p z a b low.0 lt high.1 in
      let differ : choice_place p a ≡ choice_place p b → ⊥ = λ same.
      let one = (cover_packs p z path e).once (choice_at p a) (choice_at p b) (among a i) (among b j) (ap (λ (ns : List ℕ). has_name ns (choice_at p a).name) none)
      (place_tells (names_of (pieces_of p)) (choice_at p a).name (choice_at p b).name (named_in a i) (named_in b j) same) in
      let number = same_number p z a b low.0 low.1 high.0 high.1 one in
      omega (arith, number, lt) in
      omega (arith, upto, differ)

  names_sorted : (any_names p) ≡ [] → IsStrictlySortedBy (by_place (names_of (pieces_of p))) (names_in (chosen_by p path))
  unfolding choice_place by_place
  names_sorted none =
      rising_map (λ (c : ChoiceValue). c.name) (λ (c d : ChoiceValue). by_place (names_of (pieces_of p)) c.name d.name) (by_place (names_of (pieces_of p))) (chosen_by p path) (λ c d i j h. h)
      (rising_map (choice_at p) nat_cmp (λ (c d : ChoiceValue). by_place (names_of (pieces_of p)) c.name d.name) (laying p path)
      (λ a b i j h. less_from (choice_place p a) (choice_place p b) (places_rise none a b i j (from_less a b h)))
      laying_rises)

  pub placed_in_order : (any_names p) ≡ [] → AreInPieceOrder p (chosen_by p path)
  placed_in_order none =
      let names = names_in (chosen_by p path) in
      same_members (place_total (names_of (pieces_of p))) names (filter (has_name names) (names_of (pieces_of p))) (names_sorted none)
      (IsStrictlySortedBy-filter (by_place (names_of (pieces_of p))) (has_name names) (names_of (pieces_of p)) (names_rise (names_of (pieces_of p)) (distinct_names (names_of (pieces_of p)) (pieces_new p z))))
      (λ x i.
      let c = in_from_map (λ (c : ChoiceValue). c.name) x (chosen_by p path) i in
      let o = in_from_map (choice_at p) c.0 (laying p path) c.1 in
      in_filter (has_name names) x (names_of (pieces_of p)) (subst (λ (n : ℕ). IsIn n (names_of (pieces_of p))) (sym (c.2 ∙ ap (λ (d : ChoiceValue). d.name) o.2)) (named_in o.0 o.1)) (name_from_in names x i))
      (λ x i. in_from_name names x (in_from_filter (has_name names) x (names_of (pieces_of p)) i).1)
