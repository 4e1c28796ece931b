-- A packing but for the order of equal pieces, and what it lays each piece on.
use Rattle.std.proofs.Common.{◌≡◌, ℕ, ◌+◌, ◌<◌, ◌==◌, List, [], ◌∷◌, ◌++◌, filter, length, get_or, Bool, true, false, cond, ◌&&◌, inl, inr, refl, sym, ap, ap₂, subst, ◌∙◌, arith, eqb-true, eq-eqb}
use Rattle.std.proofs.lemmas.Bool.{cases_Bool, cond-true, cond-false, both_ways, and_parts, and_from}
use Rattle.std.specs.List.{list_all}
use Rattle.poly_cells.specs.Coordinates.{Coordinates}
use Rattle.poly_cells.specs.Sets.{IsIn}
use Rattle.poly_cells.proofs.MemberLemmas.{in_flat_map, in_from_filter, in_filter, passes}
use Rattle.poly_texts.specs.Puzzle.{PuzzleValue, IsPuzzle, names_of, has_name, is_needed, pieces_of, equal_names, come_last}
use Rattle.poly_texts.proofs.EqualLemmas.{equal_new, equal_needed, equal_shapes}
use Rattle.poly_place.specs.declared.alike.Group.TheVariants.{Rotations, Symmetries}
use Rattle.poly_place.specs.Placements.{IsPlacement, turns_by}
use Rattle.poly_place.specs.Packings.{ChoiceValue, choice_with, is_any, neighbours, first_cell, IsPlaced, IsPacking}
use Rattle.poly_place.specs.Swaps.{IsApart}
use Rattle.poly_place.proofs.DistinctLemmas.{IsDistinct, distinct_names, in_from_name}
use Rattle.poly_place.proofs.PairLemmas.{all_of, equal_single}
use Rattle.poly_place.proofs.StandLemmas.{least_in}
use Rattle.poly_place.proofs.LeavingsLemmas.{uses, used_from}
use Rattle.poly_place.proofs.PlacedLemmas.{has_shapes, layable, in_layable}
use Rattle.poly_place.proofs.SortLemmas.{place_in}
use Rattle.poly_place.proofs.EqualLemmas.{group_is, distinct_group}

-- ---- lists of names

-- where those that pass one test come last, and all others pass another one, a name that doesn't pass the first is among as many first
-- ones as pass the second
pub enough : (spare test : ℕ → Bool) (g : List ℕ) (n : ℕ) → come_last spare g ≡ true → ((m : ℕ) → IsIn m g → spare m ≡ false → test m ≡ true) → IsIn n g → spare n ≡ false → place_in g n < length (filter test g)
enough spare test [] n last h i sure = absurd i
enough spare test (x ∷ xs) n last h i sure =
    elim (cases_Bool (spare x)) [
      | inl t ↦
          let all = sym (cond-true (spare x) (list_all spare xs) (come_last spare xs) t) ∙ last in
          absurd (both_ways (spare n) sure (elim i [ inl e ↦ ap spare e ∙ t | inr r ↦ passes spare xs all n r ]))
      | inr f ↦
          let rest = sym (cond-false (spare x) (list_all spare xs) (come_last spare xs) f) ∙ last in
          let kept = cond-true (test x) (x ∷ filter test xs) (filter test xs) (h x (inl refl) f) in
          let long = ap (λ (ys : List ℕ). length ys) kept in
          elim (cases_Bool (x == n)) [
            | inl same ↦ let at = ap (λ b. cond b 0 (1 + place_in xs n)) same in omega (arith, at, long)
            | inr other ↦
                let at = ap (λ b. cond b 0 (1 + place_in xs n)) other in
                let there : IsIn n xs = elim i [ inl e ↦ absurd (both_ways (x == n) other (eq-eqb x n (sym e))) | inr r ↦ r ] in
                let more = enough spare test xs n rest (λ m j. h m (inr j)) there sure in
                omega (arith, at, long, more)
          ]
    ]

pub neighbours_left : (m n : ℕ) (xs ys : List ℕ) → IsIn (m, n) (neighbours xs) → IsIn (m, n) (neighbours (xs ++ ys))
neighbours_left m n [] ys i = absurd i
neighbours_left m n (x ∷ []) ys i = absurd i
neighbours_left m n (x ∷ z ∷ zs) ys i = elim i [ inl e ↦ inl e | inr r ↦ inr (neighbours_left m n (z ∷ zs) ys r) ]

pub same_front : (xs us ys vs : List ℕ) → xs ++ ys ≡ us ++ vs → length xs ≡ length us → xs ≡ us
same_front [] [] ys vs e l = refl
same_front [] (u ∷ us) ys vs e l = absurd (omega (arith, l))
same_front (x ∷ xs) [] ys vs e l = absurd (omega (arith, l))
same_front (x ∷ xs) (u ∷ us) ys vs e l =
    let h : x ≡ u = cc in
    let t : xs ++ ys ≡ us ++ vs = cc in
    ap₂ (λ (z : ℕ) (zs : List ℕ). z ∷ zs) h (same_front xs us ys vs t (omega (arith, l)))

-- ---- a packing but for the order of equal pieces

pub is_apart : (p : PuzzleValue) (chosen : ChoiceValue → Bool) → IsPacking p chosen → IsApart p chosen
is_apart p chosen k = record {
  placed = k.placed;
  once = k.once;
  used = k.used;
  filled = k.filled;
  apart = k.apart;
  ordered = λ c d h g i. absurd i;
  in_turn = λ m n i u. absurd i;
}

module _ (p : PuzzleValue) (z : IsPuzzle p) where
  pub distinct_all : IsDistinct (all_of (equal_names p))
  distinct_all = distinct_names (all_of (equal_names p)) (equal_new p z)

  pub distinct_in : (g : List ℕ) → IsIn g (equal_names p) → IsDistinct g
  distinct_in g i = distinct_group (equal_names p) g distinct_all i

  -- two groups with a name in common are one
  pub one_group : (g h : List ℕ) (n : ℕ) → IsIn g (equal_names p) → IsIn h (equal_names p) → IsIn n g → IsIn n h → g ≡ h
  one_group g h n i j a b = sym (group_is (equal_names p) g n distinct_all i a) ∙ group_is (equal_names p) h n distinct_all j b

  -- equal pieces are pieces that have to be used, once
  pub equal_known : (g : List ℕ) (n : ℕ) → IsIn g (equal_names p) → IsIn n g → IsIn n (names_of (pieces_of p)) × (is_needed p n ≡ true) × (is_any p n ≡ false)
  equal_known g n i j =
      let among = in_flat_map (λ (group : List ℕ). group) n g (equal_names p) i j in
      let known = passes (λ (k : ℕ). has_name (names_of (pieces_of p)) k && is_needed p k) (all_of (equal_names p)) (equal_needed p z) n among in
      let named = (and_parts (has_name (names_of (pieces_of p)) n) (is_needed p n) known).0 in
      let single = equal_single p z n among in
      (in_from_name (names_of (pieces_of p)) n named, single.0, single.1)

  -- what an equal piece is laid on the other one may be laid on
  pub moved_to : (g : List ℕ) (m n : ℕ) (cells : List Coordinates) → IsIn g (equal_names p) → IsIn m g → IsIn n g → IsPlaced p (choice_with m cells) → IsPlaced p (choice_with n cells)
  moved_to g m n cells i a b h =
      let one = equal_shapes p z g m n i a b in
      record {
        piece = h.piece;
        named = (one.0 h.piece).0 h.named;
        rises = h.rises;
        placed = subst (λ (q : Bool). IsPlacement (turns_by (cond q Symmetries Rotations)) h.piece p.region cells) one.1 h.placed;
        useful = inl (equal_known g n i b).1;
      }

  -- ---- what a packing lays a piece on

  unfoldable pub pick : (ChoiceValue → Bool) → ℕ → ChoiceValue
  pick chosen n = get_or (filter (λ (c : ChoiceValue). chosen c && (c.name == n)) (layable p)) 0 (choice_with n [])

  some_first : (xs : List ChoiceValue) (c d : ChoiceValue) → IsIn c xs → IsIn (get_or xs 0 d) xs
  some_first [] c d i = absurd i
  some_first (x ∷ xs) c d i = inl refl

  module _ (chosen : ChoiceValue → Bool) (k : IsApart p chosen) where
    picked : (c : ChoiceValue) → chosen c ≡ true → (chosen (pick chosen c.name) ≡ true) × ((pick chosen c.name).name ≡ c.name)
    unfolding pick
    picked c h =
        let test = λ (d : ChoiceValue). chosen d && (d.name == c.name) in
        let among = in_filter test c (layable p) (in_layable p (has_shapes p z) c (k.placed c h)) (and_from (chosen c) (c.name == c.name) h (eq-eqb c.name c.name refl)) in
        let first = in_from_filter test (pick chosen c.name) (layable p) (some_first (filter test (layable p)) c (choice_with c.name []) among) in
        let parts = and_parts (chosen (pick chosen c.name)) ((pick chosen c.name).name == c.name) first.1 in
        (parts.0, eqb-true (pick chosen c.name).name c.name parts.1)

    pub pick_is : (c : ChoiceValue) → chosen c ≡ true → is_any p c.name ≡ false → pick chosen c.name ≡ c
    pick_is c h single = let there = picked c h in sym (k.once c (pick chosen c.name) h there.0 single (sym there.1))

    pub among : (c : ChoiceValue) → chosen c ≡ true → IsIn c (layable p)
    among c h = in_layable p (has_shapes p z) c (k.placed c h)

    -- of a piece that is used
    pub laid : (n : ℕ) → uses p chosen n ≡ true → (chosen (pick chosen n) ≡ true) × ((pick chosen n).name ≡ n)
    laid n t =
        let c = used_from p chosen n t in
        let there = picked c.0 c.1 in
        subst (λ (m : ℕ). (chosen (pick chosen m) ≡ true) × ((pick chosen m).name ≡ m)) c.2 there

    -- two pieces that are laid on the same cells are one
    pub laid_apart_by : (m n : ℕ) → uses p chosen m ≡ true → uses p chosen n ≡ true → (pick chosen m).cells ≡ (pick chosen n).cells → m ≡ n
    laid_apart_by m n a b e =
        let one = laid m a in
        let other = laid n b in
        let v = least_in p (has_shapes p z) (pick chosen m) (k.placed (pick chosen m) one.0) in
        let same = k.apart (first_cell (pick chosen m).cells) (pick chosen m) (pick chosen n) one.0 other.0 v (subst (λ (vs : List Coordinates). IsIn (first_cell (pick chosen m).cells) vs) e v) in
        sym one.1 ∙ ap (λ (c : ChoiceValue). c.name) same ∙ other.1

    -- those of a group that are used
    unfoldable pub used_in : List ℕ → List ℕ
    used_in g = filter (uses p chosen) g

    pub is_used : (g : List ℕ) (n : ℕ) → IsIn n (used_in g) → uses p chosen n ≡ true
    unfolding used_in
    is_used g n i = (in_from_filter (uses p chosen) n g i).1

    unfoldable pub cells_in : ℕ → List Coordinates
    cells_in n = (pick chosen n).cells
