-- Groups of equal pieces, and sets of cells in the order of their least ones.
use Rattle.std.proofs.Common.{Ordering, ◌≡◌, ℕ, List, [], ◌∷◌, map, Bool, true, cond, inl, inr, refl, sym, subst, ◌∙◌, Less}
use Rattle.std.specs.Cmp.{IsTotalOrder}
use Rattle.std.specs.List.Sorted.{IsStrictlySortedBy}
use Rattle.std.proofs.lemmas.Bool.{cond-true, cond-false, false_from_ne_true}
use Rattle.std.proofs.lemmas.Cmp.{on_total}
use Rattle.poly_cells.specs.Coordinates.{Coordinates, coordinates_cmp}
use Rattle.poly_cells.specs.Sets.{IsIn}
use Rattle.poly_cells.proofs.SetLemmas.{rising_none, rising_cons, rising_head}
use Rattle.poly_cells.proofs.MemberLemmas.{in_flat_map, in_from_flat_map}
use Rattle.poly_texts.specs.Puzzle.{PuzzleValue, has_name, equal_names}
use Rattle.poly_place.specs.Packings.{neighbours, first_cell}
use Rattle.poly_cells.proofs.CoordinateLemmas.{coordinates_total}
use Rattle.poly_place.proofs.DistinctLemmas.{IsDistinct, in_from_name, name_from_in}
use Rattle.poly_place.proofs.PairLemmas.{all_of, distinct_left, distinct_right, distinct_apart}

-- ---- sets of cells in the order of their least ones

abbrev pub by_first : List Coordinates → List Coordinates → Ordering
by_first xs ys = coordinates_cmp (first_cell xs) (first_cell ys)

pub first_total : IsTotalOrder by_first
first_total = on_total first_cell coordinates_total

pub rising_neighbours : {K : Type 0} (R : K → K → Ordering) → IsTotalOrder R → (f : ℕ → K) (ns : List ℕ) → ((m n : ℕ) → IsIn (m, n) (neighbours ns) → R (f m) (f n) ≡ Less) → IsStrictlySortedBy R (map f ns)
rising_neighbours R o f [] h = rising_none R
rising_neighbours R o f (a ∷ []) h = rising_cons R (f a) [] (λ y i. absurd i) (rising_none R)
rising_neighbours {K} R o f (a ∷ b ∷ ns) h =
    let rest = rising_neighbours R o f (b ∷ ns) (λ m n i. h m n (inr i)) in
    let next = h a b (inl refl) in
    rising_cons R (f a) (map f (b ∷ ns))
    (λ y i. elim i [
      | inl e ↦ subst (λ (q : K). R (f a) q ≡ Less) (sym e) next
      | inr r ↦ o.trans (f a) (f b) y next (rising_head R (f b) (map f ns) rest y r)
    ])
    rest

-- ---- the group of a name

pub group_of : List (List ℕ) → ℕ → List ℕ
group_of [] n = []
group_of (g ∷ gs) n = cond (has_name g n) g (group_of gs n)

pub group_is : (gs : List (List ℕ)) (g : List ℕ) (n : ℕ) → IsDistinct (all_of gs) → IsIn g gs → IsIn n g → group_of gs n ≡ g
unfolding group_of
group_is [] g n d i j = absurd i
group_is (h ∷ gs) g n d i j =
    elim i [
      | inl e ↦ cond-true (has_name h n) h (group_of gs n) (name_from_in h n (subst (λ (x : List ℕ). IsIn n x) e j)) ∙ sym e
      | inr r ↦
          cond-false (has_name h n) h (group_of gs n)
          (false_from_ne_true (has_name h n) (λ t. distinct_apart n h (all_of gs) d (in_from_name h n t) (in_flat_map (λ (group : List ℕ). group) n g gs r j)))
          ∙ group_is gs g n (distinct_right h (all_of gs) d) r j
    ]

pub distinct_group : (gs : List (List ℕ)) (g : List ℕ) → IsDistinct (all_of gs) → IsIn g gs → IsDistinct g
distinct_group [] g d i = absurd i
distinct_group (h ∷ gs) g d i =
    elim i [
      | inl e ↦ subst IsDistinct (sym e) (distinct_left h (all_of gs) d)
      | inr r ↦ distinct_group gs g (distinct_right h (all_of gs) d) r
    ]

-- a name is in a group or in none
pub is_grouped : PuzzleValue → ℕ → Bool
is_grouped p n = has_name (all_of (equal_names p)) n

-- a group of the puzzle with a name in it
pub record InGroup (p : PuzzleValue) (n : ℕ) : Type 0 where
  pub group : List ℕ
  pub there : IsIn group (equal_names p)
  pub member : IsIn n group

pub grouped_in : (p : PuzzleValue) (n : ℕ) → is_grouped p n ≡ true → InGroup p n
unfolding is_grouped
grouped_in p n h =
    let g = in_from_flat_map (λ (group : List ℕ). group) n (equal_names p) (in_from_name (all_of (equal_names p)) n h) in
    record { group = g.0; there = g.1; member = g.2 }

pub in_grouped : (p : PuzzleValue) (n : ℕ) (g : List ℕ) → IsIn g (equal_names p) → IsIn n g → is_grouped p n ≡ true
unfolding is_grouped
in_grouped p n g i j = name_from_in (all_of (equal_names p)) n (in_flat_map (λ (group : List ℕ). group) n g (equal_names p) i j)
