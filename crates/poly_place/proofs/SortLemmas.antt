-- Lists without repeats, put in order, and places in them.
use Rattle.std.proofs.Common.{◌≡◌, ℕ, zero, suc, ◌+◌, ◌<◌, ◌==◌, List, [], ◌∷◌, map, length, get_or, cond, inl, inr, refl, sym, ap, subst, ◌∙◌, Ordering, Less, Equal, Greater, arith, eq-eqb}
use Rattle.std.specs.Ordering.{ordering_then}
use Rattle.std.specs.List.Sorted.{IsStrictlySortedBy}
use Rattle.std.proofs.lemmas.Bool.{ne_eqb}
use Rattle.poly_cells.specs.Coordinates.{Coordinates, coordinates_cmp}
use Rattle.poly_cells.specs.Sets.{IsIn, IsExact, by_order, insert_in, in_order}
use Rattle.poly_cells.proofs.SetLemmas.{cases_order, in_from_map, in_from_order, rising_head, rising_tail, in_at}
use Rattle.poly_cells.proofs.CoordinateLemmas.{coordinates_exact}
use Rattle.poly_place.specs.Placements.{cells_cmp}
use Rattle.poly_place.specs.Packings.{neighbours, first_cell}
use Rattle.poly_place.proofs.DistinctLemmas.{IsDistinct}

-- ---- as many as before

insert_by : {K : Type 0} (R : K → K → Ordering) (x y : K) (ys : List K) (o : Ordering) → R x y ≡ o → insert_in R x (y ∷ ys) ≡ by_order o (x ∷ y ∷ ys) (y ∷ ys) (y ∷ insert_in R x ys)
insert_by R x y ys o e = ap (λ q. by_order q (x ∷ y ∷ ys) (y ∷ ys) (y ∷ insert_in R x ys)) e

length_insert : {K : Type 0} (R : K → K → Ordering) → IsExact R → (x : K) (ys : List K) → (IsIn x ys → ⊥) → length (insert_in R x ys) ≡ suc (length ys)
length_insert R exact x [] new = refl
length_insert R exact x (y ∷ ys) new =
    elim (cases_order (R x y)) [
      | inl less ↦ ap length (insert_by R x y ys Less less)
      | inr other ↦ elim other [
        | inl same ↦ absurd (new (inl (exact x y same)))
        | inr more ↦ ap length (insert_by R x y ys Greater more) ∙ ap suc (length_insert R exact x ys (λ i. new (inr i)))
      ]
    ]

pub length_in_order : {K : Type 0} (R : K → K → Ordering) → IsExact R → (xs : List K) → IsDistinct xs → length (in_order R xs) ≡ length xs
unfolding in_order
length_in_order R exact [] d = refl
length_in_order R exact (x ∷ xs) d =
    length_insert R exact x (in_order R xs) (λ i. d.0 (in_from_order R x xs i)) ∙ ap suc (length_in_order R exact xs d.1)

-- ---- the images of distinct things are distinct where the map tells them apart

pub distinct_images : {X Y : Type 0} (f : X → Y) (xs : List X) → ((a b : X) → IsIn a xs → IsIn b xs → f a ≡ f b → a ≡ b) → IsDistinct xs → IsDistinct (map f xs)
distinct_images f [] tells d = tt
distinct_images {X} f (x ∷ xs) tells d = (
  (λ i. let from = in_from_map f (f x) xs i in d.0 (subst (λ (z : X). IsIn z xs) (sym (tells x from.0 (inl refl) (inr from.1) from.2)) from.1)),
  distinct_images f xs (λ a b i j. tells a b (inr i) (inr j)) d.1,
)

-- ---- rising lists by places

pub rising_at : {K : Type 0} (R : K → K → Ordering) (d : K) (xs : List K) (i j : ℕ) → IsStrictlySortedBy R xs → i < j → j < length xs → R (get_or xs i d) (get_or xs j d) ≡ Less
rising_at R d [] i j h lt within = absurd (omega arith)
rising_at R d (x ∷ xs) i zero h lt within = absurd (omega arith)
rising_at R d (x ∷ xs) zero (suc j) h lt within = rising_head R x xs h (get_or xs j d) (in_at xs j d (omega arith))
rising_at R d (x ∷ xs) (suc i) (suc j) h lt within = rising_at R d xs i j (rising_tail R x xs h) (omega arith) (omega arith)

-- ---- the place of a name

abbrev pub place_in : List ℕ → ℕ → ℕ
place_in [] x = 0
place_in (y ∷ ys) x = cond (y == x) 0 (1 + place_in ys x)

first_place : (y x : ℕ) (ys : List ℕ) → y ≡ x → place_in (y ∷ ys) x ≡ 0
first_place y x ys e = ap (λ b. cond b 0 (1 + place_in ys x)) (eq-eqb y x e)

later_place : (y x : ℕ) (ys : List ℕ) → (y ≡ x → ⊥) → place_in (y ∷ ys) x ≡ 1 + place_in ys x
later_place y x ys n = ap (λ b. cond b 0 (1 + place_in ys x)) (ne_eqb y x n)

other_head : (y x : ℕ) (ys : List ℕ) → (IsIn y ys → ⊥) → IsIn x ys → y ≡ x → ⊥
other_head y x ys new i e = new (subst (λ (n : ℕ). IsIn n ys) (sym e) i)

pub at_place_in : (ys : List ℕ) (x : ℕ) → IsDistinct ys → IsIn x ys → get_or ys (place_in ys x) 0 ≡ x
at_place_in [] x d i = absurd i
at_place_in (y ∷ ys) x d i =
    elim i [
      | inl e ↦ ap (λ k. get_or (y ∷ ys) k 0) (first_place y x ys (sym e)) ∙ sym e
      | inr r ↦ ap (λ k. get_or (y ∷ ys) k 0) (later_place y x ys (other_head y x ys d.0 r) ∙ one_more (place_in ys x)) ∙ at_place_in ys x d.1 r
    ]
  where
    one_more : (n : ℕ) → 1 + n ≡ suc n
    one_more n = omega arith

pub place_at : (ys : List ℕ) (k : ℕ) → IsDistinct ys → k < length ys → place_in ys (get_or ys k 0) ≡ k
place_at [] k d lt = absurd (omega arith)
place_at (y ∷ ys) zero d lt = first_place y y ys refl
place_at (y ∷ ys) (suc k) d lt =
    let at = later_place y (get_or ys k 0) ys (other_head y (get_or ys k 0) ys d.0 (in_at ys k 0 (omega arith))) in
    let rest = place_at ys k d.1 (omega arith) in
    omega (arith, at, rest)

pub place_next : (ns : List ℕ) (m n : ℕ) → IsDistinct ns → IsIn (m, n) (neighbours ns) → place_in ns n ≡ place_in ns m + 1
place_next [] m n d i = absurd i
place_next (a ∷ []) m n d i = absurd i
place_next (a ∷ b ∷ ns) m n d i =
    elim i [
      | inl e ↦
          let one : m ≡ a = ap (λ (q : ℕ × ℕ). q.0) e in
          let other : n ≡ b = ap (λ (q : ℕ × ℕ). q.1) e in
          let first = first_place a m (b ∷ ns) (sym one) in
          let second = later_place a n (b ∷ ns) (λ q. d.0 (inl (q ∙ other))) in
          let there = first_place b n ns (sym other) in
          omega (arith, first, second, there)
      | inr r ↦
          let both = in_both m n (b ∷ ns) r in
          let one = later_place a m (b ∷ ns) (other_head a m (b ∷ ns) d.0 both.0) in
          let other = later_place a n (b ∷ ns) (other_head a n (b ∷ ns) d.0 both.1) in
          let rest = place_next (b ∷ ns) m n d.1 r in
          omega (arith, one, other, rest)
    ]
  where
    in_both : (m n : ℕ) (ns : List ℕ) → IsIn (m, n) (neighbours ns) → IsIn m ns × IsIn n ns
    in_both m n [] i = absurd i
    in_both m n (a ∷ []) i = absurd i
    in_both m n (a ∷ b ∷ ns) i =
        elim i [
          | inl e ↦ (inl (ap (λ (q : ℕ × ℕ). q.0) e), inr (inl (ap (λ (q : ℕ × ℕ). q.1) e)))
          | inr r ↦ let rest = in_both m n (b ∷ ns) r in (inr rest.0, inr rest.1)
        ]

-- ---- sets with different least cells are in the order of these

then_less : (a b : Ordering) → ordering_then a b ≡ Less → (a ≡ Equal → ⊥) → a ≡ Less
then_less Less b h n = refl
then_less Equal b h n = absurd (n refl)
then_less Greater b h n = cc

pub less_by_first : (xs ys : List Coordinates) → IsIn (first_cell xs) xs → IsIn (first_cell ys) ys → (first_cell xs ≡ first_cell ys → ⊥) → cells_cmp xs ys ≡ Less
    → coordinates_cmp (first_cell xs) (first_cell ys) ≡ Less
less_by_first [] ys i j n h = absurd i
less_by_first (x ∷ xs) [] i j n h = absurd j
less_by_first (x ∷ xs) (y ∷ ys) i j n h = then_less (coordinates_cmp x y) (cells_cmp xs ys) h (λ e. n (coordinates_exact x y e))
