-- Places in a rising list are in the order of the cells, and a tree of so many levels has a leaf for each.
use Rattle.std.proofs.Common.{◌≡◌, ◌⊎◌, ℕ, zero, suc, ◌+◌, ◌-◌, ◌^◌, ◌<◌, ◌≤◌, List, [], ◌∷◌, length, Bool, true, cond, nat_le, inl, inr, refl, sym, ap, subst, ◌∙◌, arith, Less, get_or}
use Rattle.std.specs.List.{position_or_len, range_with_len}
use Rattle.std.specs.List.Sorted.{IsStrictlySortedBy}
use Rattle.std.proofs.lemmas.Bool.{cases_Bool, cases_lt, leb-true}
use Rattle.std.proofs.lemmas.List.Sums.{passes_at_first}
use Rattle.std.proofs.lemmas.List.FromFn.{length-range_with_len, get_or-range_with_len}
use Rattle.std.proofs.Math.Nat.{pow-le-pow_right}
use Rattle.poly_cells.specs.Coordinates.{Coordinates, coordinates_cmp}
use Rattle.poly_cells.specs.CellTests.{is_same}
use Rattle.poly_cells.specs.Sets.{IsIn}
use Rattle.poly_cells.proofs.CoordinateLemmas.{is_same_Decides, coordinates_total}
use Rattle.poly_cells.proofs.SetLemmas.{rising_head, rising_tail, not_itself, not_both}
use Rattle.poly_place.specs.Packings.{place_of, first_cell, levels_for}

-- the test as an equation
abbrev at_place : Coordinates → List Coordinates → Coordinates → Bool → ℕ
at_place c cs v b = cond b 0 (1 + place_of cs v)

here : (c v : Coordinates) (cs : List Coordinates) → c ≡ v → place_of (c ∷ cs) v ≡ 0
here c v cs e = ap (at_place c cs v) ((is_same_Decides c v).1 e)

later : (c v : Coordinates) (cs : List Coordinates) → (c ≡ v → ⊥) → place_of (c ∷ cs) v ≡ 1 + place_of cs v
later c v cs n =
    elim (cases_Bool (is_same c v)) [
      | inl t ↦ absurd (n ((is_same_Decides c v).0 t))
      | inr f ↦ ap (at_place c cs v) f
    ]

-- a member of the rest of a rising list isn't its head
not_head : (c v : Coordinates) (cs : List Coordinates) → IsStrictlySortedBy coordinates_cmp (c ∷ cs) → IsIn v cs → c ≡ v → ⊥
not_head c v cs h i e =
    not_itself coordinates_total c (subst (λ (w : Coordinates). coordinates_cmp c w ≡ Less) (sym e) (rising_head coordinates_cmp c cs h v i))

pub place_within : (cs : List Coordinates) (v : Coordinates) → IsStrictlySortedBy coordinates_cmp cs → IsIn v cs → place_of cs v < length cs
place_within [] v h i = absurd i
place_within (c ∷ cs) v h i =
    elim i [
      | inl e ↦ let at = here c v cs (sym e) in omega (arith, at)
      | inr r ↦
          let at = later c v cs (not_head c v cs h r) in
          let rest = place_within cs v (rising_tail coordinates_cmp c cs h) r in
          omega (arith, at, rest)
    ]

pub place_rises : (cs : List Coordinates) (v w : Coordinates) → IsStrictlySortedBy coordinates_cmp cs → IsIn v cs → IsIn w cs → coordinates_cmp v w ≡ Less → place_of cs v < place_of cs w
place_rises [] v w h i j less = absurd i
place_rises (c ∷ cs) v w h i j less =
    elim i [
      | inl e ↦ elim j [
        | inl f ↦ absurd (not_itself coordinates_total v (subst (λ (u : Coordinates). coordinates_cmp v u ≡ Less) (f ∙ sym e) less))
        | inr s ↦
            let at = here c v cs (sym e) in
            let past = later c w cs (not_head c w cs h s) in
            omega (arith, at, past)
      ]
      | inr r ↦ elim j [
        | inl f ↦ absurd (not_both coordinates_total v w less (subst (λ (u : Coordinates). coordinates_cmp u v ≡ Less) (sym f) (rising_head coordinates_cmp c cs h v r)))
        | inr s ↦
            let at = later c v cs (not_head c v cs h r) in
            let past = later c w cs (not_head c w cs h s) in
            let rest = place_rises cs v w (rising_tail coordinates_cmp c cs h) r s less in
            omega (arith, at, past, rest)
      ]
    ]

pub first_in : (vs : List Coordinates) → 0 < length vs → IsIn (first_cell vs) vs
first_in [] h = absurd (omega arith)
first_in (v ∷ vs) h = inl refl

-- ---- levels

pub enough_levels : (n : ℕ) → n ≤ 4096 → n ≤ 2 ^ levels_for n
unfolding levels_for
enough_levels n h =
    let test = λ (k : ℕ). nat_le n (2 ^ k) in
    let k = position_or_len test (range_with_len 0 12) in
    let long : length (range_with_len 0 12) ≡ 12 = length-range_with_len 0 12 in
    elim (cases_lt k 12) [
      | inl lt ↦
          let there = passes_at_first test (range_with_len 0 12) 0 (omega (arith, lt, long)) in
          let is : get_or (range_with_len 0 12) k 0 ≡ k = get_or-range_with_len 0 12 k 0 lt ∙ omega arith in
          leb-true n (2 ^ k) (subst (λ (j : ℕ). test j ≡ true) is there)
      | inr past ↦ let more = pow-le-pow_right {n = 2} (omega arith) past in omega (arith, more, h)
    ]

-- ---- the cells from a place on

abbrev pub past : ℕ → List Coordinates → List Coordinates
past zero vs = vs
past (suc k) [] = []
past (suc k) (v ∷ vs) = past k vs

pub past_long : (k : ℕ) (vs : List Coordinates) → length (past k vs) ≡ length vs - k
past_long zero vs = omega arith
past_long (suc k) [] = omega arith
past_long (suc k) (v ∷ vs) = let rest = past_long k vs in omega (arith, rest)

pub in_past : (k : ℕ) (cs : List Coordinates) (v : Coordinates) → IsIn v cs → k ≤ place_of cs v → IsIn v (past k cs)
in_past zero cs v i le = i
in_past (suc k) [] v i le = i
in_past (suc k) (c ∷ cs) v i le =
    elim (cases_Bool (is_same c v)) [
      | inl t ↦ let at = here c v cs ((is_same_Decides c v).0 t) in absurd (omega (arith, at, le))
      | inr f ↦
          let at : place_of (c ∷ cs) v ≡ 1 + place_of cs v = ap (at_place c cs v) f in
          elim i [
            | inl e ↦ let zero_at = here c v cs (sym e) in absurd (omega (arith, zero_at, le))
            | inr r ↦ in_past k cs v r (omega (arith, at, le))
          ]
    ]

-- the first of rising cells is the least
pub first_least : (vs : List Coordinates) (v : Coordinates) → IsStrictlySortedBy coordinates_cmp vs → IsIn v vs → (v ≡ first_cell vs) ⊎ (coordinates_cmp (first_cell vs) v ≡ Less)
first_least [] v h i = absurd i
first_least (w ∷ ws) v h i = elim i [ inl e ↦ inl e | inr r ↦ inr (rising_head coordinates_cmp w ws h v r) ]
