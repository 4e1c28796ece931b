-- The first of the best, and those that keep the least part.
use Rattle.std.proofs.Common.{◌≡◌, ℕ, zero, suc, ◌+◌, ◌*◌, ◌<◌, ◌≤◌, Bool, true, false, not, cond, List, [], ◌∷◌, length, get_or, refl, sym, ap, ap₂, subst, ◌∙◌, arith, inl, inr}
use Rattle.std.specs.Prelude.{find, Option, Some, None, slice_get}
use Rattle.std.specs.Cmp.{IsStrictWeakOrder}
use Rattle.std.specs.Option.{option_copied}
use Rattle.std.specs.Slice.{IsGetResult}
use Rattle.std.proofs.Common.{Bor}
use Rattle.std.specs.List.{list_all, IsFirstBest}
use Rattle.std.proofs.lemmas.Bool.{cases_lt, false_from_ne_true, le-ltb, ltb-false, ltb-true, lt-ltb, true≢false}
use Rattle.std.proofs.lemmas.List.MinMax.{IsStrictWeakOrder-by_number, IsStrictWeakOrder-flip}
use Rattle.std.proofs.Math.Nat.{mul-le-mul_left, mul-lt-mul_of_pos_left}
use Rattle.std.proofs.lemmas.Option.{slice_get-get_or, slice_get_past}
use Rattle.poly_cells.specs.Sets.{IsIn}
use Rattle.poly_cells.proofs.MemberLemmas.{all_pass, passes}
use Rattle.poly_cells.proofs.SetLemmas.{in_at}
use Rattle.poly_distinct.specs.Rule.{TallyValue, better_by, fewer, first_best, leaves_out, less_part, more, none_better}

-- ---- what is found

-- the first that passes a test stands at a place before which none passes
found_at : {X : Type 0} (test : X → Bool) (xs : List X) (b : ℕ) (d : X) → b < length xs → test (get_or xs b d) ≡ true → ((k : ℕ) → k < b → test (get_or xs k d) ≡ false)
    → find test xs ≡ Some (get_or xs b d)
found_at test [] b d lt t h = absurd (omega arith)
found_at {X} test (x ∷ xs) zero d lt t h = ap (λ c. cond c (Some x) (find test xs)) t
found_at {X} test (x ∷ xs) (suc b) d lt t h =
    ap (λ c. cond c (Some x) (find test xs)) (h 0 (omega arith)) ∙ found_at test xs b d (omega arith) t (λ k less. h (suc k) (omega arith))

-- a member stands somewhere
place_in : {X : Type 0} (x : X) (xs : List X) → IsIn x xs → (k : ℕ) × (k < length xs) × ((d : X) → get_or xs k d ≡ x)
place_in x [] i = absurd i
place_in x (y ∷ ys) i = elim i [
  | inl e ↦ (0, omega arith, λ d. sym e)
  | inr r ↦ let rest = place_in x ys r in (suc rest.0, let low = rest.1 in omega (arith, low), rest.2)
]

module _ (better : TallyValue → TallyValue → Bool) (xs : List TallyValue) (i b : ℕ) (best : IsFirstBest better xs i b) (all : length xs ≤ i) where
  at_best : (d : TallyValue) → none_better better xs (get_or xs b d) ≡ true
  at_best d =
      all_pass (λ c. not (better c (get_or xs b d))) xs (λ c m.
      let at = place_in c xs m in
      let low = at.1 in
      ap not (subst (λ (a : TallyValue). better a (get_or xs b d) ≡ false) (at.2 d) (best.1 at.0 d (omega (arith, low, all)))))

  before_best : (d : TallyValue) (k : ℕ) → b < length xs → k < b → none_better better xs (get_or xs k d) ≡ false
  before_best d k lt less =
      false_from_ne_true (none_better better xs (get_or xs k d)) (λ t.
      let beaten = passes (λ c. not (better c (get_or xs k d))) xs t (get_or xs b d) (in_at xs b d lt) in
      true≢false (sym beaten ∙ ap not (best.2 k d less)))

  found_best : (d : TallyValue) → b < length xs → slice_get xs b ≡ first_best better xs
  found_best d lt =
      slice_get-get_or xs b d lt ∙ sym (found_at (none_better better xs) xs b d lt (at_best d) (λ k less. before_best d k lt less))

-- what stands where the first of the best does
pub first_is : (better : TallyValue → TallyValue → Bool) (xs : List TallyValue) (i b : ℕ) → IsFirstBest better xs i b → length xs ≤ i → (0 < length xs → b < length xs) → slice_get xs b ≡ first_best better xs
first_is better [] i b best all low = refl
first_is better (x ∷ xs) i b best all low = found_best better (x ∷ xs) i b best all x (low (omega arith))

-- what a read that may fail gives
pub copied_is : (xs : List TallyValue) (b : ℕ) (r : Option (Bor TallyValue)) → IsGetResult xs b b r → option_copied r ≡ slice_get xs b
copied_is xs b None h = sym (slice_get_past xs b (ltb-false b (length xs) (sym h.0)))
copied_is xs b (Some x) h =
    let lt = ltb-true b (length xs) (sym h.0) in
    ap Some (h.4 (omega arith) x.now) ∙ sym (slice_get-get_or xs b x.now lt)

-- ---- orders

fewer_ranks : IsStrictWeakOrder fewer
fewer_ranks = IsStrictWeakOrder-by_number (λ (a : TallyValue). a.kept)

more_ranks : IsStrictWeakOrder more
more_ranks = IsStrictWeakOrder-flip fewer fewer_ranks

pub better_ranks : (most : Bool) → IsStrictWeakOrder (better_by most)
better_ranks true = more_ranks
better_ranks false = fewer_ranks

-- ---- the least part

weaker : {m n : ℕ} → m < n → m ≤ n
weaker h = omega (arith, h)

positive : (x y n : ℕ) → x < y * n → 0 < n
positive x y zero h = absurd (omega (arith, h))
positive x y (suc n) h = omega arith

-- products of the parts: where b is above 0, what isn't less than b isn't less than what b isn't less than
not_less : (ak ao bk bo ck co : ℕ) → 0 < bo → bk * ao ≤ ak * bo → ck * bo ≤ bk * co → ck * ao ≤ ak * co
not_less ak ao bk bo ck co some first second =
    elim (cases_lt (ak * co) (ck * ao)) [
      | inr le ↦ le
      | inl lt ↦
          let p = mul-le-mul_left co first in
          let q = mul-le-mul_left ao second in
          let r = mul-lt-mul_of_pos_left lt some in
          absurd (omega (arith, p, q, r))
    ]

-- and what is less than something less is less
less_than_less : (ak ao bk bo ck co : ℕ) → ak * bo < bk * ao → bk * co < ck * bo → ak * co < ck * ao
less_than_less ak ao bk bo ck co first second =
    elim (cases_lt (ak * co) (ck * ao)) [
      | inl lt ↦ lt
      | inr le ↦
          let p = mul-le-mul_left co (weaker first) in
          let q = mul-lt-mul_of_pos_left second (positive (ak * bo) bk ao first) in
          let r = mul-le-mul_left bo le in
          absurd (omega (arith, p, q, r))
    ]

parts_chain : (a b c : TallyValue) → 0 < b.options → less_part a b ≡ false → less_part b c ≡ false → less_part a c ≡ false
parts_chain a b c some f g =
    le-ltb (a.kept * c.options) (c.kept * a.options)
    (not_less a.kept a.options b.kept b.options c.kept c.options some (ltb-false (a.kept * b.options) (b.kept * a.options) f) (ltb-false (b.kept * c.options) (c.kept * b.options) g))

parts_trans : (a b c : TallyValue) → less_part a c ≡ false → less_part b c ≡ true → less_part a b ≡ false
parts_trans a b c f t =
    false_from_ne_true (less_part a b) (λ h.
    true≢false
    (sym (lt-ltb (a.kept * c.options) (c.kept * a.options)
    (less_than_less a.kept a.options b.kept b.options c.kept c.options (ltb-true (a.kept * b.options) (b.kept * a.options) h) (ltb-true (b.kept * c.options) (c.kept * b.options) t)))
    ∙ f))

not_itself : (a : TallyValue) → less_part a a ≡ false
not_itself a = le-ltb (a.kept * a.options) (a.kept * a.options) (omega arith)

-- of the first k, none keeps less of its choices than the one at a place
abbrev pub IsLeastPart : List TallyValue → ℕ → ℕ → Type 0
IsLeastPart ts k best = (j : ℕ) (d : TallyValue) → j < k → less_part (get_or ts j d) (get_or ts best d) ≡ false

pub part_first : (ts : List TallyValue) → IsLeastPart ts 1 0
part_first ts j d h = subst (λ (i : ℕ). less_part (get_or ts i d) (get_or ts 0 d) ≡ false) (let e : 0 ≡ j = omega arith in e) (not_itself (get_or ts 0 d))

module _ (ts : List TallyValue) (k best : ℕ) (lt : k < length ts) (low : best < k) (x y : TallyValue) (at : (d : TallyValue) → x ≡ get_or ts k d) (was : (d : TallyValue) → y ≡ get_or ts best d) (so : IsLeastPart ts k best) where
  pub part_takes : less_part x y ≡ true → IsLeastPart ts (k + 1) k
  part_takes t j d h = elim (cases_lt j k) [
    | inl less ↦ parts_trans (get_or ts j d) (get_or ts k d) (get_or ts best d) (so j d less) (sym (ap₂ (λ (a b : TallyValue). less_part a b) (at d) (was d)) ∙ t)
    | inr past ↦ subst (λ (i : ℕ). less_part (get_or ts i d) (get_or ts k d) ≡ false) (let e : k ≡ j = omega arith in e) (not_itself (get_or ts k d))
  ]

  pub part_keeps : less_part x y ≡ false → IsLeastPart ts (k + 1) best
  part_keeps f j d h = elim (cases_lt j k) [
    | inl less ↦ so j d less
    | inr past ↦
        subst (λ (i : ℕ). less_part (get_or ts i d) (get_or ts best d) ≡ false) (let e : k ≡ j = omega arith in e)
        (sym (ap₂ (λ (a b : TallyValue). less_part a b) (at d) (was d)) ∙ f)
  ]

-- those than which that one keeps no less are those than which none keeps less
module _ (ts : List TallyValue) (all : list_all leaves_out ts ≡ true) (best : ℕ) (least : IsLeastPart ts (length ts) best) (m : TallyValue) (lt : best < length ts) (at : m ≡ get_or ts best m) where
  one_there : IsIn m ts
  one_there = subst (λ (a : TallyValue). IsIn a ts) (sym at) (in_at ts best m lt)

  has_options : 0 < m.options
  has_options = let h = ltb-true m.kept m.options (passes leaves_out ts all m one_there) in omega (arith, h)

  pub none_less : (a : TallyValue) (b : Bool) → less_part m a ≡ b → none_better less_part ts a ≡ not b
  none_less a true e = false_from_ne_true (none_better less_part ts a) (λ t. true≢false (sym (passes (λ c. not (less_part c a)) ts t m one_there) ∙ ap not e))
  none_less a false e =
      all_pass (λ c. not (less_part c a)) ts (λ c i.
      let place = place_in c ts i in
      ap not (parts_chain c m a has_options (ap₂ (λ (x y : TallyValue). less_part x y) (sym (place.2 m)) at ∙ least place.0 m place.1) e))
