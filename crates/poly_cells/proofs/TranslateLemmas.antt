-- Cells translated by integers: a loop's steps, and that the translated cells rise and are exactly the translates.
use Rattle.std.proofs.Common.{◌≡◌, ◌≢◌, ℕ, ◌+◌, ◌<◌, Bool, true, false, not, List, [], ◌∷◌, ◌++◌, map, length, get_or, take, ℤ, pos, ◌+ℤ◌, inl, inr, refl, sym, ap, ap₂, subst, ◌∙◌, arith, Option, Some, None, IfSome, IfNone, is_some, nat_cmp, to_z, of_z, SFits, w32}
use Rattle.std.proofs.lemmas.Int.{ints, to_z-of_z}
use Rattle.std.proofs.lemmas.List.{map-append}
use Rattle.std.proofs.lemmas.Bool.{cases_order}
use Rattle.std.proofs.lemmas.Bool.Decides.{nat_tests}
use Rattle.std.specs.Ordering.{ordering_then}
use Rattle.std.specs.List.Sorted.{IsStrictlySortedBy}
use Rattle.poly_cells.specs.Coordinates.{Coordinates, IsInGrid, coordinates_cmp}
use Rattle.poly_cells.specs.Points.{Point, point_at, point, translated}
use Rattle.poly_cells.specs.Sets.{IsIn}
use Rattle.poly_cells.specs.Images.{StaysInside, IsTranslate, translates}
use Rattle.poly_cells.proofs.MatrixLemmas.{same_point}
use Rattle.poly_cells.proofs.SetLemmas.{in_append_cases, in_at, in_map, in_from_map, rising_cons, rising_head, rising_tail, rising_none, take_next}

-- the numbers of a signed type that are passed on are the numbers themselves
pub same_translation : (x y z : ℤ) → SFits w32 x → SFits w32 y → SFits w32 z
    → point_at (to_z w32 (of_z w32 x)) (to_z w32 (of_z w32 y)) (to_z w32 (of_z w32 z)) ≡ point_at x y z
same_translation x y z p q r = same_point _ _ _ _ _ _ (to_z-of_z w32 x p) (to_z-of_z w32 y q) (to_z-of_z w32 z r)

pub stay_all : (d e : Point) (us vs : List Coordinates) → StaysInside d us → us ≡ vs → d ≡ e → StaysInside e vs
stay_all d e us vs h same is = subst (λ (c : Point). StaysInside c vs) is (subst (λ (ws : List Coordinates). StaysInside d ws) same h)

-- ---- the loops' steps

inside_from : (o : Option Coordinates) (d : Point) (v : Coordinates) → is_some o ≡ true → IfSome o (λ w. IsInGrid w × (point w ≡ translated d (point v)))
    → (w : Coordinates) × IsInGrid w × (point w ≡ translated d (point v))
inside_from None d v t h = cc
inside_from (Some w) d v t h = (w, h.0, h.1)

stay_one : (d : Point) (vs : List Coordinates) (v : Coordinates) → StaysInside d vs → ((w : Coordinates) × IsInGrid w × (point w ≡ translated d (point v))) → StaysInside d (vs ++ v ∷ [])
stay_one d vs v all here u i =
    elim (in_append_cases u vs (v ∷ []) i) [
      | inl l ↦ all u l
      | inr r ↦ elim r [ inl e ↦ (here.0, here.1, here.2 ∙ ap (λ (a : Coordinates). translated d (point a)) (sym e)) | inr f ↦ absurd f ]
    ]

pub stay_more : (d : Point) (vs : List Coordinates) (i : ℕ) (v : Coordinates) (o : Option Coordinates) (none : Bool) → i < length vs → v ≡ get_or vs i v → is_some o ≡ not none → none ≡ false
    → IfSome o (λ w. IsInGrid w × (point w ≡ translated d (point v))) → StaysInside d (take i vs) → StaysInside d (take (i + 1) vs)
stay_more d vs i v o none lt is t f h all =
    subst (StaysInside d) (sym (take_next vs i v lt is))
    (stay_one d (take i vs) v all (inside_from o d v (t ∙ ap not f) h))

pub one_leaves : (d e : Point) (vs : List Coordinates) (i : ℕ) (v : Coordinates) (o : Option Coordinates) (none : Bool) → i < length vs → v ≡ get_or vs i v → is_some o ≡ not none → none ≡ true
    → IfNone o ((p : Coordinates) → IsInGrid p → point p ≢ translated d (point v)) → d ≡ e → StaysInside e vs → ⊥
one_leaves d e vs i v None none lt is t f h same all =
    let there = all v (subst (λ u. IsIn u vs) (sym is) (in_at vs i v lt)) in
    h there.0 there.1 (there.2 ∙ ap (λ (c : Point). translated c (point v)) (sym same))
one_leaves d e vs i v (Some w) none lt is t f h same all = let e = t ∙ ap not f in cc

pub one_stays : (d e : Point) (vs : List Coordinates) (i : ℕ) (v : Coordinates) (o : Option Coordinates) → i < length vs → v ≡ get_or vs i v
    → IfNone o ((p : Coordinates) → IsInGrid p → point p ≢ translated d (point v)) → d ≡ e → StaysInside e vs → is_some o ≡ true
one_stays d e vs i v None lt is h same all =
    let there = all v (subst (λ u. IsIn u vs) (sym is) (in_at vs i v lt)) in
    absurd (h there.0 there.1 (there.2 ∙ ap (λ (c : Point). translated c (point v)) (sym same)))
one_stays d e vs i v (Some w) lt is h same all = refl

pub translates_more : (d : Point) (vs : List Coordinates) (i : ℕ) (v w : Coordinates) (o : Option Coordinates) (ws us : List Coordinates) → i < length vs → v ≡ get_or vs i v → o ≡ Some w
    → IfSome o (λ w. IsInGrid w × (point w ≡ translated d (point v))) → us ≡ ws ++ w ∷ [] → map point ws ≡ translates d (take i vs) → map point us ≡ translates d (take (i + 1) vs)
translates_more d vs i v w o ws us lt is at h grown so =
    let here = subst (λ (p : Option Coordinates). IfSome p (λ w. IsInGrid w × (point w ≡ translated d (point v)))) at h in
    ap (map point) grown ∙ map-append point ws (w ∷ []) ∙ ap₂ (λ (a b : List Point). a ++ b) so (ap (λ (p : Point). p ∷ []) here.1)
    ∙ sym (ap (translates d) (take_next vs i v lt is) ∙ map-append (λ (u : Coordinates). translated d (point u)) (take i vs) (v ∷ []))

-- ---- translated cells rise

cmp_from : (a b c d : ℕ) → (a < b → c < d) → (a ≡ b → c ≡ d) → (b < a → d < c) → nat_cmp a b ≡ nat_cmp c d
cmp_from a b c d p q r =
    elim (cases_order a b) [
      | inl e ↦ let f = q e in grind (arith, nat_tests)
      | inr other ↦ elim other [ inl e ↦ let f = p e in grind (arith, nat_tests) | inr e ↦ let f = r e in grind (arith, nat_tests) ]
    ]

cmp_along : (a b c d : ℕ) (e : ℤ) → pos a ≡ pos c +ℤ e → pos b ≡ pos d +ℤ e → nat_cmp c d ≡ nat_cmp a b
cmp_along a b c d e p q = cmp_from c d a b (λ h. omega (arith, ints)) (λ h. omega (arith, ints)) (λ h. omega (arith, ints))

coordinates_cmp_along : (d : Point) (v w a b : Coordinates) → point a ≡ translated d (point v) → point b ≡ translated d (point w) → coordinates_cmp v w ≡ coordinates_cmp a b
coordinates_cmp_along d v w a b p q =
    ap₂ ordering_then (cmp_along a.x b.x v.x w.x d.x (ap (λ (u : Point). u.x) p) (ap (λ (u : Point). u.x) q))
    (ap₂ ordering_then (cmp_along a.y b.y v.y w.y d.y (ap (λ (u : Point). u.y) p) (ap (λ (u : Point). u.y) q))
    (cmp_along a.z b.z v.z w.z d.z (ap (λ (u : Point). u.z) p) (ap (λ (u : Point). u.z) q)))

pub onto_translates : (d : Point) (vs ws : List Coordinates) → map point ws ≡ translates d vs → (w : Coordinates) → IsIn w ws → (v : Coordinates) × IsIn v vs × (point w ≡ translated d (point v))
onto_translates d vs ws h w i = in_from_map (λ (v : Coordinates). translated d (point v)) (point w) vs (subst (IsIn (point w)) h (in_map point w ws i))

pub into_translates : (d : Point) (vs ws : List Coordinates) → map point ws ≡ translates d vs → (v : Coordinates) → IsIn v vs → (w : Coordinates) × IsIn w ws × (point w ≡ translated d (point v))
into_translates d vs ws h v i =
    let from = in_from_map point (translated d (point v)) ws (subst (IsIn (translated d (point v))) (sym h) (in_map (λ (u : Coordinates). translated d (point u)) v vs i)) in
    (from.0, from.1, sym from.2)

pub is_translate : (d : Point) (vs ws : List Coordinates) → map point ws ≡ translates d vs → IsTranslate d vs ws
is_translate d vs ws h = record { onto = onto_translates d vs ws h; into = into_translates d vs ws h }

pub translates_rise : (d : Point) (vs ws : List Coordinates) → map point ws ≡ translates d vs → IsStrictlySortedBy coordinates_cmp vs → IsStrictlySortedBy coordinates_cmp ws
translates_rise d vs [] h up = rising_none coordinates_cmp
translates_rise d [] (w ∷ ws) h up = cc
translates_rise d (v ∷ vs) (w ∷ ws) h up =
    let first : point w ≡ translated d (point v) = cc in
    let rest : map point ws ≡ translates d vs = cc in
    rising_cons coordinates_cmp w ws
    (λ u i. let from = onto_translates d vs ws rest u i in
    sym (coordinates_cmp_along d v from.0 w u first from.2) ∙ rising_head coordinates_cmp v vs up from.0 from.1)
    (translates_rise d vs ws rest (rising_tail coordinates_cmp v vs up))
