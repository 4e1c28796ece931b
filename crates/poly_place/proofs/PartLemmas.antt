-- The part of a cell, and what packings have in common that lay pieces on the same cells.
use Rattle.std.proofs.Common.{◌≡◌, ℕ, zero, suc, ◌<◌, ◌≤◌, ◌==◌, Bool, true, false, cond, List, [], ◌∷◌, length, inl, inr, refl, sym, ap, subst, ◌∙◌, arith, eqb-true, eq-eqb}
use Rattle.std.specs.Cmp.{both_ways as same_tests}
use Rattle.std.proofs.lemmas.Bool.{cases_Bool, both_ways, cond-true, cond-false, ne_eqb}
use Rattle.poly_cells.specs.Coordinates.{Coordinates}
use Rattle.poly_cells.specs.Sets.{IsIn}
use Rattle.poly_cells.specs.CellTests.{has_cell}
use Rattle.poly_cells.proofs.CellTestLemmas.{in_from_has, has_from_in}
use Rattle.poly_place.specs.Packings.{ChoiceValue}
use Rattle.poly_place.specs.Classes.{part_at, is_empty_cell, same_part}

-- ---- the part of a cell

-- one of the choices has both cells
abbrev pub HaveOne : List ChoiceValue → Coordinates → Coordinates → Type 0
HaveOne cs v w = (c : ChoiceValue) × IsIn c cs × IsIn v c.cells × IsIn w c.cells

-- no cell is in two of the choices
abbrev pub AreApart : List ChoiceValue → Type 0
AreApart cs = (v : Coordinates) (c d : ChoiceValue) → IsIn c cs → IsIn d cs → IsIn v c.cells → IsIn v d.cells → c ≡ d

part_low : (cs : List ChoiceValue) (v : Coordinates) → part_at cs v ≤ length cs
part_low [] v = omega arith
part_low (c ∷ cs) v = by_test (has_cell c.cells v) (part_low cs v)
  where
    by_test : (b : Bool) → part_at cs v ≤ length cs → cond b (length (c ∷ cs)) (part_at cs v) ≤ length (c ∷ cs)
    by_test true low = omega arith
    by_test false low = omega (arith, low)

-- cells of one part that isn't empty are in one choice
pub one_part : (cs : List ChoiceValue) (v w : Coordinates) → part_at cs v ≡ part_at cs w → 0 < part_at cs v → HaveOne cs v w
one_part [] v w e some = absurd (omega (arith, some))
one_part (c ∷ cs) v w e some =
    let low_v = part_low cs v in
    let low_w = part_low cs w in
    elim (cases_Bool (has_cell c.cells v)) [
      | inl a ↦ elim (cases_Bool (has_cell c.cells w)) [
        | inl b ↦ (c, inl refl, in_from_has c.cells v a, in_from_has c.cells w b)
        | inr b ↦
            let x = cond-true (has_cell c.cells v) (length (c ∷ cs)) (part_at cs v) a in
            let y = cond-false (has_cell c.cells w) (length (c ∷ cs)) (part_at cs w) b in
            absurd (omega (arith, low_w, x, y, e))
      ]
      | inr a ↦ elim (cases_Bool (has_cell c.cells w)) [
        | inl b ↦
            let x = cond-false (has_cell c.cells v) (length (c ∷ cs)) (part_at cs v) a in
            let y = cond-true (has_cell c.cells w) (length (c ∷ cs)) (part_at cs w) b in
            absurd (omega (arith, low_v, x, y, e))
        | inr b ↦
            let x = cond-false (has_cell c.cells v) (length (c ∷ cs)) (part_at cs v) a in
            let y = cond-false (has_cell c.cells w) (length (c ∷ cs)) (part_at cs w) b in
            let r = one_part cs v w (sym x ∙ e ∙ y) (omega (arith, x, some)) in
            (r.0, inr r.1, r.2, r.3)
      ]
    ]

-- a cell of a choice isn't empty
pub part_some : (cs : List ChoiceValue) (v : Coordinates) (c : ChoiceValue) → IsIn c cs → IsIn v c.cells → 0 < part_at cs v
part_some [] v c i j = absurd i
part_some (d ∷ ds) v c i j =
    elim (cases_Bool (has_cell d.cells v)) [
      | inl a ↦ let x = cond-true (has_cell d.cells v) (length (d ∷ ds)) (part_at ds v) a in omega (arith, x)
      | inr a ↦
          let x = cond-false (has_cell d.cells v) (length (d ∷ ds)) (part_at ds v) a in
          let there : IsIn c ds = elim i [ inl e ↦ absurd (both_ways (has_cell d.cells v) a (has_from_in d.cells v (subst (λ (b : ChoiceValue). IsIn v b.cells) e j))) | inr r ↦ r ] in
          let r = part_some ds v c there j in
          omega (arith, x, r)
    ]

-- cells of one choice are of one part
pub same_part_of : (cs : List ChoiceValue) (v w : Coordinates) → AreApart cs → HaveOne cs v w → part_at cs v ≡ part_at cs w
same_part_of [] v w a h = absurd h.1
same_part_of (d ∷ ds) v w a h =
    elim (cases_Bool (has_cell d.cells v)) [
      | inl x ↦
          let e : h.0 ≡ d = a v h.0 d h.1 (inl refl) h.2 (in_from_has d.cells v x) in
          cond-true (has_cell d.cells v) (length (d ∷ ds)) (part_at ds v) x
          ∙ sym (cond-true (has_cell d.cells w) (length (d ∷ ds)) (part_at ds w) (has_from_in d.cells w (subst (λ (b : ChoiceValue). IsIn w b.cells) e h.3)))
      | inr x ↦
          let other : has_cell d.cells w ≡ false = elim (cases_Bool (has_cell d.cells w)) [
            | inl y ↦ absurd (both_ways (has_cell d.cells v) x (has_from_in d.cells v (subst (λ (b : ChoiceValue). IsIn v b.cells) (a w h.0 d h.1 (inl refl) h.3 (in_from_has d.cells w y)) h.2)))
            | inr y ↦ y
          ] in
          let there : IsIn h.0 ds = elim h.1 [ inl e ↦ absurd (both_ways (has_cell d.cells v) x (has_from_in d.cells v (subst (λ (b : ChoiceValue). IsIn v b.cells) e h.2))) | inr r ↦ r ] in
          cond-false (has_cell d.cells v) (length (d ∷ ds)) (part_at ds v) x
          ∙ same_part_of ds v w (λ u b c i j. a u b c (inr i) (inr j)) (h.0, there, h.2, h.3)
          ∙ sym (cond-false (has_cell d.cells w) (length (d ∷ ds)) (part_at ds w) other)
    ]

-- ---- two lists of choices

pub some_or_none : (m : ℕ) → (m == 0) ≡ false → 0 < m
some_or_none zero h = cc
some_or_none (suc m) h = omega arith

pub positive : (m : ℕ) → 0 < m → (m == 0) ≡ false
positive m h = ne_eqb m 0 (λ e. absurd (omega (arith, h, e)))

-- where a choice has the one cell, another has the other one; so where none has the other one, none has the first
pub empty_if : (cs ds : List ChoiceValue) (v x : Coordinates) → (HaveOne cs v v → HaveOne ds x x) → is_empty_cell ds x ≡ true → is_empty_cell cs v ≡ true
empty_if cs ds v x there e =
    elim (cases_Bool (is_empty_cell cs v)) [
      | inl t ↦ t
      | inr f ↦
          let h = there (one_part cs v v refl (some_or_none (part_at cs v) f)) in
          absurd (both_ways (is_empty_cell ds x) (positive (part_at ds x) (part_some ds x h.0 h.1 h.2)) e)
    ]

-- where one choice has both cells, another one has both of the others, and these are empty where those are
pub parts_if : (cs ds : List ChoiceValue) (v w x y : Coordinates) → AreApart ds → (HaveOne cs v w → HaveOne ds x y)
    → (is_empty_cell cs v ≡ true → is_empty_cell ds x ≡ true) → (is_empty_cell cs w ≡ true → is_empty_cell ds y ≡ true)
    → same_part cs v w ≡ true → same_part ds x y ≡ true
parts_if cs ds v w x y a there first second t =
    let e = eqb-true (part_at cs v) (part_at cs w) t in
    elim (cases_Bool (is_empty_cell cs v)) [
      | inl none ↦
          let here = eqb-true (part_at ds x) 0 (first none) in
          let other = eqb-true (part_at ds y) 0 (second (ap (λ (k : ℕ). k == 0) (sym e) ∙ none)) in
          eq-eqb (part_at ds x) (part_at ds y) (here ∙ sym other)
      | inr some ↦ eq-eqb (part_at ds x) (part_at ds y) (same_part_of ds x y a (there (one_part cs v w e (some_or_none (part_at cs v) some))))
    ]

-- cells that one part has, and that isn't empty
pub one_of_part : (cs : List ChoiceValue) (v w : Coordinates) → same_part cs v w ≡ true → is_empty_cell cs v ≡ false → HaveOne cs v w
one_of_part cs v w t f = one_part cs v w (eqb-true (part_at cs v) (part_at cs w) t) (some_or_none (part_at cs v) f)

pub part_of_one : (cs : List ChoiceValue) (v w : Coordinates) → AreApart cs → HaveOne cs v w → same_part cs v w ≡ true
part_of_one cs v w a h = eq-eqb (part_at cs v) (part_at cs w) (same_part_of cs v w a h)

pub not_empty : (cs : List ChoiceValue) (v : Coordinates) (c : ChoiceValue) → IsIn c cs → IsIn v c.cells → is_empty_cell cs v ≡ false
not_empty cs v c i j = positive (part_at cs v) (part_some cs v c i j)

-- ---- pieces on the same cells

-- where the one list lays a piece, the other one lays one too
abbrev pub LiesWithin : List ChoiceValue → List ChoiceValue → Type 0
LiesWithin cs ds = (c : ChoiceValue) → IsIn c cs → (d : ChoiceValue) × IsIn d ds × (d.cells ≡ c.cells)

have_one : (cs ds : List ChoiceValue) (v w : Coordinates) → LiesWithin cs ds → HaveOne cs v w → HaveOne ds v w
have_one cs ds v w l h =
    let d = l h.0 h.1 in
    (d.0, d.1, subst (λ (us : List Coordinates). IsIn v us) (sym d.2) h.2, subst (λ (us : List Coordinates). IsIn w us) (sym d.2) h.3)

empty_too : (cs ds : List ChoiceValue) (v : Coordinates) → LiesWithin cs ds → is_empty_cell ds v ≡ true → is_empty_cell cs v ≡ true
empty_too cs ds v l e = empty_if cs ds v v (have_one cs ds v v l) e

pub empty_same : (cs ds : List ChoiceValue) (v : Coordinates) → LiesWithin cs ds → LiesWithin ds cs → is_empty_cell cs v ≡ is_empty_cell ds v
empty_same cs ds v l m = same_tests (is_empty_cell cs v) (is_empty_cell ds v) (empty_too ds cs v m) (empty_too cs ds v l)

pub part_same : (cs ds : List ChoiceValue) (v w : Coordinates) → LiesWithin cs ds → LiesWithin ds cs → AreApart cs → AreApart ds → same_part cs v w ≡ same_part ds v w
part_same cs ds v w l m a b =
    same_tests (same_part cs v w) (same_part ds v w)
    (parts_if cs ds v w v w b (have_one cs ds v w l) (empty_too ds cs v m) (empty_too ds cs w m))
    (parts_if ds cs v w v w a (have_one ds cs v w m) (empty_too cs ds v l) (empty_too cs ds w l))
