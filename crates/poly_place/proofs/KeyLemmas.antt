-- The order of forms, and the least of several.
use Rattle.std.proofs.Common.{◌≡◌, ℕ, true, false, List, [], ◌∷◌, ◌⊎◌, map, inl, inr, refl, sym, ap, subst, ◌∙◌, Ordering, Less, nat_cmp, ◌==◌}
use Rattle.std.specs.Cmp.{IsTotalOrder, unsigned_ties}
use Rattle.std.specs.Cmp.Lexicographic.{pointwise, lists_ties}
use Rattle.std.specs.Ordering.{eq_by_cmp, is_lt}
use Rattle.std.proofs.lemmas.Cmp.{lists_total, nat_cmp_total}
use Rattle.poly_cells.specs.Sets.{IsIn, by_order, IsExact}
use Rattle.poly_cells.proofs.SetLemmas.{cases_order, turned_back, not_itself}
use Rattle.poly_place.specs.Forms.{forms_cmp, lesser, form_by, least_from}
use Rattle.poly_place.proofs.ChosenLemmas.{nat_exact}
use Rattle.poly_place.proofs.OrderLemmas.{lists_exact}

pub forms_total : IsTotalOrder forms_cmp
forms_total = lists_total nat_cmp_total

pub forms_exact : IsExact forms_cmp
forms_exact = lists_exact nat_exact

-- `==` of two forms agrees with the order
pub forms_ties : (xs ys : List ℕ) → pointwise (λ (m n : ℕ). m == n) xs ys ≡ eq_by_cmp forms_cmp xs ys
forms_ties = lists_ties nat_cmp unsigned_ties

-- ---- the least

-- the forms of numbers carried in these ways
abbrev pub forms_of : List ℕ → List ℕ → List (List ℕ) → List (List ℕ)
forms_of numbers best gs = best ∷ map (form_by numbers) gs

-- a form is below no other
abbrev pub IsLowest : List ℕ → List (List ℕ) → Type 0
IsLowest least forms = (f : List ℕ) → IsIn f forms → (forms_cmp f least ≡ Less) → ⊥

lesser_of : (form best : List ℕ) → ((lesser form best ≡ form) × (forms_cmp form best ≡ Less)) ⊎ ((lesser form best ≡ best) × ((forms_cmp form best ≡ Less) → ⊥))
lesser_of form best =
    elim (cases_order (forms_cmp form best)) [
      | inl e ↦ inl (ap (λ o. by_order o form best best) e, e)
      | inr other ↦ elim other [
        | inl e ↦ inr (ap (λ o. by_order o form best best) e, (λ l. let t = sym e ∙ l in cc))
        | inr e ↦ inr (ap (λ o. by_order o form best best) e, (λ l. let t = sym e ∙ l in cc))
      ]
    ]

pub lesser_less : (form best : List ℕ) → forms_cmp form best ≡ Less → form ≡ lesser form best
lesser_less form best e = sym (ap (λ o. by_order o form best best) e)

-- what a test for Less says
pub below_is : (o : Ordering) → is_lt o ≡ true → o ≡ Less
below_is Less h = refl
below_is _ h = cc

pub below_not : (o : Ordering) → is_lt o ≡ false → (o ≡ Less) → ⊥
below_not Less h e = cc
below_not _ h e = cc

pub lesser_not : (form best : List ℕ) → ((forms_cmp form best ≡ Less) → ⊥) → best ≡ lesser form best
lesser_not form best n = elim (lesser_of form best) [ inl w ↦ absurd (n w.1) | inr w ↦ sym w.0 ]

pub least_in : (numbers best : List ℕ) (gs : List (List ℕ)) → IsIn (least_from numbers best gs) (forms_of numbers best gs)
unfolding least_from
least_in numbers best [] = inl refl
least_in numbers best (g ∷ gs) =
    elim (least_in numbers (lesser (form_by numbers g) best) gs) [
      | inl e ↦ elim (lesser_of (form_by numbers g) best) [ inl l ↦ inr (inl (e ∙ l.0)) | inr r ↦ inl (e ∙ r.0) ]
      | inr i ↦ inr (inr i)
    ]

-- what isn't above is equal or below
equal_or_below : (form best : List ℕ) → ((forms_cmp form best ≡ Less) → ⊥) → (best ≡ form) ⊎ (forms_cmp best form ≡ Less)
equal_or_below form best n =
    elim (cases_order (forms_cmp best form)) [
      | inl e ↦ inr e
      | inr more ↦ elim more [ inl e ↦ inl (forms_exact best form e) | inr e ↦ absurd (n (turned_back forms_total best form e)) ]
    ]

-- what is lowest with the lesser of two is lowest with both
lowest_with : (numbers best g : List ℕ) (gs : List (List ℕ)) (key : List ℕ) → IsLowest key (forms_of numbers (lesser (form_by numbers g) best) gs) → IsLowest key (forms_of numbers best (g ∷ gs))
lowest_with numbers best g gs key rest f i l =
    elim i [
      | inl e ↦ not_first (subst (λ (x : List ℕ). forms_cmp x key ≡ Less) e l)
      | inr more ↦ elim more [
        | inl e ↦ not_second (subst (λ (x : List ℕ). forms_cmp x key ≡ Less) e l)
        | inr r ↦ rest f (inr r) l
      ]
    ]
  where
    not_lesser : (forms_cmp (lesser (form_by numbers g) best) key ≡ Less) → ⊥
    not_lesser h = rest (lesser (form_by numbers g) best) (inl refl) h

    not_first : (forms_cmp best key ≡ Less) → ⊥
    not_first h = elim (lesser_of (form_by numbers g) best) [
      | inl w ↦ not_lesser (subst (λ (x : List ℕ). forms_cmp x key ≡ Less) (sym w.0) (forms_total.trans (form_by numbers g) best key w.1 h))
      | inr w ↦ not_lesser (subst (λ (x : List ℕ). forms_cmp x key ≡ Less) (sym w.0) h)
    ]

    not_second : (forms_cmp (form_by numbers g) key ≡ Less) → ⊥
    not_second h = elim (lesser_of (form_by numbers g) best) [
      | inl w ↦ not_lesser (subst (λ (x : List ℕ). forms_cmp x key ≡ Less) (sym w.0) h)
      | inr w ↦ elim (equal_or_below (form_by numbers g) best w.1) [
        | inl e ↦ not_first (subst (λ (x : List ℕ). forms_cmp x key ≡ Less) (sym e) h)
        | inr b ↦ not_first (forms_total.trans best (form_by numbers g) key b h)
      ]
    ]

pub least_lowest : (numbers best : List ℕ) (gs : List (List ℕ)) → IsLowest (least_from numbers best gs) (forms_of numbers best gs)
unfolding least_from
least_lowest numbers best [] = λ f i l. elim i [ inl e ↦ not_itself forms_total best (subst (λ (x : List ℕ). forms_cmp x best ≡ Less) e l) | inr none ↦ absurd none ]
least_lowest numbers best (g ∷ gs) =
    lowest_with numbers best g gs (least_from numbers (lesser (form_by numbers g) best) gs) (least_lowest numbers (lesser (form_by numbers g) best) gs)

-- two of which neither is below the other are the same
pub same_lowest : (a b : List ℕ) → ((forms_cmp a b ≡ Less) → ⊥) → ((forms_cmp b a ≡ Less) → ⊥) → a ≡ b
same_lowest a b n m = elim (equal_or_below a b n) [ inl e ↦ sym e | inr l ↦ absurd (m l) ]
