-- Places that a carrier leaves where they are, in order: it doesn't bring them to lesser ones.
use Rattle.std.proofs.Common.{◌≡◌, ℕ, ◌+◌, ◌≤◌, false, List, [], ◌∷◌, drop, length, refl, sym, ap, ap₂, subst, ◌∙◌, arith, inl, inr, Less, slice_index}
use Rattle.std.specs.List.Sorted.{IsStrictlySortedBy}
use Rattle.std.specs.Ordering.{is_lt, nat_cmp}
use Rattle.std.specs.Cmp.{nat_cmp_is}
use Rattle.std.proofs.lemmas.Cmp.{nat_cmp_total, tied_itself}
use Rattle.std.proofs.lemmas.List.{drop_all}
use Rattle.poly_cells.specs.Sets.{IsIn, in_order}
use Rattle.poly_cells.proofs.SetLemmas.{in_order_rises, in_from_order, in_to_order, rising_cons, same_members}
use Rattle.poly_place.specs.Forms.{carried, forms_cmp}
use Rattle.poly_place.proofs.ChosenLemmas.{nat_exact}
use Rattle.poly_place.proofs.KeyLemmas.{forms_total}
use Rattle.poly_distinct.specs.Moves.{lowers}

-- from n on these rise, and the carrier leaves each of them where it is
abbrev pub Stays : List ℕ → ℕ → List ℕ → Type 0
Stays g n [] = Unit {0}
Stays g n (k ∷ ks) = (slice_index g k ≡ k) × ((n ≤ k) × Stays g (k + 1) ks)

stays_carried : (g : List ℕ) (n : ℕ) (ks : List ℕ) → Stays g n ks → carried g ks ≡ ks
stays_carried g n [] h = refl
stays_carried g n (k ∷ ks) h = ap₂ (λ (x : ℕ) (xs : List ℕ). x ∷ xs) h.0 (stays_carried g (k + 1) ks h.1.1)

above : (g : List ℕ) (n : ℕ) (ks : List ℕ) → Stays g n ks → (k : ℕ) → IsIn k ks → n ≤ k
above g n [] h k i = absurd i
above g n (j ∷ js) h k i =
    elim i [
      | inl e ↦ subst (λ (m : ℕ). n ≤ m) (sym e) h.1.0
      | inr m ↦ let more = above g (j + 1) js h.1.1 k m in let low = h.1.0 in omega (arith, more, low)
    ]

nothing_rises : IsStrictlySortedBy nat_cmp []
unfolding IsStrictlySortedBy
nothing_rises = tt

stays_rise : (g : List ℕ) (n : ℕ) (ks : List ℕ) → Stays g n ks → IsStrictlySortedBy nat_cmp ks
stays_rise g n [] h = nothing_rises
stays_rise g n (k ∷ ks) h =
    rising_cons nat_cmp k ks (λ j i. sym (nat_cmp_is k j Less (let more = above g (k + 1) ks h.1.1 j i in omega (arith, more))))
    (stays_rise g (k + 1) ks h.1.1)

in_place : (ks : List ℕ) → IsStrictlySortedBy nat_cmp ks → in_order nat_cmp ks ≡ ks
in_place ks h =
    same_members nat_cmp_total (in_order nat_cmp ks) ks (in_order_rises nat_cmp_total ks) h (λ k i. in_from_order nat_cmp k ks i) (λ k i. in_to_order nat_exact k ks i)

pub stays_same : (g ks : List ℕ) → Stays g 0 ks → lowers ks g ≡ false
stays_same g ks h =
    ap (λ (js : List ℕ). is_lt (forms_cmp js ks)) (ap (in_order nat_cmp) (stays_carried g 0 ks h) ∙ in_place ks (stays_rise g 0 ks h))
    ∙ ap is_lt (tied_itself forms_total ks)

-- none are left
pub stays_end : (g ks : List ℕ) (i n : ℕ) → length ks ≤ i → Stays g n (drop i ks)
stays_end g ks i n le = subst (Stays g n) (sym (drop_all i ks le)) tt
