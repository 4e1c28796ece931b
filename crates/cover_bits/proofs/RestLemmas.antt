-- What is left of a set's parts where those before a place are passed over.
use Rattle.std.proofs.Common.{◌≡◌, ℕ, zero, suc, ◌/◌, ◌<◌, ◌≤◌, nat_lt, true, false, ◌&&◌, List, [], ◌∷◌, length, get_or, drop, None, Some, Option, refl, sym, ap, ◌∙◌, arith}
use Rattle.std.specs.Prelude.{IfSome}
use Rattle.std.specs.List.Sorted.{IsPartitionPoint, IsNonDecreasingBy}
use Rattle.std.proofs.lemmas.Bool.{ltb-true, ne_eqb}
use Rattle.cover_bits.specs.declared.sets.Part.{Part}
use Rattle.cover_bits.specs.Parts.{in_row, in_parts, in_both, ArePlaced, IsFirstFrom, NoneFrom}

least_place : (n w : ℕ) (parts : List Part) → ArePlaced n w parts → (k : ℕ) (d : Part) → k < length parts → n ≤ (get_or parts k d).place
least_place n w [] p k d l = absurd (omega arith)
least_place n w (x ∷ xs) p zero d l = p.0
least_place n w (x ∷ xs) p (suc k) d l = let a = p.0 in let b = least_place (suc x.place) w xs p.3 k d (omega arith) in omega arith

-- places rise
pub places_rise : (n w : ℕ) (parts : List Part) → ArePlaced n w parts → IsNonDecreasingBy (λ part. part.place) parts
places_rise n w [] p i j d le l = absurd (omega arith)
places_rise n w (x ∷ xs) p zero zero d le l = let a = p.0 in omega arith
places_rise n w (x ∷ xs) p zero (suc j) d le l = let b = least_place (suc x.place) w xs p.3 j d (omega arith) in omega arith
places_rise n w (x ∷ xs) p (suc i) zero d le l = absurd (omega arith)
places_rise n w (x ∷ xs) p (suc i) (suc j) d le l = places_rise (suc x.place) w xs p.3 i j d (omega arith) (omega arith)

lower : (m n w : ℕ) (parts : List Part) → m ≤ n → ArePlaced n w parts → ArePlaced m w parts
lower m n w [] le p = p
lower m n w (x ∷ xs) le p = (let a = p.0 in omega arith, p.1, p.2, p.3)

pub rest_placed : (n w : ℕ) (parts : List Part) → ArePlaced n w parts → (i : ℕ) → ArePlaced n w (drop i parts)
rest_placed n w parts p zero = p
rest_placed n w [] p (suc i) = p
rest_placed n w (x ∷ xs) p (suc i) = let a = p.0 in lower n (suc x.place) w (drop i xs) (omega arith) (rest_placed (suc x.place) w xs p.3 i)

-- a number from the place on is in none of the parts that are passed over
rest_has : (parts : List Part) (i place j : ℕ) → ((k : ℕ) (d : Part) → k < i → k < length parts → (get_or parts k d).place < place) → place ≤ j / 64 → in_parts parts j ≡ in_parts (drop i parts) j
rest_has parts zero place j below from = refl
rest_has [] (suc i) place j below from = refl
rest_has (x ∷ xs) (suc i) place j below from =
    let a = below 0 x (omega arith) (omega arith) in
    rw (ne_eqb x.place (j / 64) (λ e. omega arith)) (rest_has xs i place j (λ k d l m. below (suc k) d (omega arith) (omega arith)) from)

module _ (parts : List Part) (row : List ℕ) (start i : ℕ) (point : IsPartitionPoint (λ part. nat_lt part.place (start / 64) ≡ true) (λ part. nat_lt part.place (start / 64) ≡ false) parts i) where
  same : (j : ℕ) → start ≤ j → in_both parts row j ≡ in_both (drop i parts) row j
  same j a = ap (λ b. b && in_row row j) (rest_has parts i (start / 64) j (λ k d l m. ltb-true _ _ (point.0 k d (omega arith) l)) (omega arith))

  pub first_of_rest : (found : Option ℕ) → IfSome found (λ k. IsFirstFrom (in_both (drop i parts) row) start k) → IfSome found (λ k. IsFirstFrom (in_both parts row) start k)
  first_of_rest None h = tt
  first_of_rest (Some k) h = record {
    passes = same k h.from ∙ h.passes;
    from = h.from;
    least = λ j a t. h.least j a (sym (same j a) ∙ t);
  }

  pub none_of_rest : NoneFrom (in_both (drop i parts) row) start → NoneFrom (in_both parts row) start
  none_of_rest h j a = same j a ∙ h j a
