-- How many deques of other seats, and which, there are after each seat.
use Rattle.std.proofs.Common.{take, get_or, length, ◌≡◌, ◌≢◌, ℕ, zero, suc, ◌+◌, ◌-◌, ◌<◌, cond, nat_lt, List, [], ◌∷◌, ◌++◌, map, sym, refl, ap, ◌∙◌, arith, add-one}
use Rattle.std.proofs.lemmas.Bool.Decides.{nat_tests}
use Rattle.std.proofs.lemmas.List.{map-append, length-map}
use Rattle.std.proofs.Math.Seq.{take-suc}
use Rattle.lab_tickets.specs.declared.deques.OtherDeque.{OtherDeque}
use Rattle.lab_tickets.specs.Deques.{tally_of, source}
use Rattle.lab_tickets.specs.Rule.{tally}
use Rattle.lab_tickets.specs.TicketView.{TicketView, blanks, all_but, deque_of}

-- how many of the first j seats are others
abbrev pub so_far : ℕ → ℕ → ℕ
so_far number j = j - cond (nat_lt number j) 1 0

blanks_more : (k : ℕ) → blanks (suc k) ≡ blanks k ++ tally [] [] ∷ []
blanks_more zero = refl
blanks_more (suc k) = ap (λ l. tally [] [] ∷ l) (blanks_more k)

blanks_count : (k : ℕ) → length (blanks k) ≡ k
blanks_count zero = refl
blanks_count (suc k) = ap suc (blanks_count k)

-- blank tallies tell how many deques there are
pub others_count : (ds : List OtherDeque) (k : ℕ) → map tally_of ds ≡ blanks k → length ds ≡ k
others_count ds k is = sym (length-map ds tally_of) ∙ ap length is ∙ blanks_count k

so_far_other : (number j : ℕ) → j ≢ number → so_far number (j + 1) ≡ suc (so_far number j)
so_far_other number j other = grind (arith, nat_tests)

so_far_same : (number j : ℕ) → j ≡ number → so_far number (j + 1) ≡ so_far number j
so_far_same number j same = grind (arith, nat_tests)

-- another seat's deque joins
pub added : (ds ds' : List OtherDeque) (d : OtherDeque) (number j : ℕ) → map tally_of ds ≡ blanks (so_far number j) → ds' ≡ ds ++ d ∷ [] → tally_of d ≡ tally [] [] → j ≢ number → map tally_of ds' ≡ blanks (so_far number (j + 1))
added ds ds' d number j is more blank other =
    ap (map tally_of) more ∙ map-append tally_of ds (d ∷ []) ∙ (λ i. is i ++ blank i ∷ []) ∙ sym (blanks_more (so_far number j)) ∙ ap blanks (sym (so_far_other number j other))

-- the seat's own is passed over
pub kept : (ds ds' : List OtherDeque) (number j : ℕ) → map tally_of ds ≡ blanks (so_far number j) → ds' ≡ ds → j ≡ number → map tally_of ds' ≡ blanks (so_far number (j + 1))
kept ds ds' number j is same here = ap (map tally_of) same ∙ is ∙ ap blanks (sym (so_far_same number j here))

pred_other : (j k : ℕ) → suc j ≢ suc k → j ≢ k
pred_other j k other e = other (ap suc e)

without_other : (k j : ℕ) (xs : List (ℕ × ℕ)) (x' : ℕ × ℕ) → j < length xs → j ≢ k → all_but k (take (suc j) xs) ≡ all_but k (take j xs) ++ get_or xs j x' ∷ []
without_other k j [] x' small other = absurd (omega (arith, small))
without_other zero zero (x ∷ xs) x' small other = absurd (other refl)
without_other (suc k) zero (x ∷ xs) x' small other = refl
without_other zero (suc j) (x ∷ xs) x' small other = take-suc xs j x' (omega (arith, small))
without_other (suc k) (suc j) (x ∷ xs) x' small other = ap (λ l. x ∷ l) (without_other k j xs x' (omega (arith, small)) (pred_other j k other))

without_same : (k : ℕ) (xs : List (ℕ × ℕ)) → all_but k (take (suc k) xs) ≡ all_but k (take k xs)
without_same zero [] = refl
without_same (suc k) [] = refl
without_same zero (x ∷ xs) = refl
without_same (suc k) (x ∷ xs) = ap (λ l. x ∷ l) (without_same k xs)

-- the identity of another seat's deque joins
pub source_added : (ds ds' : List OtherDeque) (d : OtherDeque) (number j : ℕ) (seats : List TicketView) (x : ℕ × ℕ) → map source ds ≡ all_but number (take j (map deque_of seats)) → ds' ≡ ds ++ d ∷ [] → source d ≡ get_or (map deque_of seats) j x → j < length (map deque_of seats) → j ≢ number
    → map source ds' ≡ all_but number (take (j + 1) (map deque_of seats))
source_added ds ds' d number j seats x is more at small other =
    ap (map source) more ∙ map-append source ds (d ∷ []) ∙ (λ i. is i ++ at i ∷ []) ∙ sym (without_other number j (map deque_of seats) x small other) ∙ ap (λ n. all_but number (take n (map deque_of seats))) (sym (add-one j))

-- that of the seat's own is passed over
pub source_kept : (ds ds' : List OtherDeque) (number j : ℕ) (seats : List TicketView) → map source ds ≡ all_but number (take j (map deque_of seats)) → ds' ≡ ds → j ≡ number → map source ds' ≡ all_but number (take (j + 1) (map deque_of seats))
source_kept ds ds' number j seats is same here =
    ap (map source) same ∙ is ∙ (λ i. all_but number (take (here i) (map deque_of seats))) ∙ sym (without_same number (map deque_of seats)) ∙ (λ i. all_but number (take (suc (sym here i)) (map deque_of seats))) ∙ ap (λ n. all_but number (take n (map deque_of seats))) (sym (add-one j))
