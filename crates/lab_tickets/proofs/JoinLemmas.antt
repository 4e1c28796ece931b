-- One seat more has its number and the deques of the others.
use Rattle.std.proofs.Common.{◌≡◌, ℕ, ◌+◌, ◌<◌, ◌≤◌, List, map, length, set, get_or, sym, refl, ap, ◌∙◌, arith, ⊎_elim}
use Rattle.std.proofs.lemmas.Bool.{cases_lt}
use Rattle.std.proofs.lemmas.List.{get_or-set_same, get_or-set_other}
use Rattle.std.proofs.Math.Seq.{map-set_same}
use Rattle.lab_tickets.specs.TicketView.{TicketView, lone_seat, new_seat, among, deque_of}

-- what stands where there is no seat
abbrev blank : TicketView
blank = lone_seat (0, 0)

-- the first seats have joined
abbrev pub HaveJoined : ℕ → List TicketView → Type 0
HaveJoined k xs = (i : ℕ) → i < k → get_or xs i blank ≡ new_seat (map deque_of xs) i

-- the seats from a place on are alone yet
abbrev pub AreAlone : ℕ → ℕ → List TicketView → Type 0
AreAlone k n xs = (i : ℕ) → k ≤ i → i < n → get_or xs i blank ≡ lone_seat (get_or (map deque_of xs) i (0, 0))

-- the next seat joins
pub one_joins : (xs ys : List TicketView) (k n : ℕ) → length xs ≡ n → k < n → ys ≡ set xs k (among k (map deque_of xs) (get_or xs k blank)) → HaveJoined k xs → AreAlone k n xs → HaveJoined (k + 1) ys × AreAlone (k + 1) n ys
one_joins xs ys k n len small is first rest =
    let new = among k (map deque_of xs) (get_or xs k blank) in
    let same : map deque_of ys ≡ map deque_of xs = ap (map deque_of) is ∙ map-set_same deque_of xs k new blank refl in
    let at : (i : ℕ) → get_or ys i blank ≡ get_or (set xs k new) i blank = λ i. ap (λ l. get_or l i blank) is in (
      (λ i below. ⊎_elim
          (λ (less : i < k). at i ∙ get_or-set_other xs k i new blank (λ e. absurd (omega (arith, e, less))) ∙ first i less ∙ ap (λ l. new_seat l i) (sym same))
          (λ (here : k ≤ i).
          let e : i ≡ k = omega (arith, below, here) in
          rw e (at k ∙ get_or-set_same xs k new blank (omega (arith, small, len)) ∙ ap (among k (map deque_of xs)) (rest k (omega arith) small) ∙ ap (λ l. new_seat l k) (sym same)))
          (cases_lt i k)),
      (λ i above less. at i ∙ get_or-set_other xs k i new blank (λ e. absurd (omega (arith, e, above))) ∙ rest i (omega (arith, above)) less ∙ ap (λ l. lone_seat (get_or l i (0, 0))) (sym same)),
    )
