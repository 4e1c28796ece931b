-- A seat more: at which nothing was called, or whose notes are known.
use Rattle.std.proofs.Common.{◌≡◌, ℕ, ◌+◌, ◌<◌, ◌≤◌, ◌⊎◌, Some, List, [], ◌∷◌, ◌++◌, length, get_or, slice_get, sym, ap, subst, ◌∙◌, inl, inr, arith, length-append}
use Rattle.std.proofs.lemmas.Bool.{cases_lt}
use Rattle.std.proofs.lemmas.List.{get_or_push, get_or_append_left}
use Rattle.std.proofs.lemmas.Option.{slice_get_within, get_or_from_slice_get, slice_get-get_or}
use mathlib.Core.Logic.{dite}
use native.Mathlib.Decide.{ℕ_discrete}
use Rattle.lab_history.specs.declared.entry.Entry.{Entry}
use Rattle.lab_desk.specs.Record.{SeatValue, notes_of}
use Rattle.lab_desk.specs.Seats.{AreNewSeats}

pub new_seats_more : (seats : List SeatValue) (n : ℕ) (x : SeatValue) → length seats ≡ n → AreNewSeats seats → x ≡ record { number = n; notes = []; kept = 0 }
    → AreNewSeats (seats ++ x ∷ [])
new_seats_more seats n x l a e k s h = at (cases_lt k (length seats))
  where
    here : get_or (seats ++ x ∷ []) k s ≡ s
    here = get_or_from_slice_get (seats ++ x ∷ []) k s s h

    at : (k < length seats) ⊎ (length seats ≤ k) → s ≡ record { number = k; notes = []; kept = 0 }
    at (inl b) = sym here ∙ get_or_append_left seats (x ∷ []) s k b ∙ a k (get_or seats k s) (slice_get-get_or seats k s b)
    at (inr b) =
        let w = slice_get_within (seats ++ x ∷ []) k s h in let m = length-append seats (x ∷ []) in
        let same : length seats ≡ k = omega arith in
        sym here ∙ get_or_push seats x s k same ∙ e ∙ ap (λ i. record { number = i; notes = []; kept = 0 }) (sym l ∙ same)

-- what is so of the notes of the first seats, and of those of the one behind them
pub agreed_more : (from : ℕ) (es : List Entry) (seats : List SeatValue) (k : ℕ) (d : SeatValue) → (get_or seats k d).notes ≡ notes_of (get_or seats k d).number from es
    → ((i : ℕ) (s : SeatValue) → i < k → slice_get seats i ≡ Some s → s.notes ≡ notes_of s.number from es)
    → (i : ℕ) (s : SeatValue) → i < k + 1 → slice_get seats i ≡ Some s → s.notes ≡ notes_of s.number from es
agreed_more from es seats k d here before i s lt at =
    dite (ℕ_discrete i k)
    (λ e. subst (λ (y : SeatValue). y.notes ≡ notes_of y.number from es) (ap (λ j. get_or seats j d) (sym e) ∙ get_or_from_slice_get seats i s d at) here)
    (λ ne. before i s (omega arith) at)

pub some_below : {X : Type 0} (xs : List X) (i : ℕ) (s : X) → slice_get xs i ≡ Some s → i < length xs
some_below xs i s e = slice_get_within xs i s e
