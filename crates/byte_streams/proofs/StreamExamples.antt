-- What specs/Stream.antt and specs/Input.antt say of a source of three bytes, and what they refuse.
use Rattle.std.proofs.Common.{◌≡◌, ℕ, zero, suc, ◌<◌, Bool, true, false, Some, None, Ok, List, [], ◌∷◌, ◌++◌, length, get_or, map, ap, sym, refl, arith}
use Rattle.std.specs.Prelude.{Option, All, is_none, unwrap_or}
use Rattle.std.proofs.lemmas.Bool.{false≢true}
use Rattle.byte_streams.specs.declared.stream.Failed.{Failed}
use Rattle.byte_streams.specs.declared.input.InputFault.TheVariants as faults
use Rattle.byte_streams.specs.Stream.{Stream, has_failure, IsToldByAnswers, NotesCount, CountsAlone, StopsAtFailure}
use Rattle.byte_streams.specs.Input.{StopsReading, StopsAtEnd, AsksNoMore}

-- a source with these bytes left, which has answered so
abbrev source : List ℕ → Bool → List (Option ℕ) → Stream
source bytes failed answers = record { bytes = Some bytes; failed = failed; answers = answers }

-- it hasn't been asked yet
abbrev fresh : Stream
fresh = source (1 ∷ 2 ∷ 3 ∷ []) false []

-- ---- NotesCount: of a read of two bytes

noted : NotesCount {E = Failed} (None ∷ []) (None ∷ Some 2 ∷ []) (Ok 2)
noted = refl

-- a note of three is none of it
no_other_count : ¬ NotesCount {E = Failed} (None ∷ []) (None ∷ Some 3 ∷ []) (Ok 2)
no_other_count note = let e : 3 ≡ 2 = ap (λ l. unwrap_or (get_or l 1 None) 0) note in omega (arith, e)

-- nor is a note of a failure
no_failure : ¬ NotesCount {E = Failed} (None ∷ []) (None ∷ None ∷ []) (Ok 2)
no_failure note = let e : 0 ≡ 2 = ap (λ l. unwrap_or (get_or l 1 None) 0) note in omega (arith, e)

-- nor is none at all
no_silence : ¬ NotesCount {E = Failed} (None ∷ []) (None ∷ []) (Ok 2)
no_silence note = let e : 1 ≡ 2 = ap length note in omega (arith, e)

-- ---- has_failure, IsToldByAnswers

-- a read that told the end is no failure
end_is_sound : has_failure (Some 3 ∷ Some 0 ∷ []) ≡ false
end_is_sound = refl

failure_is_told : has_failure (Some 3 ∷ None ∷ []) ≡ true
failure_is_told = refl

-- no stream has failed without an answer that says so
no_silent_failure : ¬ IsToldByAnswers (source [] true (Some 3 ∷ []))
no_silent_failure told = false≢true (sym told)

-- ---- StopsReading: of three bytes

-- no read failed where the source doesn't tell so
no_made_up_failure : ¬ StopsReading fresh (source [] false (Some 3 ∷ [])) faults.Failed
no_made_up_failure stops = false≢true stops

-- three bytes don't go past the limit
no_made_up_length : ¬ StopsReading fresh (source [] false (Some 3 ∷ [])) faults.PastLimit
no_made_up_length stops = omega (arith, stops.0)

-- nor is it told of any bytes that there are too many where a read failed
no_length_for_failure : (bytes : List ℕ) → ¬ StopsReading (source bytes false []) (source [] true (None ∷ [])) faults.PastLimit
no_length_for_failure bytes stops = false≢true (sym stops.1)

-- nor want of memory
no_hidden_failure : ¬ StopsReading fresh (source [] true (None ∷ [])) faults.OutOfMemory
no_hidden_failure stops = false≢true (sym stops)

-- ---- StopsAtFailure, CountsAlone: some bytes came, and then a failure

three_are_some : All (λ n. 0 < n) (3 ∷ [])
three_are_some zero d within = omega arith
three_are_some (suc k) d within = absurd (omega (arith, within))

stopped : StopsAtFailure fresh (source [] true (Some 3 ∷ None ∷ []))
stopped = (3 ∷ [], three_are_some, refl)

-- it isn't asked again once it failed
not_asked_again : ¬ StopsAtFailure fresh (source [] true (None ∷ None ∷ []))
not_asked_again stops = refused stops.0 stops.2
  where
    refused : (counts : List ℕ) → None ∷ None ∷ [] ≡ map Some counts ++ None ∷ [] → ⊥
    refused [] e = let n : 2 ≡ 1 = ap length e in omega (arith, n)
    refused (n ∷ counts) e = false≢true (sym (ap (λ l. is_none (get_or l 0 None)) e))

-- nor where it would then answer
not_tried_again : ¬ CountsAlone fresh (source [] true (None ∷ Some 3 ∷ []))
not_tried_again stops = refused stops.0 stops.2
  where
    refused : (counts : List ℕ) → None ∷ Some 3 ∷ [] ≡ map Some counts ++ [] → ⊥
    refused [] e = let n : 2 ≡ 0 = ap length e in omega (arith, n)
    refused (n ∷ counts) e = false≢true (sym (ap (λ l. is_none (get_or l 0 None)) e))

past_no_failure : ¬ AsksNoMore fresh (source [] true (None ∷ Some 3 ∷ [])) faults.PastLimit
past_no_failure = not_tried_again

-- and a read fails only where it is asked
not_failed_unasked : ¬ AsksNoMore fresh fresh faults.Failed
not_failed_unasked stops = refused stops.0 stops.2
  where
    refused : (counts : List ℕ) → [] ≡ map Some counts ++ None ∷ [] → ⊥
    refused [] e = let n : 0 ≡ 1 = ap length e in omega (arith, n)
    refused (n ∷ counts) e = false≢true (sym (ap (λ l. is_none (get_or l 0 None)) e))

-- ---- StopsAtEnd, AsksNoMore: some bytes came, and then the end

ended : StopsAtEnd fresh (source [] false (Some 3 ∷ Some 0 ∷ []))
ended = (3 ∷ [], three_are_some, refl)

-- no first count is 0
none_is_zero : (counts : List ℕ) (n : ℕ) → All (λ n. 0 < n) (n ∷ counts) → Some 0 ≡ Some n → ⊥
none_is_zero counts n each e = let m : 0 ≡ n = ap (λ o. unwrap_or o 0) e in omega (arith, m, each 0 0 (omega arith))

-- the end isn't asked for twice
not_ended_twice : ¬ StopsAtEnd fresh (source [] false (Some 0 ∷ Some 0 ∷ []))
not_ended_twice stops = refused stops.0 stops.1 stops.2
  where
    refused : (counts : List ℕ) → All (λ n. 0 < n) counts → Some 0 ∷ Some 0 ∷ [] ≡ map Some counts ++ Some 0 ∷ [] → ⊥
    refused [] each e = let n : 2 ≡ 1 = ap length e in omega (arith, n)
    refused (n ∷ counts) each e = none_is_zero counts n each (ap (λ l. get_or l 0 None) e)

-- nor is memory wanted behind the end
not_wanted_at_end : ¬ AsksNoMore fresh (source [] false (Some 0 ∷ [])) faults.OutOfMemory
not_wanted_at_end stops = refused stops.0 stops.1 stops.2
  where
    refused : (counts : List ℕ) → All (λ n. 0 < n) counts → Some 0 ∷ [] ≡ map Some counts ++ [] → ⊥
    refused [] each e = let n : 1 ≡ 0 = ap length e in omega (arith, n)
    refused (n ∷ counts) each e = none_is_zero counts n each (ap (λ l. get_or l 0 None) e)
