-- What a loop over the lines of a text needs: how each line and the end of the text lead to what the text says.
use Rattle.std.proofs.Common.{◌≡◌, ℕ, ◌+◌, List, [], ◌∷◌, length, Result, Ok, Err, refl, sym, ap, arith}
use Rattle.text_lines.specs.Lines.{lines_of}
use Rattle.text_lines.specs.Each.{each}
use Rattle.text_lines.specs.Answers.{in_line, IsFaultOf, IsFaultAt}
use Rattle.text_lines.specs.Reading.{at_line, numbered_line, lines_read, text_read}
use Rattle.text_lines.specs.declared.refusal.Refusal.{Refusal}
use Rattle.text_lines.specs.declared.refusal.Refusal.TheVariants as refusals
use Rattle.text_lines.specs.declared.refusal.TextRefusal.{TextRefusal}
use Rattle.text_lines.specs.declared.refusal.TextRefusal.TheVariants as text_refusals
use Rattle.text_lines.proofs.EachLemmas.{each_goes, each_stops, each_ends}
use Rattle.text_lines.proofs.ResultLemmas.{ok_is, err_is, no_fault, no_value}

no_lines : (rest : List ℕ) → length rest ≡ 0 → lines_of rest ≡ []
no_lines [] h = refl
no_lines (b ∷ bs) h = absurd (omega arith)

module _ {S F : Type 0} (line : S → List ℕ → Result S F) where
  -- *one line*

  line_found : (s : S) (n : ℕ) (bytes : List ℕ) (found : Result S F) → line s bytes ≡ found → numbered_line line (s, n) bytes ≡ at_line n found
  unfolding numbered_line
  line_found s n bytes found e = ap (at_line n) e

  at_line_ok : (n : ℕ) (r : Result S F) (u : S × ℕ) → at_line n r ≡ Ok u → (t : S) × (r ≡ Ok t) × (u ≡ (t, n + 1))
  at_line_ok n (Ok t) u h = (t, refl, sym (ok_is (t, n + 1) u h))
  at_line_ok n (Err f) u h = absurd (no_fault (f, n) u h)

  at_line_err : (k : ℕ) (r : Result S F) (f : F) (n : ℕ) → at_line k r ≡ Err (f, n) → (r ≡ Err f) × (k ≡ n)
  at_line_err k (Ok t) f n h = absurd (no_value (t, k + 1) (f, n) h)
  at_line_err k (Err g) f n h = (ap (λ e. Err e.0) (err_is (g, k) (f, n) h), ap (λ e. e.1) (err_is (g, k) (f, n) h))

  -- a line that was taken
  pub line_done : (s : S) (n : ℕ) (bytes : List ℕ) (u : S × ℕ) → numbered_line line (s, n) bytes ≡ Ok u → (t : S) × (line s bytes ≡ Ok t) × (u ≡ (t, n + 1))
  unfolding numbered_line
  line_done s n bytes u h = at_line_ok n (line s bytes) u h

  -- a line with a fault
  pub line_fault : (s : S) (k : ℕ) (bytes : List ℕ) (f : F) (n : ℕ) → numbered_line line (s, k) bytes ≡ Err (f, n) → (line s bytes ≡ Err f) × (k ≡ n)
  unfolding numbered_line
  line_fault s k bytes f n h = at_line_err k (line s bytes) f n h

  pub fault_line : (s : S) (n : ℕ) (bytes : List ℕ) (f : F) → line s bytes ≡ Err f → numbered_line line (s, n) bytes ≡ Err (f, n)
  fault_line s n bytes f h = line_found s n bytes (Err f) h

  -- *a loop over the lines that has come to the line numbered n*

  module _ (s : S) (n : ℕ) (lines : List (List ℕ)) (all : Result (S × ℕ) (F × ℕ)) (so_far : each (numbered_line line) (s, n) lines ≡ all) where
    -- the line is taken
    pub line_goes : (bytes : List ℕ) (more : List (List ℕ)) → lines ≡ bytes ∷ more → (t : S) → line s bytes ≡ Ok t → each (numbered_line line) (t, n + 1) more ≡ all
    line_goes bytes more first t h = each_goes (numbered_line line) (s, n) lines all so_far bytes more (t, n + 1) first (line_found s n bytes (Ok t) h)

    -- the line is refused
    pub line_stops : (bytes : List ℕ) (more : List (List ℕ)) → lines ≡ bytes ∷ more → (r : Refusal F) → IsFaultOf r (line s bytes) → IsFaultAt (in_line n r) all
    line_stops bytes more first (refusals.Fault f) h = each_stops (numbered_line line) (s, n) lines all so_far bytes more (f, n) first (fault_line s n bytes f h)
    line_stops bytes more first refusals.OutOfMemory h = tt

    -- there are no more lines
    pub lines_end : lines ≡ [] → all ≡ Ok (s, n)
    lines_end e = each_ends (numbered_line line) (s, n) lines all so_far e

  -- there is no more text
  pub text_ends : (s : S) (n : ℕ) (rest : List ℕ) (all : Result (S × ℕ) (F × ℕ)) → each (numbered_line line) (s, n) (lines_of rest) ≡ all → length rest ≡ 0 → all ≡ Ok (s, n)
  text_ends s n rest all so_far none = lines_end s n (lines_of rest) all so_far (no_lines rest none)

  -- *the whole text*

  module _ {P : Type 0} (nothing : S) (whole : S → Result P F) (lines : List (List ℕ)) where
    -- a line is refused
    pub text_refused : (r : TextRefusal F) → IsFaultAt r (lines_read line nothing lines) → IsFaultAt r (text_read line nothing whole lines)
    unfolding text_read
    text_refused (text_refusals.Fault f n) h = rw h refl
    text_refused text_refusals.OutOfMemory h = tt

    module _ (s : S) (n : ℕ) (read : lines_read line nothing lines ≡ Ok (s, n)) where
      -- the whole is taken
      pub text_ok : (p : P) → whole s ≡ Ok p → text_read line nothing whole lines ≡ Ok p
      unfolding text_read
      text_ok p h = rw (read, h) refl

      -- the whole is refused
      pub end_refused : (r : Refusal F) → IsFaultOf r (whole s) → IsFaultAt (in_line 0 r) (text_read line nothing whole lines)
      unfolding text_read
      end_refused (refusals.Fault f) h = rw (read, h) refl
      end_refused refusals.OutOfMemory h = tt
