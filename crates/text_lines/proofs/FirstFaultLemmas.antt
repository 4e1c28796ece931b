-- The fault that is found is the one of the first line with a fault, or of the whole text where no line has one.
use Rattle.std.proofs.Common.{◌≡◌, ◌<◌, ◌⊎◌, inl, inr, ℕ, ◌+◌, List, [], ◌∷◌, length, Result, Ok, Err, refl, sym, ap, ◌∙◌, subst, arith}
use Rattle.text_lines.specs.Each.{each, Fails}
use Rattle.text_lines.specs.Reading.{numbered_line, lines_read, at_end, text_read, IsFirstFault, IsFaultOfWhole}
use Rattle.text_lines.proofs.EachLemmas.{each_none, each_parts, fails, from_fails}
use Rattle.text_lines.proofs.ResultLemmas.{bind_ok, bind_err, ok_is, err_is, no_fault, no_value}
use Rattle.text_lines.proofs.ReadingLemmas.{line_done, line_fault, fault_line}

module _ {S F : Type 0} (line : S → List ℕ → Result S F) where
  -- *numbers of lines*

  -- each line counts one
  pub lines_counted : (lines : List (List ℕ)) (s t : S) (k n : ℕ) → each (numbered_line line) (s, k) lines ≡ Ok (t, n) → n ≡ k + length lines
  lines_counted [] s t k n h = let e : k ≡ n = ap (λ u. u.1) (each_none (numbered_line line) (s, k) (t, n) h) in omega arith
  lines_counted (bytes ∷ lines) s t k n h = step (λ r. lines_counted lines r t (k + 1) n) (each_parts (numbered_line line) (s, k) bytes lines (t, n) h)
    where
      step : ((r : S) → each (numbered_line line) (r, k + 1) lines ≡ Ok (t, n) → n ≡ k + 1 + length lines) → (u : S × ℕ) × (numbered_line line (s, k) bytes ≡ Ok u) × (each (numbered_line line) u lines ≡ Ok (t, n)) → n ≡ k + length (bytes ∷ lines)
      step later (u, a, b) =
          let d = line_done line s k bytes u a in
          let e = later d.0 (subst (λ v. each (numbered_line line) v lines ≡ Ok (t, n)) d.2 b) in
          omega arith

  module _ (nothing : S) (lines : List (List ℕ)) (f : F) (n : ℕ) where
    -- *the first line with a fault*

    pub lines_first : lines_read line nothing lines ≡ Err (f, n) → IsFirstFault line nothing lines f n
    lines_first h = step (fails (numbered_line line) lines (nothing, 1) (f, n) h)
      where
        step : Fails (numbered_line line) (nothing, 1) lines (f, n) → IsFirstFault line nothing lines f n
        step (front, bytes, rest, (s, k), parts, read, stop) =
            let d = line_fault line s k bytes f n stop in
            let e = lines_counted front nothing s 1 k read in
            (front, bytes, rest, s, parts, record { number = omega (arith, d.1); read = subst (λ m. lines_read line nothing front ≡ Ok (s, m)) d.1 read; fault = d.0 })

    pub first_lines : IsFirstFault line nothing lines f n → lines_read line nothing lines ≡ Err (f, n)
    first_lines (front, bytes, rest, s, parts, first) =
        from_fails (numbered_line line) lines (nothing, 1) (f, n) (front, bytes, rest, (s, n), parts, first.read, fault_line line s n bytes f first.fault)

    -- *the whole text*

    module _ {P : Type 0} (whole : S → Result P F) where
      at_end_fault : (s : S) (m : ℕ) → lines_read line nothing lines ≡ Ok (s, m) → (r : Result P F) → whole s ≡ r → at_end r ≡ Err (f, n) → (n ≡ 0) × IsFaultOfWhole line nothing whole lines f
      at_end_fault s m read (Ok p) e h = absurd (no_value p (f, n) h)
      at_end_fault s m read (Err g) e h = step (err_is (g, 0) (f, n) h)
        where
          step : ◌≡◌ {A = F × ℕ} (g, 0) (f, n) → (n ≡ 0) × IsFaultOfWhole line nothing whole lines f
          step d = (sym (ap {A = F × ℕ} (λ v. v.1) d), (s, m, read, e ∙ ap {A = F × ℕ} (λ v. Err v.0) d))

      pub found_by : text_read line nothing whole lines ≡ Err (f, n) → IsFirstFault line nothing lines f n ⊎ ((n ≡ 0) × IsFaultOfWhole line nothing whole lines f)
      unfolding text_read
      found_by h = step (bind_err (lines_read line nothing lines) (λ read. at_end (whole read.0)) (f, n) h)
        where
          step : (lines_read line nothing lines ≡ Err (f, n)) ⊎ ((u : S × ℕ) × (lines_read line nothing lines ≡ Ok u) × (at_end (whole u.0) ≡ Err (f, n))) → IsFirstFault line nothing lines f n ⊎ ((n ≡ 0) × IsFaultOfWhole line nothing whole lines f)
          step (inl e) = inl (lines_first e)
          step (inr ((s, m), read, e)) = inr (at_end_fault s m read (whole s) refl e)

module _ {S P F : Type 0} (line : S → List ℕ → Result S F) (nothing : S) (whole : S → Result P F) (lines : List (List ℕ)) (f : F) where
  pub first_fault : (n : ℕ) → 0 < n → text_read line nothing whole lines ≡ Err (f, n) → IsFirstFault line nothing lines f n
  first_fault n some h = step (found_by line nothing lines f n whole h)
    where
      step : IsFirstFault line nothing lines f n ⊎ ((n ≡ 0) × IsFaultOfWhole line nothing whole lines f) → IsFirstFault line nothing lines f n
      step (inl first) = first
      step (inr (none, end)) = absurd (omega (arith, none))

  pub from_first_fault : (n : ℕ) → IsFirstFault line nothing lines f n → text_read line nothing whole lines ≡ Err (f, n)
  unfolding text_read
  from_first_fault n first = rw (first_lines line nothing lines f n first) refl

  pub whole_fault : text_read line nothing whole lines ≡ Err (f, 0) → IsFaultOfWhole line nothing whole lines f
  whole_fault h = step (found_by line nothing lines f 0 whole h)
    where
      step : IsFirstFault line nothing lines f 0 ⊎ ((◌≡◌ {A = ℕ} 0 0) × IsFaultOfWhole line nothing whole lines f) → IsFaultOfWhole line nothing whole lines f
      step (inl (front, bytes, rest, s, parts, first)) = absurd (omega (arith, first.number))
      step (inr (none, end)) = end

  pub from_whole_fault : IsFaultOfWhole line nothing whole lines f → text_read line nothing whole lines ≡ Err (f, 0)
  unfolding text_read
  from_whole_fault (s, n, read, h) = rw (read, h) refl

at_end_ok : {P F : Type 0} (r : Result P F) (p : P) → at_end r ≡ Ok p → r ≡ Ok p
at_end_ok (Ok q) p h = ap (λ x. Ok x) (ok_is q p h)
at_end_ok (Err g) p h = absurd (no_fault (g, 0) p h)

-- a text that says p
pub text_parts : {S P F : Type 0} (line : S → List ℕ → Result S F) (nothing : S) (whole : S → Result P F) (lines : List (List ℕ)) (p : P) → text_read line nothing whole lines ≡ Ok p → (s : S) × (n : ℕ) × (lines_read line nothing lines ≡ Ok (s, n)) × (whole s ≡ Ok p)
unfolding text_read
text_parts line nothing whole lines p h =
    let b = bind_ok (lines_read line nothing lines) (λ read. at_end (whole read.0)) p h in
    (b.0.0, b.0.1, b.1, at_end_ok (whole b.0.0) p b.2)
