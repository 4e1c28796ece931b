-- The first line of a text is what stands before its first newline.
use Rattle.std.proofs.Common.{◌≡◌, ℕ, ◌+◌, ◌<◌, List, [], ◌∷◌, ◌++◌, length, take, drop, Bool, true, false, not, cond, ◌&&◌, refl, sym, ◌∙◌, ap, ◌-◌, one-add, arith}
use Rattle.std.proofs.lemmas.Bool.{and_parts, not-true, eqb-true}
use Rattle.std.proofs.lemmas.List.{take-append-drop, nil_from_length}
use Rattle.std.proofs.Math.Seq.{take-length}
use Rattle.std.specs.List.{onto_first, position_or_len, list_all}
use Rattle.text_lines.specs.Lines.{lines_of, is_newline}

first_line_step : (v : Bool) (b c : ℕ) (cs : List ℕ) (n : ℕ) → lines_of (c ∷ cs) ≡ take n (c ∷ cs) ∷ lines_of (drop 1 (drop n (c ∷ cs))) → cond v ([] ∷ lines_of (c ∷ cs)) (onto_first b (lines_of (c ∷ cs))) ≡ take (cond (not v) (1 + n) 0) (b ∷ c ∷ cs) ∷ lines_of (drop 1 (drop (cond (not v) (1 + n) 0) (b ∷ c ∷ cs)))
first_line_step true b c cs n h = refl
first_line_step false b c cs n h = rw one-add (ap (onto_first b) h)

first_line_last : (v : Bool) (b : ℕ) → cond v ([] ∷ []) (onto_first b []) ≡ take (cond (not v) (1 + 0) 0) (b ∷ []) ∷ lines_of (drop 1 (drop (cond (not v) (1 + 0) 0) (b ∷ [])))
first_line_last true b = refl
first_line_last false b = refl

before_newline_step : (v : Bool) (b : ℕ) (bs : List ℕ) → is_newline b ≡ v → list_all (λ c. not (is_newline c)) (take (position_or_len is_newline bs) bs) ≡ true → list_all (λ c. not (is_newline c)) (take (cond (not v) (1 + position_or_len is_newline bs) 0) (b ∷ bs)) ≡ true
before_newline_step true b bs e h = refl
before_newline_step false b bs e h = rw one-add (rw e h)

no_newline_step : (v : Bool) (b : ℕ) (bs : List ℕ) → is_newline b ≡ v → (drop (position_or_len is_newline bs) bs ≡ [] → list_all (λ c. not (is_newline c)) bs ≡ true) → drop (cond (not v) (1 + position_or_len is_newline bs) 0) (b ∷ bs) ≡ [] → (not v && list_all (λ c. not (is_newline c)) bs) ≡ true
no_newline_step true b bs e next h = cc
no_newline_step false b bs e next h = next (rw one-add at h)

at_newline_step : (v : Bool) (c : ℕ) (cs rest : List ℕ) (b : ℕ) → is_newline c ≡ v → (drop (position_or_len is_newline cs) cs ≡ b ∷ rest → b ≡ 10) → drop (cond (not v) (1 + position_or_len is_newline cs) 0) (c ∷ cs) ≡ b ∷ rest → b ≡ 10
at_newline_step true c cs rest b e next h = let same : c ≡ b = cc in sym same ∙ eqb-true c 10 e
at_newline_step false c cs rest b e next h = next (rw one-add at h)

-- the first line, and the lines of what stands after its newline
pub first_line : (b : ℕ) (bs : List ℕ) → lines_of (b ∷ bs) ≡ take (position_or_len is_newline (b ∷ bs)) (b ∷ bs) ∷ lines_of (drop 1 (drop (position_or_len is_newline (b ∷ bs)) (b ∷ bs)))
first_line b [] = first_line_last (is_newline b) b
first_line b (c ∷ cs) = first_line_step (is_newline b) b c cs (position_or_len is_newline (c ∷ cs)) (first_line c cs)

-- a line that is ended is the first
pub ended_line : (line rest : List ℕ) → list_all (λ b. not (is_newline b)) line ≡ true → lines_of (line ++ 10 ∷ rest) ≡ line ∷ lines_of rest
ended_line [] rest h = refl
ended_line (b ∷ bs) rest h =
    let p : (not (is_newline b) ≡ true) × (list_all (λ c. not (is_newline c)) bs ≡ true) = and_parts _ _ h in
    let e : is_newline b ≡ false = not-true (is_newline b) p.0 in
    rw e (ap (onto_first b) (ended_line bs rest p.1))

-- what stands before the first newline has none
pub before_newline : (text : List ℕ) → list_all (λ b. not (is_newline b)) (take (position_or_len is_newline text) text) ≡ true
before_newline [] = refl
before_newline (b ∷ bs) = before_newline_step (is_newline b) b bs refl (before_newline bs)

-- a text without a newline is all before it
pub no_newline : (text : List ℕ) → drop (position_or_len is_newline text) text ≡ [] → list_all (λ b. not (is_newline b)) text ≡ true
no_newline [] h = refl
no_newline (b ∷ bs) h = no_newline_step (is_newline b) b bs refl (no_newline bs) h

-- what stands from the first newline on begins with it
pub at_newline : (text rest : List ℕ) (b : ℕ) → drop (position_or_len is_newline text) text ≡ b ∷ rest → b ≡ 10
at_newline [] rest b h = cc
at_newline (c ∷ cs) rest b h = at_newline_step (is_newline c) c cs rest b refl (at_newline cs rest b) h

first_line_of : (text : List ℕ) → 0 < length text → lines_of text ≡ take (position_or_len is_newline text) text ∷ lines_of (drop 1 (drop (position_or_len is_newline text) text))
first_line_of [] some = absurd (omega arith)
first_line_of (b ∷ bs) some = first_line b bs

begins : (text rest : List ℕ) → 0 < length rest → drop (position_or_len is_newline text) text ≡ rest → rest ≡ 10 ∷ drop 1 rest
begins text [] some from = absurd (omega arith)
begins text (b ∷ bs) some from = rw (at_newline text bs b from) refl

-- what stands after the first byte, as a pattern `[_, after @ ..]` gives it
tail_is : (bs : List ℕ) → take (length bs - 1) (drop 1 bs) ≡ drop 1 bs
tail_is [] = refl
tail_is (b ∷ bs) = let e : length (b ∷ bs) - 1 ≡ length bs = omega arith in rw e (take-length bs)

-- a text that is cut at its first newline
module _ (text line rest : List ℕ) (n : ℕ) (at : n ≡ position_or_len is_newline text) (front : line ≡ take n text) (back : rest ≡ drop n text) where
  pub cut_line : 0 < length text → lines_of text ≡ line ∷ lines_of (drop 1 rest)
  cut_line some = rw (front, back, at) (first_line_of text some)

  pub cut_line_more : 0 < length text → lines_of text ≡ line ∷ lines_of (take (length rest - 1) (drop 1 rest))
  cut_line_more some = rw (tail_is rest) (cut_line some)

  pub cut_line_last : 0 < length text → length rest ≡ 0 → lines_of text ≡ line ∷ lines_of rest
  cut_line_last some none = let e : rest ≡ [] = nil_from_length rest none in rw e (rw e at (cut_line some))

  pub cut_first : list_all (λ c. not (is_newline c)) line ≡ true
  cut_first = rw (front, at) (before_newline text)

  pub cut_none : length rest ≡ 0 → list_all (λ c. not (is_newline c)) text ≡ true
  cut_none none = no_newline text (rw (← at) (sym back ∙ nil_from_length rest none))

  pub cut_some : 0 < length rest → text ≡ line ++ 10 ∷ take (length rest - 1) (drop 1 rest)
  cut_some some = rw (tail_is rest) (sym (take-append-drop n text) ∙ rw (← front, ← back) (ap (λ t. line ++ t) (begins text rest some (rw (← at) (sym back)))))
