-- The first word of a line is what stands after its first blanks, up to the next blank.
use Rattle.std.proofs.Common.{◌≡◌, ℕ, suc, ◌+◌, List, [], ◌∷◌, length, take, drop, Bool, true, false, not, cond, refl, sym, ◌∙◌, ap, one-add, arith, length-drop, ◌<◌, ◌≤◌, ◌==◌, ne_eqb}
use Rattle.std.specs.Prelude.{filter}
use Rattle.std.specs.List.{onto_first, slice_split, position_or_len, prefix_len}
use Rattle.text_lines.specs.Lines.{words_of, is_blank, has_bytes, is_empty}

-- *the blanks before the word*

past_blanks_step : (v : Bool) (b : ℕ) (bs : List ℕ) → is_blank b ≡ v → words_of bs ≡ words_of (drop (prefix_len is_blank bs) bs) → words_of (b ∷ bs) ≡ words_of (drop (cond v (1 + prefix_len is_blank bs) 0) (b ∷ bs))
past_blanks_step true b bs e h = rw (one-add, e) h
past_blanks_step false b bs e h = refl

-- blanks at the front part nothing
pub past_blanks : (bs : List ℕ) → words_of bs ≡ words_of (drop (prefix_len is_blank bs) bs)
past_blanks [] = refl
past_blanks (b ∷ bs) = past_blanks_step (is_blank b) b bs refl (past_blanks bs)

starts_word_step : (v : Bool) (c : ℕ) (cs bs : List ℕ) (b : ℕ) → is_blank c ≡ v → (drop (prefix_len is_blank cs) cs ≡ b ∷ bs → is_blank b ≡ false) → drop (cond v (1 + prefix_len is_blank cs) 0) (c ∷ cs) ≡ b ∷ bs → is_blank b ≡ false
starts_word_step true c cs bs b e next h = next (rw one-add at h)
starts_word_step false c cs bs b e next h = let same : b ≡ c = cc in rw same e

-- what stands after them begins with no blank
pub starts_word : (said : List ℕ) (b : ℕ) (bs : List ℕ) → drop (prefix_len is_blank said) said ≡ b ∷ bs → is_blank b ≡ false
starts_word [] b bs h = cc
starts_word (c ∷ cs) b bs h = starts_word_step (is_blank c) c cs bs b refl (starts_word cs b bs) h

-- *the word*

-- the parts of bs are what stands before its first blank, and others that say what stands from there on
abbrev IsCut : ℕ → List ℕ → Type 0
IsCut n bs = (more : List (List ℕ)) × (slice_split is_blank bs ≡ take n bs ∷ more) × (words_of (drop n bs) ≡ filter has_bytes more)

cut_step : (v : Bool) (b : ℕ) (bs : List ℕ) → is_blank b ≡ v → IsCut (position_or_len is_blank bs) bs → IsCut (cond (not v) (1 + position_or_len is_blank bs) 0) (b ∷ bs)
cut_step true b bs e h = (slice_split is_blank bs, rw e refl, rw e refl)
cut_step false b bs e (more, front, back) = (more, rw (one-add, e) (ap (onto_first b) front), rw one-add back)

cut : (bs : List ℕ) → IsCut (position_or_len is_blank bs) bs
cut [] = ([], refl, refl)
cut (b ∷ bs) = cut_step (is_blank b) b bs refl (cut bs)

from_cut : (n : ℕ) (b : ℕ) (bs : List ℕ) → IsCut (suc n) (b ∷ bs) → words_of (b ∷ bs) ≡ take (suc n) (b ∷ bs) ∷ words_of (drop (suc n) (b ∷ bs))
from_cut n b bs (more, front, back) = ap (filter has_bytes) front ∙ ap (λ words. (b ∷ take n bs) ∷ words) (sym back)

-- a word at the front
pub front_word : (b : ℕ) (bs : List ℕ) → is_blank b ≡ false → words_of (b ∷ bs) ≡ take (suc (position_or_len is_blank bs)) (b ∷ bs) ∷ words_of (drop (suc (position_or_len is_blank bs)) (b ∷ bs))
front_word b bs e = from_cut (position_or_len is_blank bs) b bs (rw one-add at (cut_step false b bs e (cut bs)))

first_word_step : (b : ℕ) (bs word rest : List ℕ) → is_blank b ≡ false → word ≡ take (cond (not false) (1 + position_or_len is_blank bs) 0) (b ∷ bs) → rest ≡ drop (cond (not false) (1 + position_or_len is_blank bs) 0) (b ∷ bs) → (words_of (b ∷ bs) ≡ word ∷ words_of rest) × (length rest ≤ length bs)
first_word_step b bs word rest e front back =
    let front' : word ≡ b ∷ take (position_or_len is_blank bs) bs = rw one-add at front in
    let back' : rest ≡ drop (position_or_len is_blank bs) bs = rw one-add at back in
    (front_word b bs e ∙ rw (front', back') refl, rw back' (omega (arith, length-drop (position_or_len is_blank bs) bs)))

first_word_from : (said after word rest : List ℕ) → after ≡ drop (prefix_len is_blank said) said → 0 < length after → word ≡ take (position_or_len is_blank after) after → rest ≡ drop (position_or_len is_blank after) after → (words_of after ≡ word ∷ words_of rest) × (length rest < length after)
first_word_from said [] word rest past some front back = absurd (omega arith)
first_word_from said (b ∷ bs) word rest past some front back =
    let e : is_blank b ≡ false = starts_word said b bs (sym past) in
    let p : (words_of (b ∷ bs) ≡ word ∷ words_of rest) × (length rest ≤ length bs) = first_word_step b bs word rest e (rw e at front) (rw e at back) in
    (p.0, omega (arith, p.1))

-- the first word, and the words of what stands after it
pub first_word : (said after word rest : List ℕ) → after ≡ drop (prefix_len is_blank said) said → 0 < length after → word ≡ take (position_or_len is_blank after) after → rest ≡ drop (position_or_len is_blank after) after → (words_of said ≡ word ∷ words_of rest) × (length rest < length said)
first_word said after word rest past some front back =
    let p : (words_of after ≡ word ∷ words_of rest) × (length rest < length after) = first_word_from said after word rest past some front back in
    let same : words_of said ≡ words_of after = past_blanks said ∙ rw (← past) refl in
    let shorter : length after ≤ length said = rw past (omega (arith, length-drop (prefix_len is_blank said) said)) in
    (same ∙ p.0, omega (arith, p.1, shorter))

-- nothing but blanks has no word
pub no_word : (said after : List ℕ) → after ≡ drop (prefix_len is_blank said) said → length after ≡ 0 → words_of said ≡ []
no_word said [] past none = past_blanks said ∙ rw (← past) refl
no_word said (b ∷ bs) past none = absurd (omega arith)

-- there is no word exactly where nothing stands after the blanks
pub words_past_blanks : (said after : List ℕ) → after ≡ drop (prefix_len is_blank said) said → (length after == 0) ≡ is_empty (words_of said)
words_past_blanks said [] past = rw (no_word said [] past refl) refl
words_past_blanks said (b ∷ bs) past =
    let p = first_word said (b ∷ bs) _ _ past (omega arith) refl refl in
    rw p.0 (ne_eqb (length (b ∷ bs)) 0 (λ e. omega arith))
