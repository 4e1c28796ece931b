-- What the reader's loops find.
use Rattle.std.proofs.Common.{◌≡◌, ℕ, ◌+◌, ◌-◌, ◌<◌, Bool, true, false, not, cond, List, [], ◌∷◌, ◌++◌, length, take, drop, Option, Some, None, refl, sym, ◌∙◌, ap, arith, one-add, append_assoc, append-nil}
use Rattle.std.proofs.Math.Seq.{take-length}
use Rattle.std.specs.Prelude.{is_some, option_map}
use Rattle.std.specs.List.{onto_first, slice_split, position_or_len}
use Rattle.debug_language.specs.Reader.{number_in, numbers_from, is_comma}

-- *a loop that has read the numbers `old` with words to go, where all words give `all`*

abbrev pub IsReadTo : List ℕ → List (List ℕ) → Option (List ℕ) → Type 0
IsReadTo old words all = option_map (λ ns. old ++ ns) (numbers_from words) ≡ all

module _ (old : List ℕ) (words : List (List ℕ)) (all : Option (List ℕ)) (so_far : IsReadTo old words all) where
  -- one number more
  pub numbers_go : (word : List ℕ) (more : List (List ℕ)) (n : ℕ) → words ≡ word ∷ more → number_in word ≡ Some n → IsReadTo (old ++ n ∷ []) more all
  unfolding numbers_from
  numbers_go word more n e found = goes (numbers_from more) ∙ rw (e, found) at so_far
    where
      goes : (rest : Option (List ℕ)) → option_map (λ ns. (old ++ n ∷ []) ++ ns) rest ≡ option_map (λ ns. old ++ ns) (option_map (λ ns. n ∷ ns) rest)
      goes None = refl
      goes (Some ns) = rw append_assoc refl

  -- a word that is none
  pub numbers_stop : (word : List ℕ) (more : List (List ℕ)) → words ≡ word ∷ more → number_in word ≡ None → all ≡ None
  unfolding numbers_from
  numbers_stop word more e none = sym so_far ∙ rw (e, none) refl

  -- no more words
  pub numbers_end : words ≡ [] → all ≡ Some old
  unfolding numbers_from
  numbers_end e = sym so_far ∙ rw e (rw append-nil refl)

-- *a loop with words to go, where `all` tells whether all words are numbers*

module _ (words : List (List ℕ)) (all : Bool) (so_far : is_some (numbers_from words) ≡ all) where
  -- one number more
  pub number_goes : (word : List ℕ) (more : List (List ℕ)) (n : ℕ) → words ≡ word ∷ more → number_in word ≡ Some n → is_some (numbers_from more) ≡ all
  unfolding numbers_from
  number_goes word more n e is = same (numbers_from more) ∙ rw (e, is) at so_far
    where
      same : (rest : Option (List ℕ)) → is_some rest ≡ is_some (option_map (λ ns. n ∷ ns) rest)
      same None = refl
      same (Some ns) = refl

  -- a word that is none
  pub number_stops : (word : List ℕ) (more : List (List ℕ)) → words ≡ word ∷ more → number_in word ≡ None → all ≡ false
  unfolding numbers_from
  number_stops word more e none = sym so_far ∙ rw (e, none) refl

  -- no more words
  pub number_ends : words ≡ [] → all ≡ true
  unfolding numbers_from
  number_ends e = sym so_far ∙ rw e refl

-- *what stands between commas*

-- the parts of what stands from a comma on
abbrev after_comma : List ℕ → List (List ℕ)
after_comma [] = []
after_comma (b ∷ bs) = slice_split is_comma bs

cut_step : (v : Bool) (b : ℕ) (bs : List ℕ) → is_comma b ≡ v → slice_split is_comma bs ≡ take (position_or_len is_comma bs) bs ∷ after_comma (drop (position_or_len is_comma bs) bs) → slice_split is_comma (b ∷ bs) ≡ take (cond (not v) (1 + position_or_len is_comma bs) 0) (b ∷ bs) ∷ after_comma (drop (cond (not v) (1 + position_or_len is_comma bs) 0) (b ∷ bs))
cut_step true b bs e h = rw e refl
cut_step false b bs e h = rw (one-add, e) (ap (onto_first b) h)

cut : (bs : List ℕ) → slice_split is_comma bs ≡ take (position_or_len is_comma bs) bs ∷ after_comma (drop (position_or_len is_comma bs) bs)
cut [] = refl
cut (b ∷ bs) = cut_step (is_comma b) b bs refl (cut bs)

after_none : (rest : List ℕ) → length rest ≡ 0 → after_comma rest ≡ []
after_none [] none = refl
after_none (b ∷ bs) none = absurd (omega arith)

after_more : (rest : List ℕ) → 0 < length rest → after_comma rest ≡ slice_split is_comma (take (length rest - 1) (drop 1 rest))
after_more [] some = absurd (omega arith)
after_more (b ∷ bs) some = let e : length (b ∷ bs) - 1 ≡ length bs = omega arith in rw (e, take-length bs) refl

-- a word that is cut at its first comma
module _ (word part rest : List ℕ) (n : ℕ) (at : n ≡ position_or_len is_comma word) (front : part ≡ take n word) (back : rest ≡ drop n word) where
  pub part_last : length rest ≡ 0 → slice_split is_comma word ≡ part ∷ []
  part_last none =
      let same : after_comma (drop (position_or_len is_comma word) word) ≡ after_comma rest = rw (← at, ← back) refl in
      cut word ∙ ap (λ more. take (position_or_len is_comma word) word ∷ more) (same ∙ after_none rest none) ∙ ap (λ first. first ∷ []) (sym (rw at at front))

  pub part_more : 0 < length rest → slice_split is_comma word ≡ part ∷ slice_split is_comma (take (length rest - 1) (drop 1 rest))
  part_more some =
      let same : after_comma (drop (position_or_len is_comma word) word) ≡ after_comma rest = rw (← at, ← back) refl in
      cut word ∙ ap (λ more. take (position_or_len is_comma word) word ∷ more) (same ∙ after_more rest some) ∙ ap (λ first. first ∷ slice_split is_comma (take (length rest - 1) (drop 1 rest))) (sym (rw at at front))
