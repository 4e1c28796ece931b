-- How the writers' steps make the lines of replies.
use Rattle.std.proofs.Common.{◌≡◌, ℕ, ◌<◌, ◌≤◌, true, List, [], ◌∷◌, ◌++◌, length, get_or, map, codes, refl, sym, ◌∙◌, ap, subst, arith, append_assoc, append-nil}
use Rattle.std.specs.List.{list_all}
use Rattle.std.proofs.lemmas.List.{length-map, get_or-map}
use Rattle.std.proofs.lemmas.List.Sums.{AllPass-from_list_all}
use Rattle.std.proofs.lemmas.Grind.{flat_map-append}
use Rattle.text_lines.specs.Writing.{spaced, words_after, line_text}
use Rattle.text_lines.proofs.WritingLemmas.{joined, line_written}
use Rattle.cover_problem.specs.Problem.{is_item, name_at}
use Rattle.cover_problem.proofs.BoundLemmas.{item_bounds}
use Rattle.debug_language.specs.Replies.{covered_words}

-- *lists that may be empty*

pub covered_some : (names : List (List ℕ)) (items : List ℕ) → 0 < length items → covered_words names items ≡ codes "covered" ∷ map (name_at names) items
covered_some names [] h = absurd (omega arith)
covered_some names (item ∷ items) h = refl

-- *a word before others*

-- a key, a word and other words
pub word_line : (old key word one two three new : List ℕ) (words : List (List ℕ)) → one ≡ old ++ key → two ≡ one ++ 32 ∷ word → three ≡ two ++ words_after words → new ≡ three ++ 10 ∷ [] → new ≡ old ++ line_text (key ∷ word ∷ words)
word_line old key word one two three new words a b c d =
    let all : three ≡ one ++ words_after (word ∷ words) = rw (c, b) (simp append_assoc) in
    line_written old key one three new (word ∷ words) a all d

-- *branches*

-- a key and the words of two cuts
pub cuts_written : (old key one two three new to : List ℕ) (lo hi : List (List ℕ)) → one ≡ old ++ key → two ≡ one ++ words_after lo → three ≡ two ++ 32 ∷ to → new ≡ three ++ words_after hi → new ≡ old ++ spaced (key ∷ lo ++ to ∷ hi)
cuts_written old key one two three new to lo hi a b c d =
    let words : words_after (lo ++ to ∷ hi) ≡ words_after lo ++ words_after (to ∷ hi) = flat_map-append (λ word. 32 ∷ word) lo (to ∷ hi) in
    rw (d, c, b, a, joined, words) (simp append_assoc)

-- words after others in a line
pub word_joined : (key word : List ℕ) (words : List (List ℕ)) → spaced (key ∷ words) ++ 32 ∷ word ≡ spaced (key ∷ words ++ word ∷ [])
word_joined key word words =
    let all : words_after (words ++ word ∷ []) ≡ words_after words ++ words_after (word ∷ []) = flat_map-append (λ w. 32 ∷ w) words (word ∷ []) in
    rw (joined, joined, all) (simp (append_assoc, append-nil))

-- a line with one more word at its end
pub standing_written : (old key word one two new : List ℕ) (words : List (List ℕ)) → one ≡ old ++ spaced (key ∷ words) → two ≡ one ++ 32 ∷ word → new ≡ two ++ 10 ∷ [] → new ≡ old ++ line_text (key ∷ words ++ word ∷ [])
standing_written old key word one two new words a b c =
    let all : two ≡ old ++ spaced (key ∷ words ++ word ∷ []) = b ∙ ap (λ bs. bs ++ 32 ∷ word) a ∙ append_assoc old (spaced (key ∷ words)) (32 ∷ word) ∙ ap (λ bs. old ++ bs) (word_joined key word words) in
    c ∙ ap (λ bs. bs ++ 10 ∷ []) all ∙ append_assoc old (spaced (key ∷ words ++ word ∷ [])) (10 ∷ [])

-- *items*

-- the item of a row among rows of items
pub row_item : {X : Type 0} (value : X → ℕ × List ℕ) (n : ℕ) (rows : List X) (i : ℕ) (row : X) → list_all (λ r. is_item n r.0) (map value rows) ≡ true → i < length rows → row ≡ get_or rows i row → (0 < (value row).0) × ((value row).0 ≤ n)
row_item value n rows i row h l at =
    let m : i < length (map value rows) = rw length-map l in
    let e : get_or (map value rows) i (0, []) ≡ value row = get_or-map value rows i row (0, []) l ∙ ap value (sym at) in
    let item : is_item n (value row).0 ≡ true = subst (λ (r : ℕ × List ℕ). is_item n r.0 ≡ true) e (AllPass-from_list_all (λ r. is_item n r.0) (map value rows) h i (0, []) m) in
    item_bounds n (value row).0 item
