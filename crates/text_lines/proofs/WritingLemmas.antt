-- Lines of words that are written are read as they were meant.
use Rattle.std.proofs.Common.{◌^◌, decimal, ◌<◌, ◌≡◌, ℕ, zero, suc, ◌-◌, ◌==◌, List, [], ◌∷◌, ◌++◌, map, length, get_or, Bool, true, false, not, ◌||◌, refl, sym, ◌∙◌, ap, one-add, arith, append_assoc, append-nil}
use Rattle.std.specs.Prelude.{filter}
use Rattle.std.proofs.lemmas.Bool.{and_parts, and_from, not-true}
use Rattle.std.proofs.lemmas.Bool.Decides.{nat_tests}
use Rattle.std.specs.List.{onto_first, slice_split, list_all, before_first}
use Rattle.text_lines.specs.Lines.{lines_of, words_of, is_blank, has_bytes, is_newline, is_one_line, is_plain, begins_comment, outside_comment, without_return}
use Rattle.text_lines.specs.Writing.{is_word_byte, is_word, spaced, words_after, line_text, text_of, words_of_line, are_plain}
use Rattle.text_lines.specs.Numbers.{is_digit, begins_well}
use Rattle.text_lines.proofs.LineLemmas.{ended_line}
use Rattle.text_lines.proofs.NumberLemmas.{printed_is_decimal}

-- *the bytes of a line*

-- a byte of a word, or the space between two
abbrev is_written : ℕ → Bool
is_written b = is_word_byte b || (b == 32)

weaker : (p q : ℕ → Bool) → ((b : ℕ) → p b ≡ true → q b ≡ true) → (bs : List ℕ) → list_all p bs ≡ true → list_all q bs ≡ true
weaker p q h [] all = refl
weaker p q h (b ∷ bs) all =
    let e : (p b ≡ true) × (list_all p bs ≡ true) = and_parts _ _ all in
    and_from (q b) (list_all q bs) (h b e.0) (weaker p q h bs e.1)

all-append : (p : ℕ → Bool) (xs ys : List ℕ) → list_all p xs ≡ true → list_all p ys ≡ true → list_all p (xs ++ ys) ≡ true
all-append p [] ys h k = k
all-append p (x ∷ xs) ys h k =
    let e : (p x ≡ true) × (list_all p xs ≡ true) = and_parts _ _ h in
    and_from (p x) (list_all p (xs ++ ys)) e.0 (all-append p xs ys e.1 k)

word_byte_is_written : (b : ℕ) → is_word_byte b ≡ true → is_written b ≡ true
word_byte_is_written b h = rw h refl

word_byte_no_blank : (b : ℕ) → is_word_byte b ≡ true → not (is_blank b) ≡ true
word_byte_no_blank b h = grind (arith, nat_tests)

written_no_newline : (b : ℕ) → is_written b ≡ true → not (is_newline b) ≡ true
written_no_newline b h = grind (arith, nat_tests)

written_no_return : (b : ℕ) → is_written b ≡ true → not (b == 13) ≡ true
written_no_return b h = grind (arith, nat_tests)

written_no_comment : (b : ℕ) → is_written b ≡ true → not (begins_comment b) ≡ true
written_no_comment b h = grind (arith, nat_tests)

written_is_plain : (b : ℕ) → is_written b ≡ true → is_plain b ≡ true
written_is_plain b h = grind (arith, nat_tests)

word_is_written : (word : List ℕ) → is_word word ≡ true → list_all is_written word ≡ true
word_is_written word h =
    let e : (has_bytes word ≡ true) × (list_all is_word_byte word ≡ true) = and_parts _ _ h in
    weaker is_word_byte is_written word_byte_is_written word e.1

line_is_written : (words : List (List ℕ)) → list_all is_word words ≡ true → list_all is_written (spaced words) ≡ true
line_is_written [] h = refl
line_is_written (w ∷ []) h = let e : (is_word w ≡ true) × (true ≡ true) = and_parts _ _ h in word_is_written w e.0
line_is_written (w ∷ v ∷ words) h =
    let e : (is_word w ≡ true) × (list_all is_word (v ∷ words) ≡ true) = and_parts _ _ h in
    all-append is_written w (32 ∷ spaced (v ∷ words)) (word_is_written w e.0) (line_is_written (v ∷ words) e.1)

-- *what stands outside the comment*

no_return_at : (bs : List ℕ) (i : ℕ) → list_all (λ b. not (b == 13)) bs ≡ true → (get_or bs i 0 == 13) ≡ false
no_return_at [] i h = refl
no_return_at (b ∷ bs) zero h = let e : (not (b == 13) ≡ true) × (list_all (λ c. not (c == 13)) bs ≡ true) = and_parts _ _ h in not-true (b == 13) e.0
no_return_at (b ∷ bs) (suc i) h = let e : (not (b == 13) ≡ true) × (list_all (λ c. not (c == 13)) bs ≡ true) = and_parts _ _ h in no_return_at bs i e.1

no_comment_all : (bs : List ℕ) → list_all (λ b. not (begins_comment b)) bs ≡ true → before_first begins_comment bs ≡ bs
no_comment_all [] h = refl
no_comment_all (b ∷ bs) h =
    let e : (not (begins_comment b) ≡ true) × (list_all (λ c. not (begins_comment c)) bs ≡ true) = and_parts _ _ h in
    let n : begins_comment b ≡ false = not-true (begins_comment b) e.0 in
    rw (n, one-add) (ap (λ cs. b ∷ cs) (no_comment_all bs e.1))

-- a line of words has no comment
pub all_outside : (bs : List ℕ) → list_all is_written bs ≡ true → outside_comment bs ≡ bs
all_outside bs h =
    let r : without_return bs ≡ bs = rw (no_return_at bs (length bs - 1) (weaker is_written (λ b. not (b == 13)) written_no_return bs h)) refl in
    rw r (no_comment_all bs (weaker is_written (λ b. not (begins_comment b)) written_no_comment bs h))

-- *the words of a line*

split_before : (w rest : List ℕ) → list_all (λ b. not (is_blank b)) w ≡ true → slice_split is_blank (w ++ 32 ∷ rest) ≡ w ∷ slice_split is_blank rest
split_before [] rest h = refl
split_before (b ∷ w) rest h =
    let e : (not (is_blank b) ≡ true) × (list_all (λ c. not (is_blank c)) w ≡ true) = and_parts _ _ h in
    let n : is_blank b ≡ false = not-true (is_blank b) e.0 in
    rw n (ap (onto_first b) (split_before w rest e.1))

split_none : (w : List ℕ) → list_all (λ b. not (is_blank b)) w ≡ true → slice_split is_blank w ≡ w ∷ []
split_none [] h = refl
split_none (b ∷ w) h =
    let e : (not (is_blank b) ≡ true) × (list_all (λ c. not (is_blank c)) w ≡ true) = and_parts _ _ h in
    let n : is_blank b ≡ false = not-true (is_blank b) e.0 in
    rw n (ap (onto_first b) (split_none w e.1))

-- a word and a space at the front
pub word_before : (w rest : List ℕ) → is_word w ≡ true → words_of (w ++ 32 ∷ rest) ≡ w ∷ words_of rest
word_before w rest h =
    let e : (has_bytes w ≡ true) × (list_all is_word_byte w ≡ true) = and_parts _ _ h in
    ap (filter has_bytes) (split_before w rest (weaker is_word_byte (λ b. not (is_blank b)) word_byte_no_blank w e.1)) ∙ rw (e.0) refl

pub word_alone : (w : List ℕ) → is_word w ≡ true → words_of w ≡ w ∷ []
word_alone w h =
    let e : (has_bytes w ≡ true) × (list_all is_word_byte w ≡ true) = and_parts _ _ h in
    ap (filter has_bytes) (split_none w (weaker is_word_byte (λ b. not (is_blank b)) word_byte_no_blank w e.1)) ∙ rw (e.0) refl

-- the words of words with spaces between them
pub spaced_words : (words : List (List ℕ)) → list_all is_word words ≡ true → words_of (spaced words) ≡ words
spaced_words [] h = refl
spaced_words (w ∷ []) h = let e : (is_word w ≡ true) × (true ≡ true) = and_parts _ _ h in word_alone w e.0
spaced_words (w ∷ v ∷ words) h =
    let e : (is_word w ≡ true) × (list_all is_word (v ∷ words) ≡ true) = and_parts _ _ h in
    word_before w (spaced (v ∷ words)) e.0 ∙ ap (λ rest. w ∷ rest) (spaced_words (v ∷ words) e.1)

-- *the main proofs*

-- words that are written have no newline
pub words_one_line : (words : List (List ℕ)) → list_all is_word words ≡ true → is_one_line (spaced words) ≡ true
words_one_line words h = weaker is_written (λ b. not (is_newline b)) written_no_newline (spaced words) (line_is_written words h)

-- a line that is written is the first line
pub line_before : (words : List (List ℕ)) (rest : List ℕ) → list_all is_word words ≡ true → lines_of (line_text words ++ rest) ≡ spaced words ∷ lines_of rest
line_before words rest h =
    rw (append_assoc (spaced words) (10 ∷ []) rest)
    (ended_line (spaced words) rest (words_one_line words h))

-- and says its words
pub line_said : (words : List (List ℕ)) → list_all is_word words ≡ true → words_of_line (spaced words) ≡ words
line_said words h = rw (all_outside (spaced words) (line_is_written words h)) (spaced_words words h)

pub written_lines : (lines : List (List (List ℕ))) → list_all (list_all is_word) lines ≡ true → lines_of (text_of lines) ≡ map spaced lines
written_lines [] h = refl
written_lines (words ∷ lines) h =
    let e : (list_all is_word words ≡ true) × (list_all (list_all is_word) lines ≡ true) = and_parts _ _ h in
    line_before words (text_of lines) e.0 ∙ ap (λ rest. spaced words ∷ rest) (written_lines lines e.1)

spaced_said : (lines : List (List (List ℕ))) → list_all (list_all is_word) lines ≡ true → map words_of_line (map spaced lines) ≡ lines
spaced_said [] h = refl
spaced_said (words ∷ lines) h =
    let e : (list_all is_word words ≡ true) × (list_all (list_all is_word) lines ≡ true) = and_parts _ _ h in
    ap (λ l. l ∷ map words_of_line (map spaced lines)) (line_said words e.0) ∙ ap (λ rest. words ∷ rest) (spaced_said lines e.1)

line_is_plain : (words : List (List ℕ)) → list_all is_word words ≡ true → list_all is_plain (outside_comment (spaced words)) ≡ true
line_is_plain words h = rw (all_outside (spaced words) (line_is_written words h)) (weaker is_written is_plain written_is_plain (spaced words) (line_is_written words h))

spaced_are_plain : (lines : List (List (List ℕ))) → list_all (list_all is_word) lines ≡ true → are_plain (map spaced lines) ≡ true
spaced_are_plain [] h = refl
spaced_are_plain (words ∷ lines) h =
    let e : (list_all is_word words ≡ true) × (list_all (list_all is_word) lines ≡ true) = and_parts _ _ h in
    and_from (list_all is_plain (outside_comment (spaced words))) (are_plain (map spaced lines)) (line_is_plain words e.0) (spaced_are_plain lines e.1)

-- lines of words that are written are read as the same lines of words
pub written_said : (lines : List (List (List ℕ))) → list_all (list_all is_word) lines ≡ true → map words_of_line (lines_of (text_of lines)) ≡ lines
written_said lines h = rw (written_lines lines h) (spaced_said lines h)

pub written_plain : (lines : List (List (List ℕ))) → list_all (list_all is_word) lines ≡ true → are_plain (lines_of (text_of lines)) ≡ true
written_plain lines h = rw (written_lines lines h) (spaced_are_plain lines h)

-- *a line that is written word by word*

pub joined : (key : List ℕ) (words : List (List ℕ)) → spaced (key ∷ words) ≡ key ++ words_after words
joined key [] = sym (append-nil key)
joined key (w ∷ words) = ap (λ bs. key ++ 32 ∷ bs) (joined w words)

-- a line that is ended
pub line_ends : (text old key : List ℕ) (words : List (List ℕ)) → text ≡ (old ++ key) ++ words_after words → text ++ 10 ∷ [] ≡ old ++ line_text (key ∷ words)
line_ends text old key words e =
    ap (λ bs. bs ++ 10 ∷ []) (e ∙ append_assoc old key (words_after words) ∙ ap (λ bs. old ++ bs) (sym (joined key words)))
    ∙ append_assoc old (spaced (key ∷ words)) (10 ∷ [])

-- a line of a key and words after it, written in three steps
pub line_written : (old key first second new : List ℕ) (words : List (List ℕ)) → first ≡ old ++ key → second ≡ first ++ words_after words → new ≡ second ++ 10 ∷ [] → new ≡ old ++ line_text (key ∷ words)
line_written old key first second new words e f g = g ∙ line_ends second old key words (f ∙ ap (λ bs. bs ++ words_after words) e)

-- *numbers*

digit_in_word : (b : ℕ) → is_digit b ≡ true → is_word_byte b ≡ true
digit_in_word b h = grind (arith, nat_tests)

some_bytes : (word : List ℕ) → begins_well word ≡ true → has_bytes word ≡ true
some_bytes [] h = cc
some_bytes (b ∷ bs) h = refl

-- the text of a number is a word
pub printed_is_word : (n : ℕ) → n < 2 ^ 64 → is_word (decimal n) ≡ true
printed_is_word n h =
    let e : (begins_well (decimal n) ≡ true) × (list_all is_digit (decimal n) ≡ true) = and_parts _ _ (printed_is_decimal n h) in
    and_from (has_bytes (decimal n)) (list_all is_word_byte (decimal n)) (some_bytes (decimal n) e.0) (weaker is_digit is_word_byte digit_in_word (decimal n) e.1)
