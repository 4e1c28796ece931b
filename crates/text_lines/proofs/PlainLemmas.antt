-- What the words of a line are made of, and that a plain line says words alone.
use Rattle.std.proofs.Common.{◌≡◌, ℕ, ◌+◌, List, [], ◌∷◌, map, take, Bool, true, false, not, cond, ◌&&◌, refl, one-add, arith}
use Rattle.std.specs.Prelude.{filter}
use Rattle.std.proofs.lemmas.Bool.{and_parts, and_from}
use Rattle.std.proofs.lemmas.Bool.Decides.{nat_tests}
use Rattle.std.specs.List.{onto_first, slice_split, position_or_len, list_all, before_first}
use Rattle.text_lines.specs.Lines.{words_of, is_blank, has_bytes, is_plain, begins_comment, outside_comment, without_return}
use Rattle.text_lines.specs.Writing.{is_word_byte, is_word, words_of_line, are_plain}

-- *the words of a line*

-- a byte that passes the test and isn't blank
abbrev pub is_inside : (ℕ → Bool) → ℕ → Bool
is_inside p b = p b && not (is_blank b)

onto_first_all : (q : ℕ → Bool) (b : ℕ) (parts : List (List ℕ)) → q b ≡ true → list_all (list_all q) parts ≡ true → list_all (list_all q) (onto_first b parts) ≡ true
onto_first_all q b [] h k = rw h refl
onto_first_all q b (part ∷ parts) h k = rw h k

parts_step : (p : ℕ → Bool) (v : Bool) (b : ℕ) (bs : List ℕ) → is_blank b ≡ v → p b ≡ true → list_all (list_all (is_inside p)) (slice_split is_blank bs) ≡ true → list_all (list_all (is_inside p)) (slice_split is_blank (b ∷ bs)) ≡ true
parts_step p true b bs e h k = rw e k
parts_step p false b bs e h k =
    let i : is_inside p b ≡ true = rw (h, e) refl in
    rw e (onto_first_all (is_inside p) b (slice_split is_blank bs) i k)

parts_have : (p : ℕ → Bool) (bs : List ℕ) → list_all p bs ≡ true → list_all (list_all (is_inside p)) (slice_split is_blank bs) ≡ true
parts_have p [] h = refl
parts_have p (b ∷ bs) h =
    let e : (p b ≡ true) × (list_all p bs ≡ true) = and_parts _ _ h in
    parts_step p (is_blank b) b bs refl e.0 (parts_have p bs e.1)

-- bytes of one kind, at least one
abbrev pub is_of : (ℕ → Bool) → List ℕ → Bool
is_of q word = has_bytes word && list_all q word

kept_parts : (q : ℕ → Bool) (parts : List (List ℕ)) → list_all (list_all q) parts ≡ true → list_all (is_of q) (filter has_bytes parts) ≡ true
kept_parts q [] h = refl
kept_parts q ([] ∷ parts) h = kept_parts q parts h
kept_parts q ((b ∷ bs) ∷ parts) h =
    let e : ((q b && list_all q bs) ≡ true) × (list_all (list_all q) parts ≡ true) = and_parts _ _ h in
    and_from (q b && list_all q bs) (list_all (is_of q) (filter has_bytes parts)) e.0 (kept_parts q parts e.1)

-- the words of bytes that pass a test have bytes that pass it, at least one, and no blanks
pub words_have : (p : ℕ → Bool) (bs : List ℕ) → list_all p bs ≡ true → list_all (is_of (is_inside p)) (words_of bs) ≡ true
words_have p bs h = kept_parts (is_inside p) (slice_split is_blank bs) (parts_have p bs h)

-- *the words of a plain line*

no_comment_step : (v : Bool) (b : ℕ) (bs : List ℕ) → begins_comment b ≡ v → list_all (λ c. not (begins_comment c)) (before_first begins_comment bs) ≡ true → list_all (λ c. not (begins_comment c)) (take (cond (not v) (1 + position_or_len begins_comment bs) 0) (b ∷ bs)) ≡ true
no_comment_step true b bs e h = refl
no_comment_step false b bs e h = rw one-add (rw e h)

-- no byte before the comment begins one
before_comment : (bs : List ℕ) → list_all (λ c. not (begins_comment c)) (before_first begins_comment bs) ≡ true
before_comment [] = refl
before_comment (b ∷ bs) = no_comment_step (begins_comment b) b bs refl (before_comment bs)

-- a byte that may stand in a word
abbrev is_said : ℕ → Bool
is_said b = is_plain b && not (begins_comment b)

both_all : (p q : ℕ → Bool) (bs : List ℕ) → list_all p bs ≡ true → list_all q bs ≡ true → list_all (λ b. p b && q b) bs ≡ true
both_all p q [] h k = refl
both_all p q (b ∷ bs) h k =
    let e : (p b ≡ true) × (list_all p bs ≡ true) = and_parts _ _ h in
    let f : (q b ≡ true) × (list_all q bs ≡ true) = and_parts _ _ k in
    and_from (p b && q b) (list_all (λ c. p c && q c) bs) (and_from (p b) (q b) e.0 f.0) (both_all p q bs e.1 f.1)

said_byte : (b : ℕ) → is_inside is_said b ≡ true → is_word_byte b ≡ true
said_byte b h = grind (arith, nat_tests)

said_word : (word : List ℕ) → list_all (is_inside is_said) word ≡ true → list_all is_word_byte word ≡ true
said_word [] h = refl
said_word (b ∷ bs) h =
    let e : (is_inside is_said b ≡ true) × (list_all (is_inside is_said) bs ≡ true) = and_parts _ _ h in
    and_from (is_word_byte b) (list_all is_word_byte bs) (said_byte b e.0) (said_word bs e.1)

said_words : (words : List (List ℕ)) → list_all (is_of (is_inside is_said)) words ≡ true → list_all is_word words ≡ true
said_words [] h = refl
said_words (w ∷ words) h =
    let e : (is_of (is_inside is_said) w ≡ true) × (list_all (is_of (is_inside is_said)) words ≡ true) = and_parts _ _ h in
    let f : (has_bytes w ≡ true) × (list_all (is_inside is_said) w ≡ true) = and_parts _ _ e.0 in
    and_from (is_word w) (list_all is_word words) (and_from (has_bytes w) (list_all is_word_byte w) f.0 (said_word w f.1)) (said_words words e.1)

-- a plain line says words
pub plain_line_says_words : (line : List ℕ) → list_all is_plain (outside_comment line) ≡ true → list_all is_word (words_of_line line) ≡ true
plain_line_says_words line h =
    said_words (words_of_line line) (words_have is_said (outside_comment line)
    (both_all is_plain (λ b. not (begins_comment b)) (outside_comment line) h (before_comment (without_return line))))

pub plain_lines_say_words : (lines : List (List ℕ)) → are_plain lines ≡ true → list_all (list_all is_word) (map words_of_line lines) ≡ true
plain_lines_say_words [] h = refl
plain_lines_say_words (line ∷ lines) h =
    let e : (list_all is_plain (outside_comment line) ≡ true) × (are_plain lines ≡ true) = and_parts _ _ h in
    and_from (list_all is_word (words_of_line line)) (list_all (list_all is_word) (map words_of_line lines)) (plain_line_says_words line e.0) (plain_lines_say_words lines e.1)
