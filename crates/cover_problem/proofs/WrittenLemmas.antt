-- What is written is a text of its problem.
use Rattle.std.proofs.Common.{◌≡◌, ◌<◌, ◌≤◌, ℕ, ◌-◌, List, [], ◌∷◌, map, filter, length, take, drop, true, not, ◌&&◌, nat_lt, nat_le, Ok, refl, sym, ap, ◌∙◌, codes, arith, ltb-true}
use Rattle.std.specs.List.{list_all}
use Rattle.std.proofs.lemmas.Bool.{and_parts, and_from}
use Rattle.std.proofs.lemmas.Bool.Decides.{nat_tests}
use Rattle.std.proofs.lemmas.List.{take-append-drop}
use Rattle.std.proofs.lemmas.List.Folds.{list_all-append}
use Rattle.text_lines.specs.Lines.{is_empty, has_bytes}
use Rattle.text_lines.specs.Writing.{is_word, is_word_byte}
use Rattle.text_lines.proofs.WritingLemmas.{written_said, written_plain}
use Rattle.shared_words.specs.Lists.{are_distinct}
use Rattle.cover_problem.specs.Problem.{ProblemValue, IsProblem, is_name, is_name_byte, is_item, is_option, name_at}
use Rattle.cover_problem.specs.Reading.{problem_of}
use Rattle.cover_problem.specs.Grammar.{maybe_words, option_words, word_lines, IsCoverText, written}
use Rattle.std.proofs.lemmas.List.Sums.{AllPass-from_list_all}
use Rattle.cover_problem.proofs.BoundLemmas.{item_bounds}
use Rattle.cover_problem.proofs.GrammarLemmas.{text_again}

-- *names are words*

name_byte_is_word_byte : (b : ℕ) → is_name_byte b ≡ true → is_word_byte b ≡ true
name_byte_is_word_byte b h = grind (arith, nat_tests)

name_bytes_are : (bs : List ℕ) → list_all is_name_byte bs ≡ true → list_all is_word_byte bs ≡ true
name_bytes_are [] h = refl
name_bytes_are (b ∷ bs) h =
    let p = and_parts (is_name_byte b) (list_all is_name_byte bs) h in
    and_from _ _ (name_byte_is_word_byte b p.0) (name_bytes_are bs p.1)

some_bytes : (bs : List ℕ) → 0 < length bs → has_bytes bs ≡ true
some_bytes [] h = absurd (omega arith)
some_bytes (b ∷ bs) h = refl

-- a name is a word
pub name_is_word : (name : List ℕ) → is_name name ≡ true → is_word name ≡ true
name_is_word name h =
    let p = and_parts (nat_lt 0 (length name) && nat_le (length name) 8) (list_all is_name_byte name) h in
    let q = and_parts (nat_lt 0 (length name)) (nat_le (length name) 8) p.0 in
    and_from _ _ (some_bytes name (ltb-true 0 (length name) q.0)) (name_bytes_are name p.1)

names_are_words : (names : List (List ℕ)) → list_all is_name names ≡ true → list_all is_word names ≡ true
names_are_words [] h = refl
names_are_words (n ∷ ns) h =
    let p = and_parts (is_name n) (list_all is_name ns) h in
    and_from _ _ (name_is_word n p.0) (names_are_words ns p.1)

-- *the lines of a problem are words*

maybe_are_words : (names : List (List ℕ)) → list_all is_word names ≡ true → list_all (list_all is_word) (maybe_words names) ≡ true
maybe_are_words [] h = refl
maybe_are_words (n ∷ ns) h = and_from _ _ h refl

-- the name of an item is a word
pub item_is_word : (names : List (List ℕ)) (i : ℕ) → list_all is_name names ≡ true → is_item (length names) i ≡ true → is_word (name_at names i) ≡ true
item_is_word names i named is =
    let b = item_bounds (length names) i is in
    let some : 0 < i = b.0 in
    let within : i ≤ length names = b.1 in
    name_is_word (name_at names i) (AllPass-from_list_all is_name names named (i - 1) [] (omega arith))

items_are_words : (names : List (List ℕ)) (option : List ℕ) → list_all is_name names ≡ true → list_all (is_item (length names)) option ≡ true → list_all is_word (map (name_at names) option) ≡ true
items_are_words names [] named is = refl
items_are_words names (i ∷ option) named is =
    let p = and_parts (is_item (length names) i) (list_all (is_item (length names)) option) is in
    and_from _ _ (item_is_word names i named p.0) (items_are_words names option named p.1)

options_are_words : (names : List (List ℕ)) (options : List (List ℕ)) → list_all is_name names ≡ true → list_all (is_option (length names)) options ≡ true → list_all (list_all is_word) (map (option_words names) options) ≡ true
options_are_words names [] named is = refl
options_are_words names (option ∷ options) named is =
    let p = and_parts (is_option (length names) option) (list_all (is_option (length names)) options) is in
    let q = and_parts (nat_lt 0 (length option) && are_distinct option) (list_all (is_item (length names)) option) p.0 in
    and_from _ _ (items_are_words names option named q.1) (options_are_words names options named p.1)

lines_are_words : (p : ProblemValue) → IsProblem p → list_all (list_all is_word) (word_lines p) ≡ true
lines_are_words p g =
    let all = names_are_words p.names g.named in
    let parts = and_parts (list_all is_word (take p.primary p.names)) (list_all is_word (drop p.primary p.names)) (sym (list_all-append is_word (take p.primary p.names) (drop p.primary p.names)) ∙ rw take-append-drop all) in
    list_all-append (list_all is_word) ((codes "items" ∷ take p.primary p.names) ∷ maybe_words (drop p.primary p.names)) (map (option_words p.names) p.options)
    ∙ and_from _ _ (and_from _ _ parts.0 (maybe_are_words (drop p.primary p.names) parts.1)) (options_are_words p.names p.options g.named g.options_are)

-- *and each has words*

all_kept : (lines : List (List (List ℕ))) → list_all (λ words. not (is_empty words)) lines ≡ true → filter (λ words. not (is_empty words)) lines ≡ lines
all_kept [] h = refl
all_kept (words ∷ lines) h =
    let p = and_parts (not (is_empty words)) (list_all (λ ws. not (is_empty ws)) lines) h in
    rw (p.0) (ap (λ ls. words ∷ ls) (all_kept lines p.1))

maybe_is_full : (names : List (List ℕ)) → list_all (λ words. not (is_empty words)) (maybe_words names) ≡ true
maybe_is_full [] = refl
maybe_is_full (n ∷ ns) = refl

options_are_full : (names : List (List ℕ)) (options : List (List ℕ)) → list_all (λ words. not (is_empty words)) (map (option_words names) options) ≡ true
options_are_full names [] = refl
options_are_full names (option ∷ options) = options_are_full names options

lines_are_full : (p : ProblemValue) → list_all (λ words. not (is_empty words)) (word_lines p) ≡ true
lines_are_full p =
    list_all-append (λ words. not (is_empty words)) ((codes "items" ∷ take p.primary p.names) ∷ maybe_words (drop p.primary p.names)) (map (option_words p.names) p.options)
    ∙ and_from _ _ (maybe_is_full (drop p.primary p.names)) (options_are_full p.names p.options)

-- *the main proofs*

pub written_is_text : (p : ProblemValue) → IsProblem p → IsCoverText (written p) p
unfolding written
written_is_text p g =
    let words = lines_are_words p g in
    record {
      plain = written_plain (word_lines p) words;
      says = ap (filter (λ ws. not (is_empty ws))) (written_said (word_lines p) words) ∙ all_kept (word_lines p) (lines_are_full p);
      problem = g;
    }

pub written_again : (p : ProblemValue) → IsProblem p → problem_of (written p) ≡ Ok p
written_again p g = text_again (written p) p (written_is_text p g)
