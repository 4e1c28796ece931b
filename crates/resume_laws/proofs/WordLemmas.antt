-- The lines of a report are lines of words, and at none of them a rest begins.
use Rattle.std.proofs.Common.{◌≡◌, ◌∙◌, ℕ, zero, suc, ◌+◌, ◌%◌, ◌/◌, ◌==◌, Bool, true, false, not, cond, nat_lt, List, [], ◌∷◌, ◌++◌, map, decimal, codes, refl, sym, ap, subst, arith}
use Rattle.std.specs.List.{list_all}
use Rattle.std.specs.Fmt.{digits, digits_onto, digit_glyph}
use Rattle.std.proofs.lemmas.Bool.{and_from}
use Rattle.std.proofs.lemmas.Bool.Decides.{nat_tests}
use Rattle.text_lines.specs.Lines.{has_bytes}
use Rattle.text_lines.specs.Writing.{is_word_byte, is_word, spaced}
use Rattle.text_lines.proofs.WritingLemmas.{joined}
use Rattle.cover_counts.specs.Digits.{numeral_within, numeral}
use Rattle.x_texts.specs.Words.{visit_words}
use Rattle.std.proofs.lemmas.List.Folds.{list_all-append}
use Rattle.std.proofs.lemmas.List.Concat.{flat_map-append}
use Rattle.std.proofs.lemmas.List.{map-append}
use Rattle.text_lines.specs.Writing.{line_text, text_of}
use Rattle.polylab_engine.specs.Account.{ReportValue}
use Rattle.polylab_engine.specs.Output.{report_text, level_words, total_lines}
use Rattle.resume_laws.specs.ResumedTexts.{begins_rest}
use Rattle.resume_laws.proofs.PartLemmas.{are_report_lines}

all_both : {A : Type 0} (test : A → Bool) (xs ys : List A) → list_all test xs ≡ true → list_all test ys ≡ true → list_all test (xs ++ ys) ≡ true
all_both test xs ys a b = list_all-append test xs ys ∙ rw (a, b) refl

-- ---- numbers, however great

digit_byte : (n : ℕ) → is_word_byte (digit_glyph false (n % 10)) ≡ true
digit_byte n = by (nat_lt (n % 10) 10) refl
  where
    by : (v : Bool) → nat_lt (n % 10) 10 ≡ v → is_word_byte (cond v (48 + n % 10) (87 + n % 10)) ≡ true
    by true e = grind (arith, nat_tests)
    by false e = absurd (grind (arith, nat_tests))

digits_words : (k n : ℕ) (end : List ℕ) → list_all is_word_byte end ≡ true → list_all is_word_byte (digits_onto k 10 false n end) ≡ true
digits_words zero n end h = h
digits_words (suc k) n end h = by (n / 10 == 0) (digits_words k (n / 10) (digit_glyph false (n % 10) ∷ end))
  where
    more : list_all is_word_byte (digit_glyph false (n % 10) ∷ end) ≡ true
    more = and_from (is_word_byte (digit_glyph false (n % 10))) (list_all is_word_byte end) (digit_byte n) h

    by : (v : Bool) → (list_all is_word_byte (digit_glyph false (n % 10) ∷ end) ≡ true → list_all is_word_byte (digits_onto k 10 false (n / 10) (digit_glyph false (n % 10) ∷ end)) ≡ true) → list_all is_word_byte (cond v (digit_glyph false (n % 10) ∷ end) (digits_onto k 10 false (n / 10) (digit_glyph false (n % 10) ∷ end))) ≡ true
    by true onto = more
    by false onto = onto more

digits_some : (k n : ℕ) (end : List ℕ) → has_bytes end ≡ true → has_bytes (digits_onto k 10 false n end) ≡ true
digits_some zero n end h = h
digits_some (suc k) n end h = by (n / 10 == 0) (digits_some k (n / 10) (digit_glyph false (n % 10) ∷ end) refl)
  where
    by : (v : Bool) → has_bytes (digits_onto k 10 false (n / 10) (digit_glyph false (n % 10) ∷ end)) ≡ true → has_bytes (cond v (digit_glyph false (n % 10) ∷ end) (digits_onto k 10 false (n / 10) (digit_glyph false (n % 10) ∷ end))) ≡ true
    by true onto = refl
    by false onto = onto

pub decimal_is_word : (n : ℕ) → is_word (decimal n) ≡ true
unfolding digits
decimal_is_word n = and_from (has_bytes (decimal n)) (list_all is_word_byte (decimal n)) (first (n / 10 == 0)) (digits_words 64 n [] refl)
  where
    first : (v : Bool) → has_bytes (cond v (digit_glyph false (n % 10) ∷ []) (digits_onto 63 10 false (n / 10) (digit_glyph false (n % 10) ∷ []))) ≡ true
    first true = refl
    first false = digits_some 63 (n / 10) (digit_glyph false (n % 10) ∷ []) refl

decimals_are_words : (ns : List ℕ) → list_all is_word (map decimal ns) ≡ true
decimals_are_words [] = refl
decimals_are_words (n ∷ ns) = and_from (is_word (decimal n)) (list_all is_word (map decimal ns)) (decimal_is_word n) (decimals_are_words ns)

low_byte : (d : ℕ) → nat_lt d 10 ≡ true → is_word_byte (48 + d) ≡ true
low_byte d e = grind (arith, nat_tests)

numeral_bytes : (k n : ℕ) → list_all is_word_byte (numeral_within k n) ≡ true
numeral_bytes zero n = refl
numeral_bytes (suc k) n = by (nat_lt n 10) refl (numeral_bytes k (n / 10))
  where
    last : nat_lt (n % 10) 10 ≡ true
    last = grind (arith, nat_tests)

    by : (v : Bool) → nat_lt n 10 ≡ v → list_all is_word_byte (numeral_within k (n / 10)) ≡ true → list_all is_word_byte (cond v ((48 + n) ∷ []) (numeral_within k (n / 10) ++ (48 + n % 10) ∷ [])) ≡ true
    by true e front = and_from (is_word_byte (48 + n)) true (low_byte n e) refl
    by false e front =
        all_both is_word_byte (numeral_within k (n / 10)) ((48 + n % 10) ∷ []) front
        (and_from (is_word_byte (48 + n % 10)) true (low_byte (n % 10) last) refl)

push_some : (bytes : List ℕ) (byte : ℕ) → has_bytes (bytes ++ byte ∷ []) ≡ true
push_some [] byte = refl
push_some (b ∷ bs) byte = refl

numeral_is_word : (n : ℕ) → is_word (numeral n) ≡ true
numeral_is_word n = and_from (has_bytes (numeral n)) (list_all is_word_byte (numeral n)) (some (nat_lt n 10)) (numeral_bytes (suc n) n)
  where
    some : (v : Bool) → has_bytes (cond v ((48 + n) ∷ []) (numeral_within n (n / 10) ++ (48 + n % 10) ∷ [])) ≡ true
    some true = refl
    some false = push_some (numeral_within n (n / 10)) (48 + n % 10)

numerals_are_words : (ns : List ℕ) → list_all is_word (map numeral ns) ≡ true
numerals_are_words [] = refl
numerals_are_words (n ∷ ns) = and_from (is_word (numeral n)) (list_all is_word (map numeral ns)) (numeral_is_word n) (numerals_are_words ns)

-- ---- lines

visits_are_words : (paths : List (List ℕ)) → list_all (list_all is_word) (map visit_words paths) ≡ true
visits_are_words [] = refl
visits_are_words (path ∷ paths) = and_from (list_all is_word (visit_words path)) (list_all (list_all is_word) (map visit_words paths)) (decimals_are_words path) (visits_are_words paths)

levels_are_words : (levels : List ℕ) → list_all is_word (level_words levels) ≡ true
levels_are_words [] = refl
levels_are_words (n ∷ ns) = numerals_are_words (n ∷ ns)

visit_begins : (words : List (List ℕ)) → begins_rest (spaced (codes "visit" ∷ words)) ≡ false
visit_begins words = ap begins_rest (joined (codes "visit") words)

visits_begin : (paths : List (List ℕ)) → are_report_lines (map spaced (map visit_words paths)) ≡ true
visits_begin [] = refl
visits_begin (path ∷ paths) = and_from (not (begins_rest (spaced (visit_words path)))) (are_report_lines (map spaced (map visit_words paths))) (ap not (visit_begins (map decimal path))) (visits_begin paths)

levels_begin : (levels : List ℕ) → begins_rest (spaced (level_words levels)) ≡ false
levels_begin [] = refl
levels_begin (n ∷ ns) = ap begins_rest (joined (codes "levels") (map numeral (n ∷ ns)))

-- ---- reports

-- the lines of a report
abbrev pub report_lines : ReportValue → List (List (List ℕ))
report_lines r = map visit_words r.visits ++ total_lines r.visited r.steps r.levels

pub report_is_lines : (r : ReportValue) → text_of (report_lines r) ≡ report_text r
report_is_lines r = flat_map-append line_text (map visit_words r.visits) (total_lines r.visited r.steps r.levels)

pub report_words : (r : ReportValue) → list_all (list_all is_word) (report_lines r) ≡ true
report_words r =
    all_both (list_all is_word) (map visit_words r.visits) (total_lines r.visited r.steps r.levels) (visits_are_words r.visits)
    (and_from _ _ (and_from _ _ (numeral_is_word r.visited) refl) (and_from _ _ (and_from _ _ (numeral_is_word r.steps) refl) (and_from _ _ (levels_are_words r.levels) refl)))

pub report_begins : (r : ReportValue) → are_report_lines (map spaced (report_lines r)) ≡ true
report_begins r =
    subst (λ lines. are_report_lines lines ≡ true) (sym (map-append spaced (map visit_words r.visits) (total_lines r.visited r.steps r.levels)))
    (all_both (λ line. not (begins_rest line)) (map spaced (map visit_words r.visits)) (map spaced (total_lines r.visited r.steps r.levels)) (visits_begin r.visits)
    (and_from _ _ (ap not (levels_begin r.levels)) refl))
