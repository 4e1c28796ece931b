-- An answer that is written is read again, and what is read was written so.
use Rattle.std.proofs.Common.{◌≡◌, ℕ, zero, suc, ◌-◌, ◌<◌, ◌==◌, nat_lt, nat_le, Bool, true, false, not, cond, ◌&&◌, ◌||◌, List, [], ◌∷◌, ◌++◌, length, map, codes, Option, Some, None, get_or, slice_get, Result, Ok, Err, refl, sym, ◌∙◌, ap, ap₂, subst, arith, append_assoc, append-nil}
use Rattle.std.specs.Prelude.{bytes_eq}
use Rattle.std.specs.List.{list_all}
use Rattle.std.specs.Cmp.Lexicographic.{bytes_decides}
use Rattle.std.proofs.lemmas.Bool.{and_parts, and_from, or_right, eqb-true, eq-eqb, eqb-false, ne_eqb, lt-ltb, ltb-true}
use Rattle.std.proofs.Math.Bool.{or-false}
use Rattle.text_lines.specs.Lines.{words_of, is_empty}
use Rattle.text_lines.specs.Numbers.{is_decimal, value_after}
use Rattle.text_lines.specs.Writing.{is_word, spaced, line_text, text_of}
use Rattle.text_lines.specs.Each.{each, ◌>>=◌}
use Rattle.text_lines.proofs.EachLemmas.{each_step, each_nothing, each_parts, each_none}
use Rattle.text_lines.proofs.ResultLemmas.{ok_is, no_fault, bind_ok, granted}
use Rattle.text_lines.proofs.WritingLemmas.{spaced_words}
use Rattle.cover_counts.specs.Digits.{numeral}
use Rattle.x_snapshot.specs.declared.fault.SnapshotFault.{SnapshotFault}
use Rattle.x_snapshot.specs.Reader.{first_line, only}
use Rattle.x_snapshot.specs.Snapshot.{SnapshotValue}
use Rattle.x_snapshot.proofs.ReadLemmas.{line_back}
use Rattle.x_snapshot.proofs.BackLemmas.{only_is}
use Rattle.x_snapshot.proofs.LineAgain.{line_again}
use Rattle.part_sums.specs.declared.fault.JoinFault.{JoinFault}
use Rattle.part_sums.specs.declared.fault.JoinFault.TheVariants.{BadAnswer, TooLong, Truncated, BadNumbers}
use Rattle.part_sums.specs.Answers.{CountsValue, counts_with, count_line, levels_line, answer_lines, is_short, IsAnswer, HasNumbersOf, has_numbers_of}
use Rattle.part_sums.specs.Parts.{last_state}
use Rattle.part_sums.specs.Reading.{line_from, words_behind, key_words, keyed_words, number_of_word, number_of_only, with_number, numbers_after, last_number, are_levels, levels_from, keyed_number, levels_in, past_end_line, answer_in, part_answer_in}
use Rattle.part_sums.proofs.NumberLemmas.{some_levels, numeral_value, numeral_decimal, decimal_numeral, numeral_is_word}

-- *a line*

line_from_back : (r : Result (List ℕ × List ℕ) SnapshotFault) (s : List ℕ × List ℕ) → line_from r ≡ Ok s → r ≡ Ok s
line_from_back (Ok t) s h = ap found (ok_is t s h)
  where
    found : List ℕ × List ℕ → Result (List ℕ × List ℕ) SnapshotFault
    found x = Ok x
line_from_back (Err f) s h = absurd (no_fault Truncated s h)

behind_back : (key : List ℕ) (words others : List (List ℕ)) → words_behind key words ≡ Ok others → words ≡ key ∷ others
unfolding words_behind
behind_back key [] others h = absurd (no_fault BadAnswer others h)
behind_back key (word ∷ words) others h =
    let g = granted (bytes_eq word key) BadAnswer (Ok words) others h in
    ap₂ (λ (w : List ℕ) (ws : List (List ℕ)). w ∷ ws) ((bytes_decides word key).0 g.0) (ok_is words others g.1)

key_back : (key line : List ℕ) (words : List (List ℕ)) → key_words key line ≡ Ok words → line ≡ spaced (key ∷ words)
unfolding key_words
key_back key line words h =
    let g = granted (bytes_eq line (spaced (words_of line))) BadAnswer (words_behind key (words_of line)) words h in
    (bytes_decides line (spaced (words_of line))).0 g.0 ∙ ap spaced (behind_back key (words_of line) words g.1)

pub keyed_back : (key text : List ℕ) (r : List (List ℕ) × List ℕ) → keyed_words key text ≡ Ok r → text ≡ line_text (key ∷ r.0) ++ r.1
unfolding keyed_words
keyed_back key text r h =
    let a = bind_ok (line_from (first_line text)) (λ line. key_words key line.0 >>= λ words. Ok (words, line.1)) r h in
    let b = bind_ok (key_words key a.0.0) (λ words. Ok (words, a.0.1)) r a.2 in
    let text_is = line_back text a.0 (line_from_back (first_line text) a.0 a.1) in
    let found : text ≡ line_text (key ∷ b.0) ++ a.0.1 = text_is ∙ ap (λ l. l ++ 10 ∷ a.0.1) (key_back key a.0.0 b.0 b.1) ∙ sym (append_assoc (spaced (key ∷ b.0)) (10 ∷ []) a.0.1) in
    subst (λ (s : List (List ℕ) × List ℕ). text ≡ line_text (key ∷ s.0) ++ s.1) (ok_is (b.0, a.0.1) r b.2) found

key_again : (key : List ℕ) (words : List (List ℕ)) → list_all is_word (key ∷ words) ≡ true → key_words key (spaced (key ∷ words)) ≡ Ok words
unfolding key_words words_behind
key_again key words h =
    let e : words_of (spaced (key ∷ words)) ≡ key ∷ words = spaced_words (key ∷ words) h in
    let same : bytes_eq (spaced (key ∷ words)) (spaced (words_of (spaced (key ∷ words)))) ≡ true = (bytes_decides (spaced (key ∷ words)) (spaced (words_of (spaced (key ∷ words))))).1 (ap spaced (sym e)) in
    rw same (ap (words_behind key) e ∙ rw ((bytes_decides key key).1 refl) refl)

pub keyed_again : (key : List ℕ) (words : List (List ℕ)) (rest : List ℕ) → list_all is_word (key ∷ words) ≡ true → keyed_words key (line_text (key ∷ words) ++ rest) ≡ Ok (words, rest)
unfolding keyed_words
keyed_again key words rest h = rw (line_again (key ∷ words) rest h, key_again key words h) refl

-- *numbers*

pub number_back : (word : List ℕ) (n : ℕ) → number_of_word word ≡ Ok n → (word ≡ numeral n) × (is_short n ≡ true)
unfolding number_of_word
number_back word n h =
    let a = granted (is_decimal word) BadAnswer (cond (nat_le (length word) 1000) (Ok (value_after 0 word)) (Err TooLong)) n h in
    let b = granted (nat_le (length word) 1000) TooLong (Ok (value_after 0 word)) n a.1 in
    let value : value_after 0 word ≡ n = ok_is (value_after 0 word) n b.1 in
    let is : word ≡ numeral n = sym (decimal_numeral word a.0) ∙ ap numeral value in
    (is, subst (λ w. nat_le (length w) 1000 ≡ true) is b.0)

pub number_again : (n : ℕ) → is_short n ≡ true → number_of_word (numeral n) ≡ Ok n
unfolding number_of_word
number_again n h = rw (numeral_decimal n, h, numeral_value n) refl

numbers_back : (acc : List ℕ) (words : List (List ℕ)) (all : List ℕ) → each with_number acc words ≡ Ok all → (more : List ℕ) × (all ≡ acc ++ more) × (words ≡ map numeral more) × (list_all is_short more ≡ true)
unfolding with_number
numbers_back acc [] all h = ([], sym (each_none with_number acc all h) ∙ sym (append-nil acc), refl, refl)
numbers_back acc (word ∷ words) all h =
    let a = each_parts with_number acc word words all h in
    let b = bind_ok (number_of_word word) (λ n. Ok (acc ++ n ∷ [])) a.0 a.1 in
    let n = number_back word b.0 b.1 in
    let so_far : acc ++ b.0 ∷ [] ≡ a.0 = ok_is (acc ++ b.0 ∷ []) a.0 b.2 in
    let ih = numbers_back a.0 words all a.2 in (
      b.0 ∷ ih.0,
      ih.1 ∙ ap (λ xs. xs ++ ih.0) (sym so_far) ∙ append_assoc acc (b.0 ∷ []) ih.0,
      ap₂ (λ (w : List ℕ) (ws : List (List ℕ)). w ∷ ws) n.0 ih.2,
      and_from (is_short b.0) (list_all is_short ih.0) n.1 ih.3,
    )

numbers_again : (acc ns : List ℕ) → list_all is_short ns ≡ true → each with_number acc (map numeral ns) ≡ Ok (acc ++ ns)
unfolding with_number
numbers_again acc [] h = each_nothing with_number acc ∙ ap found (sym (append-nil acc))
  where
    found : List ℕ → Result (List ℕ) JoinFault
    found xs = Ok xs
numbers_again acc (n ∷ ns) h =
    let p = and_parts (is_short n) (list_all is_short ns) h in
    let e = append_assoc acc (n ∷ []) ns in
    each_step with_number acc (acc ++ n ∷ []) (numeral n) (map numeral ns) (rw (number_again n p.0) refl)
    ∙ rw e at (numbers_again (acc ++ n ∷ []) ns p.1)

pub numerals_are_words : (ns : List ℕ) → list_all is_word (map numeral ns) ≡ true
numerals_are_words [] = refl
numerals_are_words (n ∷ ns) = and_from (is_word (numeral n)) (list_all is_word (map numeral ns)) (numeral_is_word n) (numerals_are_words ns)

-- *levels*

-- the levels that numbers say, and their line
record AreLevels (numbers levels : List ℕ) : Type 0 where
  line : levels_line levels ≡ codes "levels" ∷ map numeral numbers
  last : slice_get levels (length levels - 1) ≡ Some 0 → ⊥
  short : list_all is_short numbers ≡ true → list_all is_short levels ≡ true

get_some : (xs : List ℕ) (k n : ℕ) → slice_get xs k ≡ Some n → get_or xs k 0 ≡ n
get_some [] k n h = absurd (cc)
get_some (x ∷ xs) zero n h = cc
get_some (x ∷ xs) (suc k) n h = get_some xs k n h

some_get : (xs : List ℕ) (k n : ℕ) → k < length xs → get_or xs k 0 ≡ n → slice_get xs k ≡ Some n
some_get [] k n l h = absurd (omega (arith, l))
some_get (x ∷ xs) zero n l h = ap (λ m. Some m) h
some_get (x ∷ xs) (suc k) n l h = some_get xs k n (omega (arith, l)) h

lone : (numbers : List ℕ) → length numbers ≡ 1 → last_number numbers ≡ 0 → numbers ≡ 0 ∷ []
lone [] h e = absurd (omega (arith, h))
lone (n ∷ []) h e = ap (λ m. m ∷ []) e
lone (n ∷ m ∷ ns) h e = absurd (omega (arith, h))

-- no levels, or these numbers
abbrev levels_if : Bool → List ℕ → Result (List ℕ) JoinFault
levels_if none numbers = cond none (Ok []) (Ok numbers)

levels_back : (numbers levels : List ℕ) → levels_from numbers ≡ Ok levels → AreLevels numbers levels
unfolding levels_from
levels_back numbers levels h = step (last_number numbers == 0) refl g.0 g.1
  where
    g : (are_levels numbers ≡ true) × (levels_if (last_number numbers == 0) numbers ≡ Ok levels)
    g = granted (are_levels numbers) BadAnswer (levels_if (last_number numbers == 0) numbers) levels h

    zero_line : numbers ≡ 0 ∷ [] → AreLevels numbers []
    zero_line e = record { line = ap (λ ns. codes "levels" ∷ map numeral ns) (sym e); last = λ s. absurd (cc); short = λ s. refl }

    step : (v : Bool) → (last_number numbers == 0) ≡ v → (nat_lt 0 (length numbers) && ((length numbers == 1) || not v)) ≡ true → levels_if v numbers ≡ Ok levels → AreLevels numbers levels
    step true e some h =
        let p = and_parts (nat_lt 0 (length numbers)) ((length numbers == 1) || false) some in
        let one : length numbers ≡ 1 = eqb-true (length numbers) 1 (sym (or-false (length numbers == 1)) ∙ p.1) in
        subst (AreLevels numbers) (ok_is [] levels h) (zero_line (lone numbers one (eqb-true (last_number numbers) 0 e)))
    step false e some h =
        let p = and_parts (nat_lt 0 (length numbers)) ((length numbers == 1) || true) some in
        let many : 0 < length numbers = ltb-true 0 (length numbers) p.0 in
        subst (AreLevels numbers) (ok_is numbers levels h)
        (record { line = some_levels numbers many; last = λ s. eqb-false (last_number numbers) 0 e (get_some numbers (length numbers - 1) 0 s); short = λ s. s })

-- the numbers of the line of levels
abbrev numbers_of : List ℕ → List ℕ
numbers_of [] = 0 ∷ []
numbers_of (n ∷ ns) = n ∷ ns

numbers_line : (levels : List ℕ) → levels_line levels ≡ codes "levels" ∷ map numeral (numbers_of levels)
numbers_line [] = refl
numbers_line (n ∷ ns) = refl

numbers_short : (levels : List ℕ) → list_all is_short levels ≡ true → list_all is_short (numbers_of levels) ≡ true
numbers_short [] h = refl
numbers_short (n ∷ ns) h = h

levels_again : (levels : List ℕ) → (slice_get levels (length levels - 1) ≡ Some 0 → ⊥) → levels_from (numbers_of levels) ≡ Ok levels
unfolding levels_from
levels_again [] last = refl
levels_again (n ∷ ns) last =
    let some : 0 < length (n ∷ ns) = omega arith in
    let other : (last_number (n ∷ ns) == 0) ≡ false = ne_eqb (last_number (n ∷ ns)) 0 (λ e. last (some_get (n ∷ ns) (length (n ∷ ns) - 1) 0 (omega (arith, some)) e)) in
    let long : nat_lt 0 (length (n ∷ ns)) ≡ true = lt-ltb 0 (length (n ∷ ns)) some in
    rw (other, long, or_right (length (n ∷ ns) == 1) true refl) refl

-- *lines of an answer*

only_back : (o : Option (List ℕ)) (n : ℕ) → number_of_only o ≡ Ok n → (word : List ℕ) × (o ≡ Some word) × (number_of_word word ≡ Ok n)
only_back None n h = absurd (no_fault BadAnswer n h)
only_back (Some word) n h = (word, refl, h)

number_in_back : (key text : List ℕ) (r : ℕ × List ℕ) → keyed_number key text ≡ Ok r → (text ≡ line_text (count_line key r.0) ++ r.1) × (is_short r.0 ≡ true)
unfolding keyed_number
number_in_back key text r h =
    let a = bind_ok (keyed_words key text) (λ line. number_of_only (only line.0) >>= λ number. Ok (number, line.1)) r h in
    let b = bind_ok (number_of_only (only a.0.0)) (λ number. Ok (number, a.0.1)) r a.2 in
    let o = only_back (only a.0.0) b.0 b.1 in
    let n = number_back o.0 b.0 o.2 in
    let words : a.0.0 ≡ numeral b.0 ∷ [] = only_is a.0.0 o.0 o.1 ∙ ap (λ w. w ∷ []) n.0 in
    let text_is : text ≡ line_text (count_line key b.0) ++ a.0.1 = keyed_back key text a.0 a.1 ∙ ap (λ ws. line_text (key ∷ ws) ++ a.0.1) words in
    subst (λ (s : ℕ × List ℕ). (text ≡ line_text (count_line key s.0) ++ s.1) × (is_short s.0 ≡ true)) (ok_is (b.0, a.0.1) r b.2) (text_is, n.1)

number_in_again : (key : List ℕ) (n : ℕ) (rest : List ℕ) → is_word key ≡ true → is_short n ≡ true → keyed_number key (line_text (count_line key n) ++ rest) ≡ Ok (n, rest)
unfolding keyed_number
number_in_again key n rest w h =
    let words : list_all is_word (key ∷ numeral n ∷ []) ≡ true = and_from (is_word key) (list_all is_word (numeral n ∷ [])) w (numerals_are_words (n ∷ [])) in
    rw (keyed_again key (numeral n ∷ []) rest words, number_again n h) refl

levels_in_back : (text : List ℕ) (r : List ℕ × List ℕ) → levels_in text ≡ Ok r
    → (text ≡ line_text (levels_line r.0) ++ r.1) × (list_all is_short r.0 ≡ true) × (slice_get r.0 (length r.0 - 1) ≡ Some 0 → ⊥)
unfolding levels_in
levels_in_back text r h =
    let a = bind_ok (keyed_words (codes "levels") text) (λ line. numbers_after [] line.0 >>= λ numbers. levels_from numbers >>= λ levels. Ok (levels, line.1)) r h in
    let b = bind_ok (numbers_after [] a.0.0) (λ numbers. levels_from numbers >>= λ levels. Ok (levels, a.0.1)) r a.2 in
    let c = bind_ok (levels_from b.0) (λ levels. Ok (levels, a.0.1)) r b.2 in
    let n = numbers_back [] a.0.0 b.0 b.1 in
    let l = levels_back b.0 c.0 c.1 in
    let words : codes "levels" ∷ a.0.0 ≡ levels_line c.0 = ap (λ ws. codes "levels" ∷ ws) (n.2 ∙ ap (map numeral) (sym n.1)) ∙ sym l.line in
    let text_is : text ≡ line_text (levels_line c.0) ++ a.0.1 = keyed_back (codes "levels") text a.0 a.1 ∙ ap (λ ws. line_text ws ++ a.0.1) words in
    let short : list_all is_short b.0 ≡ true = subst (λ ns. list_all is_short ns ≡ true) (sym n.1) n.3 in
    subst (λ (s : List ℕ × List ℕ). (text ≡ line_text (levels_line s.0) ++ s.1) × (list_all is_short s.0 ≡ true) × (slice_get s.0 (length s.0 - 1) ≡ Some 0 → ⊥)) (ok_is (c.0, a.0.1) r c.2)
    (text_is, l.short short, l.last)

levels_in_again : (levels rest : List ℕ) → list_all is_short levels ≡ true → (slice_get levels (length levels - 1) ≡ Some 0 → ⊥) → levels_in (line_text (levels_line levels) ++ rest) ≡ Ok (levels, rest)
unfolding levels_in
levels_in_again levels rest h last =
    let words : list_all is_word (codes "levels" ∷ map numeral (numbers_of levels)) ≡ true = numerals_are_words (numbers_of levels) in
    rw (numbers_line levels, keyed_again (codes "levels") (map numeral (numbers_of levels)) rest words, numbers_again [] (numbers_of levels) (numbers_short levels h), levels_again levels last) refl

no_words : (words : List (List ℕ)) → is_empty words ≡ true → words ≡ []
no_words [] h = refl
no_words (word ∷ words) h = absurd (cc)

end_in_back : (text rest : List ℕ) → past_end_line text ≡ Ok rest → text ≡ line_text (codes "end" ∷ []) ++ rest
unfolding past_end_line
end_in_back text rest h =
    let a = bind_ok (keyed_words (codes "end") text) (λ line. cond (is_empty line.0) (Ok line.1) (Err BadAnswer)) rest h in
    let g = granted (is_empty a.0.0) BadAnswer (Ok a.0.1) rest a.2 in
    keyed_back (codes "end") text a.0 a.1 ∙ ap₂ (λ (ws : List (List ℕ)) (t : List ℕ). line_text (codes "end" ∷ ws) ++ t) (no_words a.0.0 g.0) (ok_is a.0.1 rest g.1)

end_in_again : (rest : List ℕ) → past_end_line (line_text (codes "end" ∷ []) ++ rest) ≡ Ok rest
unfolding past_end_line
end_in_again rest = rw (keyed_again (codes "end") [] rest refl) refl

-- *an answer*

four : (a b c d rest : List ℕ) → a ++ (b ++ (c ++ (d ++ rest))) ≡ (a ++ (b ++ (c ++ (d ++ [])))) ++ rest
four a b c d rest = simp (append_assoc, append-nil)

pub answer_back : (text : List ℕ) (r : CountsValue × List ℕ) → answer_in text ≡ Ok r → (text ≡ text_of (answer_lines r.0) ++ r.1) × IsAnswer r.0
unfolding answer_in
answer_back text r h =
    let a = bind_ok (keyed_number (codes "visits") text) (λ visits. keyed_number (codes "steps") visits.1 >>= λ steps. levels_in steps.1 >>= λ levels. past_end_line levels.1 >>= λ rest. Ok (counts_with visits.0 steps.0 levels.0, rest)) r h in
    let b = bind_ok (keyed_number (codes "steps") a.0.1) (λ steps. levels_in steps.1 >>= λ levels. past_end_line levels.1 >>= λ rest. Ok (counts_with a.0.0 steps.0 levels.0, rest)) r a.2 in
    let c = bind_ok (levels_in b.0.1) (λ levels. past_end_line levels.1 >>= λ rest. Ok (counts_with a.0.0 b.0.0 levels.0, rest)) r b.2 in
    let d = bind_ok (past_end_line c.0.1) (λ rest. Ok (counts_with a.0.0 b.0.0 c.0.0, rest)) r c.2 in
    let visits = number_in_back (codes "visits") text a.0 a.1 in
    let steps = number_in_back (codes "steps") a.0.1 b.0 b.1 in
    let levels = levels_in_back b.0.1 c.0 c.1 in
    let end = end_in_back c.0.1 d.0 d.1 in
    let first = line_text (count_line (codes "visits") a.0.0) in
    let second = line_text (count_line (codes "steps") b.0.0) in
    let third = line_text (levels_line c.0.0) in
    let counts = counts_with a.0.0 b.0.0 c.0.0 in
    let text_is : text ≡ text_of (answer_lines counts) ++ d.0 =
    visits.0 ∙ ap (λ t. first ++ t) (steps.0 ∙ ap (λ t. second ++ t) (levels.0 ∙ ap (λ t. third ++ t) end)) ∙ four first second third (line_text (codes "end" ∷ [])) d.0 in
    let is : IsAnswer counts = record { visits = visits.1; steps = steps.1; levels = levels.1; last = levels.2 } in
    subst (λ (s : CountsValue × List ℕ). (text ≡ text_of (answer_lines s.0) ++ s.1) × IsAnswer s.0) (ok_is (counts, d.0) r d.2) (text_is, is)

pub answer_again : (c : CountsValue) (rest : List ℕ) → IsAnswer c → answer_in (text_of (answer_lines c) ++ rest) ≡ Ok (c, rest)
unfolding answer_in
answer_again c rest i =
    let first = line_text (count_line (codes "visits") c.visits) in
    let second = line_text (count_line (codes "steps") c.steps) in
    let third = line_text (levels_line c.levels) in
    let last = line_text (codes "end" ∷ []) in
    let a = number_in_again (codes "visits") c.visits (second ++ (third ++ (last ++ rest))) refl i.visits in
    let b = number_in_again (codes "steps") c.steps (third ++ (last ++ rest)) refl i.steps in
    let d = levels_in_again c.levels (last ++ rest) i.levels i.last in
    ap answer_in (sym (four first second third last rest)) ∙ rw (a, b, d, end_in_again rest) refl

-- *the counts of a part*

pub part_answer_back : (part : SnapshotValue) (text : List ℕ) (r : CountsValue × List ℕ) → part_answer_in part text ≡ Ok r → (answer_in text ≡ Ok r) × HasNumbersOf part.state (last_state part) r.0
unfolding part_answer_in
part_answer_back part text r h =
    let a = bind_ok (answer_in text) (λ answer. cond (has_numbers_of part.state (last_state part) answer.0) (Ok answer) (Err BadNumbers)) r h in
    let g = granted (has_numbers_of part.state (last_state part) a.0.0) BadNumbers (Ok a.0) r a.2 in
    let same : a.0 ≡ r = ok_is a.0 r g.1 in
    (a.1 ∙ ap found same, subst (λ (s : CountsValue × List ℕ). HasNumbersOf part.state (last_state part) s.0) same (eqb-true _ _ g.0))
  where
    found : CountsValue × List ℕ → Result (CountsValue × List ℕ) JoinFault
    found s = Ok s

pub part_answer_again : (part : SnapshotValue) (c : CountsValue) (rest : List ℕ) → IsAnswer c → HasNumbersOf part.state (last_state part) c → part_answer_in part (text_of (answer_lines c) ++ rest) ≡ Ok (c, rest)
unfolding part_answer_in
part_answer_again part c rest i n = rw (answer_again c rest i, eq-eqb _ _ n) refl

-- *an answer says one count*

head_word : List (List ℕ) → List ℕ
head_word [] = []
head_word (word ∷ words) = word

same_numeral : (n m : ℕ) → numeral n ≡ numeral m → n ≡ m
same_numeral n m e = sym (numeral_value n) ∙ ap (value_after 0) e ∙ numeral_value m

values : (ns : List ℕ) → map (value_after 0) (map numeral ns) ≡ ns
values [] = refl
values (n ∷ ns) = ap₂ (λ (m : ℕ) (ms : List ℕ). m ∷ ms) (numeral_value n) (values ns)

same_number : (key : List ℕ) (n m : ℕ) (a b : List ℕ) → is_word key ≡ true → line_text (count_line key n) ++ a ≡ line_text (count_line key m) ++ b → (n ≡ m) × (a ≡ b)
unfolding head_word
same_number key n m a b w e =
    let words = λ (k : ℕ). and_from (is_word key) (list_all is_word (numeral k ∷ [])) w (numerals_are_words (k ∷ [])) in
    let both : (numeral n ∷ [], a) ≡ (numeral m ∷ [], b) = ok_is _ _ (sym (keyed_again key (numeral n ∷ []) a (words n)) ∙ ap (keyed_words key) e ∙ keyed_again key (numeral m ∷ []) b (words m)) in
    (same_numeral n m (ap (λ (s : List (List ℕ) × List ℕ). head_word s.0) both), ap (λ (s : List (List ℕ) × List ℕ). s.1) both)

same_levels : (ls ks a b : List ℕ) → (slice_get ls (length ls - 1) ≡ Some 0 → ⊥) → (slice_get ks (length ks - 1) ≡ Some 0 → ⊥) → line_text (levels_line ls) ++ a ≡ line_text (levels_line ks) ++ b → ls ≡ ks
same_levels ls ks a b f g e =
    let lines : line_text (codes "levels" ∷ map numeral (numbers_of ls)) ++ a ≡ line_text (codes "levels" ∷ map numeral (numbers_of ks)) ++ b =
    ap (λ ws. line_text ws ++ a) (sym (numbers_line ls)) ∙ e ∙ ap (λ ws. line_text ws ++ b) (numbers_line ks) in
    let both : (map numeral (numbers_of ls), a) ≡ (map numeral (numbers_of ks), b) =
    ok_is _ _ (sym (keyed_again (codes "levels") (map numeral (numbers_of ls)) a (numerals_are_words (numbers_of ls))) ∙ ap (keyed_words (codes "levels")) lines ∙ keyed_again (codes "levels") (map numeral (numbers_of ks)) b (numerals_are_words (numbers_of ks))) in
    let numbers : numbers_of ls ≡ numbers_of ks = sym (values (numbers_of ls)) ∙ ap (λ (s : List (List ℕ) × List ℕ). map (value_after 0) s.0) both ∙ values (numbers_of ks) in
    step ls ks f g numbers
  where
    step : (ls ks : List ℕ) → (slice_get ls (length ls - 1) ≡ Some 0 → ⊥) → (slice_get ks (length ks - 1) ≡ Some 0 → ⊥) → numbers_of ls ≡ numbers_of ks → ls ≡ ks
    step [] [] f g e = refl
    step [] (k ∷ ks) f g e = absurd (g (ap (λ xs. slice_get xs (length xs - 1)) (sym e)))
    step (l ∷ ls) [] f g e = absurd (f (ap (λ xs. slice_get xs (length xs - 1)) e))
    step (l ∷ ls) (k ∷ ks) f g e = e

-- counts whose last level has a state are told by the lines of their answer
pub same_answers : (c d : CountsValue) → (slice_get c.levels (length c.levels - 1) ≡ Some 0 → ⊥) → (slice_get d.levels (length d.levels - 1) ≡ Some 0 → ⊥) → text_of (answer_lines c) ≡ text_of (answer_lines d) → c ≡ d
same_answers c d f g e =
    let rest = λ (x : CountsValue). line_text (levels_line x.levels) ++ (line_text (codes "end" ∷ []) ++ []) in
    let visits = same_number (codes "visits") c.visits d.visits (line_text (count_line (codes "steps") c.steps) ++ rest c) (line_text (count_line (codes "steps") d.steps) ++ rest d) refl e in
    let steps = same_number (codes "steps") c.steps d.steps (rest c) (rest d) refl visits.1 in
    let levels = same_levels c.levels d.levels (line_text (codes "end" ∷ []) ++ []) (line_text (codes "end" ∷ []) ++ []) f g steps.1 in
    rebuilt visits.0 steps.0 levels
  where
    rebuilt : c.visits ≡ d.visits → c.steps ≡ d.steps → c.levels ≡ d.levels → c ≡ d
    rebuilt a b e = ap₂ (λ (v : ℕ) (s : ℕ). counts_with v s c.levels) a b ∙ ap (λ ls. counts_with d.visits d.steps ls) e
