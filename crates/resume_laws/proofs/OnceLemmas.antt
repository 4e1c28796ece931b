-- The lines of a report tell it.
use Rattle.std.proofs.Common.{◌≡◌, ◌∙◌, ℕ, ◌^◌, nat_lt, true, List, [], ◌∷◌, length, map, take, drop, get_or, decimal, codes, refl, sym, ap, ap₂, arith, length-append}
use Rattle.std.specs.Str.Parse.{digits_value}
use Rattle.std.specs.List.{list_all}
use Rattle.std.proofs.lemmas.Bool.{and_parts, ltb-true}
use Rattle.std.proofs.lemmas.Fmt.{decimal_is_IsNumeral_wide}
use Rattle.std.proofs.Math.Seq.{take-append_seam, drop-append_seam}
use Rattle.text_lines.specs.Lines.{lines_of}
use Rattle.text_lines.specs.Writing.{words_of_line}
use Rattle.text_lines.proofs.WritingLemmas.{written_said}
use Rattle.x_steps.specs.Levels.{without_last_zeros}
use Rattle.cover_counts.specs.Digits.{numeral}
use Rattle.cover_counts.proofs.DigitLemmas.{numeral_is_decimal}
use Rattle.x_texts.specs.Words.{visit_words}
use Rattle.polylab_engine.specs.Account.{ReportValue}
use Rattle.polylab_engine.specs.Output.{report_text, level_words, total_lines}
use Rattle.polylab_engine.proofs.AccountLemmas.{same_reports}
use Rattle.resume_laws.specs.ResumedTexts.{are_written, IsWritten}
use Rattle.resume_laws.proofs.WordLemmas.{report_lines, report_is_lines, report_words}

-- ---- numbers

same_number : (m n : ℕ) → nat_lt m (10 ^ 64) ≡ true → nat_lt n (10 ^ 64) ≡ true → decimal m ≡ decimal n → m ≡ n
same_number m n a b e = sym (decimal_is_IsNumeral_wide m (ltb-true m (10 ^ 64) a)).1 ∙ ap (digits_value 10) e ∙ (decimal_is_IsNumeral_wide n (ltb-true n (10 ^ 64) b)).1

same_numeral : (m n : ℕ) → nat_lt m (10 ^ 64) ≡ true → nat_lt n (10 ^ 64) ≡ true → numeral m ≡ numeral n → m ≡ n
same_numeral m n a b e = same_number m n a b (sym (numeral_is_decimal m (ltb-true m (10 ^ 64) a)) ∙ e ∙ numeral_is_decimal n (ltb-true n (10 ^ 64) b))

one_number : (m n : ℕ) → are_written (m ∷ []) ≡ true → are_written (n ∷ []) ≡ true → numeral m ≡ numeral n → m ≡ n
one_number m n a b e = same_numeral m n (and_parts (nat_lt m (10 ^ 64)) true a).0 (and_parts (nat_lt n (10 ^ 64)) true b).0 e

-- numbers are told by their texts, if each is
same_numbers
    : (text : ℕ → List ℕ) → ((m n : ℕ) → nat_lt m (10 ^ 64) ≡ true → nat_lt n (10 ^ 64) ≡ true → text m ≡ text n → m ≡ n)
    → (ms ns : List ℕ) → are_written ms ≡ true → are_written ns ≡ true → map text ms ≡ map text ns → ms ≡ ns
same_numbers text same [] [] a b e = refl
same_numbers text same [] (n ∷ ns) a b e = absurd (let l = ap length e in omega arith)
same_numbers text same (m ∷ ms) [] a b e = absurd (let l = ap length e in omega arith)
same_numbers text same (m ∷ ms) (n ∷ ns) a b e =
    let p = and_parts (nat_lt m (10 ^ 64)) (are_written ms) a in
    let q = and_parts (nat_lt n (10 ^ 64)) (are_written ns) b in
    ap₂ (λ (k : ℕ) (ks : List ℕ). k ∷ ks) (same m n p.0 q.0 (ap (λ ws. get_or ws 0 []) e)) (same_numbers text same ms ns p.1 q.1 (ap (drop 1) e))

-- ---- lines

same_visits : (ps qs : List (List ℕ)) → list_all are_written ps ≡ true → list_all are_written qs ≡ true → map visit_words ps ≡ map visit_words qs → ps ≡ qs
same_visits [] [] a b e = refl
same_visits [] (q ∷ qs) a b e = absurd (let l = ap length e in omega arith)
same_visits (p ∷ ps) [] a b e = absurd (let l = ap length e in omega arith)
same_visits (p ∷ ps) (q ∷ qs) a b e =
    let x = and_parts (are_written p) (list_all are_written ps) a in
    let y = and_parts (are_written q) (list_all are_written qs) b in
    ap₂ (λ (path : List ℕ) (paths : List (List ℕ)). path ∷ paths) (same_numbers decimal same_number p q x.0 y.0 (ap (λ ls. drop 1 (get_or ls 0 [])) e)) (same_visits ps qs x.1 y.1 (ap (drop 1) e))

-- a level alone that has no state isn't the last
no_zero : (n : ℕ) (ns : List ℕ) → are_written (n ∷ ns) ≡ true → without_last_zeros (n ∷ ns) ≡ n ∷ ns → codes "0" ∷ [] ≡ map numeral (n ∷ ns) → ⊥
unfolding without_last_zeros
no_zero n [] a last e =
    let zero_is : ◌≡◌ {A = ℕ} 0 n = same_numeral 0 n refl (and_parts (nat_lt n (10 ^ 64)) true a).0 (ap (λ ws. get_or ws 0 []) e) in
    let none : ◌≡◌ {A = List ℕ} [] (0 ∷ []) = ap (λ k. without_last_zeros (k ∷ [])) zero_is ∙ last ∙ ap (λ k. k ∷ []) (sym zero_is) in
    let l : ◌≡◌ {A = ℕ} 0 1 = ap (length {A = ℕ}) none in omega arith
no_zero n (m ∷ ms) a last e = let l = ap length e in omega arith

same_levels : (ls ks : List ℕ) → are_written ls ≡ true → are_written ks ≡ true → without_last_zeros ls ≡ ls → without_last_zeros ks ≡ ks → level_words ls ≡ level_words ks → ls ≡ ks
same_levels [] [] a b u v e = refl
same_levels [] (k ∷ ks) a b u v e = absurd (no_zero k ks b v (ap (drop 1) e))
same_levels (l ∷ ls) [] a b u v e = absurd (no_zero l ls a u (sym (ap (drop 1) e)))
same_levels (l ∷ ls) (k ∷ ks) a b u v e = same_numbers numeral same_numeral (l ∷ ls) (k ∷ ks) a b (ap (drop 1) e)

-- ---- reports

lines_told : (r : ReportValue) → map words_of_line (lines_of (report_text r)) ≡ report_lines r
lines_told r = ap (λ text. map words_of_line (lines_of text)) (sym (report_is_lines r)) ∙ written_said (report_lines r) (report_words r)

pub told_once : (r q : ReportValue) → IsWritten r → IsWritten q → report_text r ≡ report_text q → r ≡ q
told_once r q a b e = same_reports r q
    (same_visits r.visits q.visits a.visits b.visits front)
    (one_number r.visited q.visited a.visited b.visited (ap (λ ls. get_or (get_or ls 0 []) 1 []) back))
    (one_number r.steps q.steps a.steps b.steps (ap (λ ls. get_or (get_or ls 1 []) 1 []) back))
    (same_levels r.levels q.levels a.levels b.levels a.last b.last (ap (λ ls. get_or ls 2 []) back))
  where
    total : ReportValue → List (List (List ℕ))
    total s = total_lines s.visited s.steps s.levels

    lines : report_lines r ≡ report_lines q
    lines = sym (lines_told r) ∙ ap (λ text. map words_of_line (lines_of text)) e ∙ lines_told q

    long : length (map visit_words r.visits) ≡ length (map visit_words q.visits)
    long =
        let n = ap length lines in
        let x = length-append (map visit_words r.visits) (total r) in
        let y = length-append (map visit_words q.visits) (total q) in omega arith

    front : map visit_words r.visits ≡ map visit_words q.visits
    front = sym (take-append_seam (map visit_words r.visits) (total r)) ∙ (λ i. take (long i) (lines i)) ∙ take-append_seam (map visit_words q.visits) (total q)

    back : total r ≡ total q
    back = sym (drop-append_seam (map visit_words r.visits) (total r)) ∙ (λ i. drop (long i) (lines i)) ∙ drop-append_seam (map visit_words q.visits) (total q)
