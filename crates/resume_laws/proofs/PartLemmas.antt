-- An output of lines of words and a rest is parted where the rest begins.
use Rattle.std.proofs.Common.{◌≡◌, ℕ, suc, List, [], ◌∷◌, ◌++◌, length, map, take, drop, Bool, true, false, not, cond, refl, sym, ◌∙◌, ap, one-add, append_assoc}
use Rattle.std.specs.List.{list_all, onto_first, position_or_len}
use Rattle.std.proofs.lemmas.Bool.{and_parts, eqb-true}
use Rattle.std.proofs.Math.Seq.{take-append_seam, drop-append_seam}
use Rattle.text_lines.specs.Lines.{lines_of, is_newline}
use Rattle.text_lines.specs.Writing.{is_word, spaced, line_text, text_of}
use Rattle.text_lines.proofs.WritingLemmas.{line_before}
use Rattle.resume_laws.specs.ResumedTexts.{begins_rest, ended_lines, report_part, rest_part}

-- ---- lines

lines_before : (ls : List (List (List ℕ))) (rest : List ℕ) → list_all (list_all is_word) ls ≡ true → lines_of (text_of ls ++ rest) ≡ map spaced ls ++ lines_of rest
lines_before [] rest h = refl
lines_before (ws ∷ ls) rest h =
    let e : (list_all is_word ws ≡ true) × (list_all (list_all is_word) ls ≡ true) = and_parts _ _ h in
    ap lines_of (append_assoc (line_text ws) (text_of ls) rest) ∙ line_before ws (text_of ls ++ rest) e.0
    ∙ ap (λ more. spaced ws ∷ more) (lines_before ls rest e.1)

ended_words : (ls : List (List (List ℕ))) → ended_lines (map spaced ls) ≡ text_of ls
ended_words [] = refl
ended_words (ws ∷ ls) = ap (λ more. line_text ws ++ more) (ended_words ls)

onto_ended : (b : ℕ) (bs : List ℕ) (lines : List (List ℕ)) → ended_lines lines ≡ bs ++ 10 ∷ [] → ended_lines (onto_first b lines) ≡ b ∷ bs ++ 10 ∷ []
onto_ended b [] [] e = cc
onto_ended b (c ∷ cs) [] e = cc
onto_ended b bs (l ∷ ls) e = ap (λ more. b ∷ more) e

-- a text whose last line is ended is its lines, each with its end
pub ended_text : (bs : List ℕ) → ended_lines (lines_of (bs ++ 10 ∷ [])) ≡ bs ++ 10 ∷ []
ended_text [] = refl
ended_text (b ∷ bs) = by (is_newline b) refl (ended_text bs)
  where
    by : (v : Bool) → is_newline b ≡ v → ended_lines (lines_of (bs ++ 10 ∷ [])) ≡ bs ++ 10 ∷ [] → ended_lines (cond v ([] ∷ lines_of (bs ++ 10 ∷ [])) (onto_first b (lines_of (bs ++ 10 ∷ [])))) ≡ b ∷ bs ++ 10 ∷ []
    by true e more = ap (λ m. 10 ∷ m) more ∙ ap (λ c. c ∷ bs ++ 10 ∷ []) (sym (eqb-true b 10 e))
    by false e more = onto_ended b bs (lines_of (bs ++ 10 ∷ [])) more

-- ---- the place of the rest

-- a rest begins at the first of these lines, or there are none
abbrev pub starts_rest : List (List ℕ) → Bool
starts_rest [] = true
starts_rest (line ∷ lines) = begins_rest line

-- none of these lines begins a rest
abbrev pub are_report_lines : List (List ℕ) → Bool
are_report_lines lines = list_all (λ line. not (begins_rest line)) lines

place : (lines more : List (List ℕ)) → are_report_lines lines ≡ true → starts_rest more ≡ true → position_or_len begins_rest (lines ++ more) ≡ length lines
place [] [] h s = refl
place [] (m ∷ ms) h s = rw s refl
place (l ∷ ls) more h s =
    let e : (not (begins_rest l) ≡ true) × (are_report_lines ls ≡ true) = and_parts _ _ h in
    rw (e.0, one-add) (ap suc (place ls more e.1 s))

-- ---- the parts

module _ (ls : List (List (List ℕ))) (rest : List ℕ) (words : list_all (list_all is_word) ls ≡ true) (report : are_report_lines (map spaced ls) ≡ true) (starts : starts_rest (lines_of rest) ≡ true) where
  place_is : position_or_len begins_rest (lines_of (text_of ls ++ rest)) ≡ length (map spaced ls)
  place_is = ap (position_or_len begins_rest) (lines_before ls rest words) ∙ place (map spaced ls) (lines_of rest) report starts

  pub report_is : report_part (text_of ls ++ rest) ≡ text_of ls
  unfolding report_part
  report_is =
      ap (λ n. ended_lines (take n (lines_of (text_of ls ++ rest)))) place_is
      ∙ ap (λ lines. ended_lines (take (length (map spaced ls)) lines)) (lines_before ls rest words)
      ∙ ap ended_lines (take-append_seam (map spaced ls) (lines_of rest))
      ∙ ended_words ls

  pub rest_is : ended_lines (lines_of rest) ≡ rest → rest_part (text_of ls ++ rest) ≡ rest
  unfolding rest_part
  rest_is ended =
      ap (λ n. ended_lines (drop n (lines_of (text_of ls ++ rest)))) place_is
      ∙ ap (λ lines. ended_lines (drop (length (map spaced ls)) lines)) (lines_before ls rest words)
      ∙ ap ended_lines (drop-append_seam (map spaced ls) (lines_of rest))
      ∙ ended
