-- A text that is read by the words of its lines says what those words say, and no more: comments, blanks and empty lines
-- say nothing.
use Rattle.std.proofs.Common.{◌≡◌, ℕ, ◌+◌, List, [], ◌∷◌, true, Result, Ok, refl, sym, ap, ◌∙◌, subst}
use Rattle.std.specs.List.{list_all}
use Rattle.std.proofs.lemmas.Bool.{and_parts, and_from}
use Rattle.text_lines.specs.Lines.{outside_comment, is_plain}
use Rattle.text_lines.specs.Writing.{words_of_line, are_plain}
use Rattle.text_lines.specs.Each.{each}
use Rattle.text_lines.specs.Reading.{plain_line, words_by_line, numbered_line}
use Rattle.text_lines.proofs.EachLemmas.{each_parts}
use Rattle.text_lines.proofs.ResultLemmas.{ok_is, granted}
use Rattle.text_lines.proofs.ReadingLemmas.{line_done}

-- the words of a line without words aren't kept, and those of another are
pub blank_left_out : (bytes : List ℕ) (lines : List (List ℕ)) → words_of_line bytes ≡ [] → words_by_line (bytes ∷ lines) ≡ words_by_line lines
blank_left_out bytes lines e = rw e refl

pub words_kept : (bytes : List ℕ) (lines : List (List ℕ)) (key : List ℕ) (words : List (List ℕ)) → words_of_line bytes ≡ key ∷ words → words_by_line (bytes ∷ lines) ≡ (key ∷ words) ∷ words_by_line lines
words_kept bytes lines key words e = rw e refl

-- a line of no words says nothing
module _ {S F : Type 0} (bad : F) (words_line : S → List (List ℕ) → Result S F) (blank : (s : S) → words_line s [] ≡ Ok s) where
  -- *a line*

  line_parts : (s t : S) (bytes : List ℕ) → plain_line bad words_line s bytes ≡ Ok t → (list_all is_plain (outside_comment bytes) ≡ true) × (words_line s (words_of_line bytes) ≡ Ok t)
  unfolding plain_line
  line_parts s t bytes h = granted (list_all is_plain (outside_comment bytes)) bad (words_line s (words_of_line bytes)) t h

  line_again : (s t : S) (n : ℕ) (bytes : List ℕ) → list_all is_plain (outside_comment bytes) ≡ true → words_line s (words_of_line bytes) ≡ Ok t → numbered_line (plain_line bad words_line) (s, n) bytes ≡ Ok (t, n + 1)
  unfolding numbered_line plain_line
  line_again s t n bytes plain h = rw (plain, h) refl

  -- *all lines*

  -- what is read is plain, and its words say what is said
  pub words_read : (lines : List (List ℕ)) (s t : S) (n m : ℕ) → each (numbered_line (plain_line bad words_line)) (s, n) lines ≡ Ok (t, m) → (are_plain lines ≡ true) × (each words_line s (words_by_line lines) ≡ Ok t)
  unfolding each
  words_read [] s t n m h = (refl, ap (λ u. Ok u.0) (ok_is (s, n) (t, m) h))
  words_read (bytes ∷ lines) s t n m h = step (λ r. words_read lines r t (n + 1) m) (each_parts (numbered_line (plain_line bad words_line)) (s, n) bytes lines (t, m) h)
    where
      by_words : (r : S) (words : List (List ℕ)) → words_of_line bytes ≡ words → words_line s words ≡ Ok r → each words_line r (words_by_line lines) ≡ Ok t → each words_line s (words_by_line (bytes ∷ lines)) ≡ Ok t
      by_words r [] e a b =
          let same : r ≡ s = ok_is r s (sym a ∙ blank s) in
          rw (blank_left_out bytes lines e) (subst (λ q. each words_line q (words_by_line lines) ≡ Ok t) same b)
      by_words r (key ∷ words) e a b = rw (words_kept bytes lines key words e) (rw a b)

      step : ((r : S) → each (numbered_line (plain_line bad words_line)) (r, n + 1) lines ≡ Ok (t, m) → (are_plain lines ≡ true) × (each words_line r (words_by_line lines) ≡ Ok t)) →
          (u : S × ℕ) × (numbered_line (plain_line bad words_line) (s, n) bytes ≡ Ok u) × (each (numbered_line (plain_line bad words_line)) u lines ≡ Ok (t, m)) → (are_plain (bytes ∷ lines) ≡ true) × (each words_line s (words_by_line (bytes ∷ lines)) ≡ Ok t)
      step later (u, a, b) =
          let d = line_done (plain_line bad words_line) s n bytes u a in
          let p = line_parts s d.0 bytes d.1 in
          let r = later d.0 (subst (λ v. each (numbered_line (plain_line bad words_line)) v lines ≡ Ok (t, m)) d.2 b) in
          (and_from _ _ p.0 r.0, by_words d.0 (words_of_line bytes) refl p.1 r.1)

  -- plain lines whose words say something are read, whatever number the first has
  pub read_words : (lines : List (List ℕ)) (s t : S) (n : ℕ) → are_plain lines ≡ true → each words_line s (words_by_line lines) ≡ Ok t → (m : ℕ) × (each (numbered_line (plain_line bad words_line)) (s, n) lines ≡ Ok (t, m))
  unfolding each
  read_words [] s t n plain h = (n, ap (λ q. Ok (q, n)) (ok_is s t h))
  read_words (bytes ∷ lines) s t n plain h = by_words (λ r. read_words lines r t (n + 1)) (words_of_line bytes) refl
    where
      parts : (list_all is_plain (outside_comment bytes) ≡ true) × (are_plain lines ≡ true)
      parts = and_parts (list_all is_plain (outside_comment bytes)) (are_plain lines) plain

      go_on : ((r : S) → are_plain lines ≡ true → each words_line r (words_by_line lines) ≡ Ok t → (m : ℕ) × (each (numbered_line (plain_line bad words_line)) (r, n + 1) lines ≡ Ok (t, m))) →
          (r : S) → words_line s (words_of_line bytes) ≡ Ok r → each words_line r (words_by_line lines) ≡ Ok t → (m : ℕ) × (each (numbered_line (plain_line bad words_line)) (s, n) (bytes ∷ lines) ≡ Ok (t, m))
      go_on later r a b = let l = later r parts.1 b in (l.0, rw (line_again s r n bytes parts.0 a) l.1)

      by_words : ((r : S) → are_plain lines ≡ true → each words_line r (words_by_line lines) ≡ Ok t → (m : ℕ) × (each (numbered_line (plain_line bad words_line)) (r, n + 1) lines ≡ Ok (t, m))) →
          (words : List (List ℕ)) → words_of_line bytes ≡ words → (m : ℕ) × (each (numbered_line (plain_line bad words_line)) (s, n) (bytes ∷ lines) ≡ Ok (t, m))
      by_words later [] e = go_on later s (ap (words_line s) e ∙ blank s) (rw (blank_left_out bytes lines e) at h)
      by_words later (key ∷ words) e =
          let d = each_parts words_line s (key ∷ words) (words_by_line lines) t (rw (words_kept bytes lines key words e) at h) in
          go_on later d.0 (ap (words_line s) e ∙ d.1) d.2
