-- What is read is a text of the grammar.
use Rattle.std.proofs.Common.{◌≡◌, ◌<◌, inl, inr, ℕ, List, [], ◌∷◌, ◌++◌, true, false, nat_lt, Option, Some, None, Ok, Err, refl, sym, ap, ◌∙◌, subst, codes, arith, append_assoc, append-nil, ltb-true, ltb-false}
use Rattle.std.proofs.lemmas.Option.{none-some}
use Rattle.text_lines.specs.Lines.{lines_of}
use Rattle.text_lines.specs.Writing.{words_of_line}
use Rattle.text_lines.specs.Each.{each}
use Rattle.text_lines.specs.Reading.{words_by_line, lines_read}
use Rattle.text_lines.proofs.TextWordLemmas.{words_read, blank_left_out, words_kept}
use Rattle.text_lines.proofs.FirstFaultLemmas.{text_parts}
use Rattle.text_lines.proofs.ReadingLemmas.{text_ok}
use Rattle.cover_problem.proofs.FirstFaultLemmas.{from_whole_fault}
use Rattle.cover_problem.specs.declared.fault.Fault.TheVariants.{NoItemLine, BadLine}
use Rattle.cover_problem.specs.declared.key.Key.{Key}
use Rattle.cover_problem.specs.declared.key.Key.TheVariants as keys
use Rattle.cover_problem.specs.Problem.{ProblemValue, IsProblem}
use Rattle.cover_problem.specs.Reading.{nothing, key_from, keyed_line, words_line, line, problem_of, with_items}
use Rattle.cover_problem.specs.Grammar.{IsCoverText}
use Rattle.text_lines.proofs.EachLemmas.{each_none, each_parts}
use Rattle.text_lines.proofs.ResultLemmas.{key_told, ok_is, no_fault, granted}
use Rattle.cover_problem.proofs.BegunLemmas.{IsBegun, begun_lines, Says, begun_some, items_say, maybe_say, option_says}

-- *a line by its first word*

key_word : Key → List ℕ
key_word keys.Items = codes "items"
key_word keys.Maybe = codes "maybe"
key_word keys.Option = codes "option"

key_is : (word : List ℕ) (k : Key) → key_from word ≡ Some k → word ≡ key_word k
unfolding key_word
key_is word k h =
    let first = key_told key_word word k in first keys.Items _ (first keys.Maybe _ (first keys.Option None (λ e. absurd (none-some k e)))) h

keyed_says : (p q : ProblemValue) (key : List ℕ) (words : List (List ℕ)) (k : Option Key) → key_from key ≡ k → IsBegun p → keyed_line k p words ≡ Ok q → Says p q (key ∷ words)
unfolding key_word
keyed_says p q key words None e begun h = absurd (no_fault BadLine q h)
keyed_says p q key words (Some keys.Items) e begun h = rw (key_is key keys.Items e) (items_say p q words h)
keyed_says p q key words (Some keys.Maybe) e begun h = rw (key_is key keys.Maybe e) (maybe_say p q words begun h)
keyed_says p q key words (Some keys.Option) e begun h = rw (key_is key keys.Option e) (option_says p q words begun h)

-- *the lines of a text*

-- q is read where p was read before, and these lines
record SaysAll (p q : ProblemValue) (more : List (List (List ℕ))) : Type 0 where
  pub begun : IsBegun q
  pub lines : begun_lines q ≡ begun_lines p ++ more

word_line_says : (p q : ProblemValue) (key : List ℕ) (words : List (List ℕ)) → IsBegun p → words_line p (key ∷ words) ≡ Ok q → Says p q (key ∷ words)
unfolding words_line
word_line_says p q key words begun h = keyed_says p q key words (key_from key) refl begun h

-- the words of lines say what is read
words_say : (lines : List (List ℕ)) (p q : ProblemValue) → IsBegun p → each words_line p (words_by_line lines) ≡ Ok q → SaysAll p q (words_by_line lines)
words_say [] p q begun h =
    let e = each_none words_line p q h in
    record { begun = subst IsBegun e begun; lines = ap begun_lines (sym e) ∙ sym (append-nil (begun_lines p)) }
words_say (bytes ∷ lines) p q begun h = by_words (λ r. words_say lines r q) (words_of_line bytes) refl
  where
    by_words : ((r : ProblemValue) → IsBegun r → each words_line r (words_by_line lines) ≡ Ok q → SaysAll r q (words_by_line lines)) → (words : List (List ℕ)) → words_of_line bytes ≡ words → SaysAll p q (words_by_line (bytes ∷ lines))
    by_words later [] e = rw (blank_left_out bytes lines e) (later p begun (rw (blank_left_out bytes lines e) at h))
    by_words later (key ∷ words) e =
        let d = each_parts words_line p (key ∷ words) (words_by_line lines) q (rw (words_kept bytes lines key words e) at h) in
        let one = word_line_says p d.0 key words begun d.1 in
        let rest = later d.0 one.begun d.2 in
        rw (words_kept bytes lines key words e) (record {
          begun = rest.begun;
          lines = rest.lines ∙ ap (λ ls. ls ++ words_by_line lines) one.lines ∙ append_assoc (begun_lines p) ((key ∷ words) ∷ []) (words_by_line lines);
        })

pub blank : (p : ProblemValue) → words_line p [] ≡ Ok p
unfolding words_line
blank p = refl

-- what the lines of a text say is a problem, where they have items
pub lines_are : (text : List ℕ) (p : ProblemValue) (n : ℕ) → lines_read line nothing (lines_of text) ≡ Ok (p, n) → nat_lt 0 p.primary ≡ true → IsCoverText text p
unfolding line
lines_are text p n h some =
    let w = words_read BadLine words_line blank (lines_of text) nothing p 1 n h in
    let s = words_say (lines_of text) nothing p (inl refl) w.1 in
    let l : 0 < p.primary = ltb-true 0 p.primary some in
    record { plain = w.0; says = sym s.lines ∙ begun_some p l; problem = at_problem p s.begun l }
  where
    at_problem : (p : ProblemValue) → IsBegun p → 0 < p.primary → IsProblem p
    at_problem p (inl e) l = let f = ap (λ q. q.primary) e in absurd (omega arith)
    at_problem p (inr g) l = g

-- the text of lines that were read
module _ (text : List ℕ) (p : ProblemValue) (n : ℕ) (read : lines_read line nothing (lines_of text) ≡ Ok (p, n)) where
  pub text_with_items : nat_lt 0 p.primary ≡ true → problem_of text ≡ Ok p
  unfolding problem_of
  text_with_items some = let w : with_items p ≡ Ok p = rw some refl in text_ok line nothing with_items (lines_of text) p n read p w

  pub text_without_items : nat_lt 0 p.primary ≡ false → problem_of text ≡ Err (NoItemLine, 0)
  text_without_items none = let l = ltb-false 0 p.primary none in from_whole_fault text NoItemLine (refl, (p, n, read, omega arith))

-- what is read is a text of the grammar
pub read_is_text : (text : List ℕ) (p : ProblemValue) → problem_of text ≡ Ok p → IsCoverText text p
unfolding problem_of
read_is_text text p h =
    let s = text_parts line nothing with_items (lines_of text) p h in
    let w = granted (nat_lt 0 s.0.primary) NoItemLine (Ok s.0) p s.3 in
    subst (IsCoverText text) (ok_is s.0 p w.1) (lines_are text s.0 s.1 s.2 w.0)
