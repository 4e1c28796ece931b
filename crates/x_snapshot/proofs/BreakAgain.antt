-- Breakpoints that are written are read again.
use Rattle.std.proofs.Common.{◌≡◌, ℕ, ◌+◌, ◌*◌, ◌≤◌, ◌==◌, Bool, true, false, not, ◌||◌, List, [], ◌∷◌, ◌++◌, length, map, decimal, codes, Some, Result, Ok, refl, sym, ◌∙◌, ap, subst, arith, append_assoc, append-nil, leb-true, true≢false, eq-eqb}
use Rattle.std.specs.List.{list_any, list_all}
use Rattle.std.proofs.lemmas.Bool.{and_parts, and_from, or_right, not_from_false, not-true, false_from_ne_true, eqb-true}
use Rattle.std.proofs.lemmas.Bool.Decides.{nat_tests}
use Rattle.std.proofs.lemmas.List.{length-map}
use Rattle.text_lines.specs.Writing.{is_word, line_text, text_of}
use Rattle.text_lines.specs.Each.{◌>>=◌}
use Rattle.text_lines.proofs.NumberLemmas.{reads_printed}
use Rattle.shared_words.specs.Lists.{has, are_distinct, numbers}
use Rattle.cover_problem.specs.Problem.{ProblemValue, IsProblem, is_item, name_at}
use Rattle.cover_problem.specs.Table.{IsCoveredList}
use Rattle.cover_problem.proofs.BoundLemmas.{item_bounds, few}
use Rattle.cover_problem.proofs.AgainLemmas.{item_found}
use Rattle.cover_problem.proofs.WrittenLemmas.{item_is_word}
use Rattle.cover_problem.proofs.CoveredLemmas.{covered_most}
use Rattle.cover_problem.proofs.NumberLemmas.{length-numbers}
use Rattle.x_texts.specs.declared.breakpoint.Break.{Break}
use Rattle.x_texts.specs.declared.breakpoint.Break.TheVariants as breakpoints
use Rattle.x_snapshot.specs.declared.fault.SnapshotFault.{SnapshotFault}
use Rattle.x_snapshot.specs.declared.fault.SnapshotFault.TheVariants.{BadBreak}
use Rattle.x_texts.specs.Breaks.{is_break, is_same, are_new}
use Rattle.x_texts.specs.Words.{break_words}
use Rattle.x_snapshot.specs.Writer.{break_lines}
use Rattle.x_snapshot.specs.Reader.{keyed_line, count_from, break_from, break_of_words, add_break, next_break, repeated, breaks_from, most_breaks, breaks_in}
use Rattle.x_snapshot.proofs.BreakLemmas.{not_new}
use Rattle.x_snapshot.proofs.LineAgain.{keyed_line_again, number_word, count_again, option_again}

module _ (p : ProblemValue) (g : IsProblem p) where
  -- *one breakpoint*

  said_words : Break → List (List ℕ)
  said_words (breakpoints.Level n) = codes "level" ∷ decimal n ∷ []
  said_words (breakpoints.Option k) = codes "option" ∷ decimal k ∷ []
  said_words (breakpoints.Item i) = codes "item" ∷ name_at p.names i ∷ []
  said_words breakpoints.Visit = codes "visit" ∷ []

  words_said : (b : Break) → break_words p.names b ≡ codes "break" ∷ said_words b
  unfolding said_words
  words_said (breakpoints.Level n) = refl
  words_said _ = refl

  break_again : (b : Break) → is_break p b ≡ true → break_from p (said_words b) ≡ Some b
  unfolding said_words break_from
  break_again (breakpoints.Level n) h =
      let f = few p g in
      rw (reads_printed (length p.names) n (omega (arith, f.0)) (leb-true n (length p.names) h)) refl
  break_again (breakpoints.Option k) h =
      let f = few p g in
      let b = item_bounds (length p.options) k h in
      rw (option_again (length p.options) k (omega (arith, f.1)) b.0 b.1) refl
  break_again (breakpoints.Item i) h = rw (item_found p.names i g.new h) refl
  break_again breakpoints.Visit h = refl

  break_is_words : (b : Break) → is_break p b ≡ true → list_all is_word (codes "break" ∷ said_words b) ≡ true
  unfolding said_words
  break_is_words (breakpoints.Level n) h = let f = few p g in number_word n (omega (arith, f.0, leb-true n (length p.names) h))
  break_is_words (breakpoints.Option k) h = let f = few p g in let b = item_bounds (length p.options) k h in number_word k (omega (arith, f.1, b.1))
  break_is_words (breakpoints.Item i) h = and_from (is_word (name_at p.names i)) true (item_is_word p.names i g.named h) refl
  break_is_words breakpoints.Visit h = refl

  said_again : (b : Break) → is_break p b ≡ true → break_of_words p (said_words b) ≡ Ok b
  said_again b h = rw (break_again b h) refl

  one_again : (acc : List Break) (b : Break) (rest : List ℕ) → is_break p b ≡ true → list_any (is_same b) acc ≡ false → add_break p acc (line_text (break_words p.names b) ++ rest) ≡ Ok (acc ++ b ∷ [], rest)
  unfolding add_break
  one_again acc b rest h new =
      rw (words_said b, keyed_line_again BadBreak (codes "break") (break_of_words p) (said_words b) rest b (break_is_words b h) (said_again b h), new) refl

  -- *all of them*

  absent : (acc : List Break) (b : Break) (bs : List Break) → are_new (acc ++ b ∷ bs) ≡ true → list_any (is_same b) acc ≡ false
  absent acc b bs n = false_from_ne_true (list_any (is_same b) acc) (λ e. true≢false (sym n ∙ not_new acc b bs e))

  some_again : (acc bs : List Break) (rest : List ℕ) → list_all (is_break p) bs ≡ true → are_new (acc ++ bs) ≡ true → repeated (next_break p) (length bs) (acc, text_of (map (break_words p.names) bs) ++ rest) ≡ Ok (acc ++ bs, rest)
  unfolding repeated
  some_again acc [] rest h n = ap (λ xs. done xs) (sym (append-nil acc))
    where
      done : List Break → Result (List Break × List ℕ) SnapshotFault
      done xs = Ok (xs, rest)
  some_again acc (b ∷ bs) rest h n =
      let q = and_parts (is_break p b) (list_all (is_break p) bs) h in
      let e = append_assoc acc (b ∷ []) bs in
      let line : text_of (map (break_words p.names) (b ∷ bs)) ++ rest ≡ line_text (break_words p.names b) ++ (text_of (map (break_words p.names) bs) ++ rest) = append_assoc (line_text (break_words p.names b)) (text_of (map (break_words p.names) bs)) rest in
      let later = some_again (acc ++ b ∷ []) bs rest q.1 (rw e n) in
      ap (λ t. next_break p (acc, t) >>= λ s. repeated (next_break p) (length bs) s) line
      ∙ ap (λ r. r >>= λ s. repeated (next_break p) (length bs) s) (one_again acc b (text_of (map (break_words p.names) bs) ++ rest) q.0 (absent acc b bs n))
      ∙ rw e at later

  -- *how many there can be*

  -- a number for each breakpoint
  code : Break → ℕ
  code (breakpoints.Level n) = n + 1
  code (breakpoints.Item i) = length p.names + 1 + i
  code (breakpoints.Option k) = 2 * length p.names + 1 + k
  code breakpoints.Visit = 2 * length p.names + length p.options + 2

  abbrev most_codes : ℕ
  most_codes = 2 * length p.names + length p.options + 2

  code_bounds : (b : Break) → is_break p b ≡ true → is_item most_codes (code b) ≡ true
  unfolding code
  code_bounds (breakpoints.Level n) h = let l = leb-true n (length p.names) h in grind (arith, nat_tests)
  code_bounds (breakpoints.Item i) h = let l = item_bounds (length p.names) i h in grind (arith, nat_tests)
  code_bounds (breakpoints.Option k) h = let l = item_bounds (length p.options) k h in grind (arith, nat_tests)
  code_bounds breakpoints.Visit h = grind (arith, nat_tests)

  same_code : (a b : Break) → is_break p a ≡ true → is_break p b ≡ true → code b ≡ code a → is_same a b ≡ true
  unfolding code
  same_code (breakpoints.Level m) (breakpoints.Level n) h k e = eq-eqb m n (omega arith)
  same_code (breakpoints.Level m) (breakpoints.Option n) h k e = let a = leb-true m (length p.names) h in let b = item_bounds (length p.options) n k in absurd (omega (arith, b.0))
  same_code (breakpoints.Level m) (breakpoints.Item n) h k e = let a = leb-true m (length p.names) h in let b = item_bounds (length p.names) n k in absurd (omega (arith, b.0))
  same_code (breakpoints.Level m) breakpoints.Visit h k e = let a = leb-true m (length p.names) h in absurd (omega arith)
  same_code (breakpoints.Option m) (breakpoints.Level n) h k e = let a = item_bounds (length p.options) m h in let b = leb-true n (length p.names) k in absurd (omega (arith, a.0))
  same_code (breakpoints.Option m) (breakpoints.Option n) h k e = eq-eqb m n (omega arith)
  same_code (breakpoints.Option m) (breakpoints.Item n) h k e = let a = item_bounds (length p.options) m h in let b = item_bounds (length p.names) n k in absurd (omega (arith, a.0, b.1))
  same_code (breakpoints.Option m) breakpoints.Visit h k e = let a = item_bounds (length p.options) m h in absurd (omega (arith, a.1))
  same_code (breakpoints.Item m) (breakpoints.Level n) h k e = let a = item_bounds (length p.names) m h in let b = leb-true n (length p.names) k in absurd (omega (arith, a.0))
  same_code (breakpoints.Item m) (breakpoints.Option n) h k e = let a = item_bounds (length p.names) m h in let b = item_bounds (length p.options) n k in absurd (omega (arith, a.1, b.0))
  same_code (breakpoints.Item m) (breakpoints.Item n) h k e = eq-eqb m n (omega arith)
  same_code (breakpoints.Item m) breakpoints.Visit h k e = let a = item_bounds (length p.names) m h in absurd (omega (arith, a.1))
  same_code breakpoints.Visit (breakpoints.Level n) h k e = let b = leb-true n (length p.names) k in absurd (omega arith)
  same_code breakpoints.Visit (breakpoints.Option n) h k e = let b = item_bounds (length p.options) n k in absurd (omega (arith, b.1))
  same_code breakpoints.Visit (breakpoints.Item n) h k e = let b = item_bounds (length p.names) n k in absurd (omega (arith, b.1))
  same_code breakpoints.Visit breakpoints.Visit h k e = refl

  has_code : (b : Break) (bs : List Break) → is_break p b ≡ true → list_all (is_break p) bs ≡ true → has (map code bs) (code b) ≡ true → list_any (is_same b) bs ≡ true
  has_code b [] h k e = cc
  has_code b (c ∷ cs) h k e =
      let q = and_parts (is_break p c) (list_all (is_break p) cs) k in
      step (code c == code b) refl q (has_code b cs h q.1) e
    where
      step : (v : Bool) → (code c == code b) ≡ v → (is_break p c ≡ true) × (list_all (is_break p) cs ≡ true) → (has (map code cs) (code b) ≡ true → list_any (is_same b) cs ≡ true) → (v || has (map code cs) (code b)) ≡ true → list_any (is_same b) (c ∷ cs) ≡ true
      step true e q later r = rw (same_code b c h q.0 (eqb-true (code c) (code b) e)) refl
      step false e q later r = or_right (is_same b c) (list_any (is_same b) cs) (later r)

  distinct_codes : (bs : List Break) → list_all (is_break p) bs ≡ true → are_new bs ≡ true → are_distinct (map code bs) ≡ true
  distinct_codes [] h n = refl
  distinct_codes (b ∷ bs) h n =
      let q = and_parts (is_break p b) (list_all (is_break p) bs) h in
      let r = and_parts (not (list_any (is_same b) bs)) (are_new bs) n in
      let gone : has (map code bs) (code b) ≡ false = false_from_ne_true (has (map code bs) (code b)) (λ e. true≢false (sym (has_code b bs q.0 q.1 e) ∙ not-true (list_any (is_same b) bs) r.0)) in
      and_from (not (has (map code bs) (code b))) (are_distinct (map code bs)) (not_from_false (has (map code bs) (code b)) gone) (distinct_codes bs q.1 r.1)

  codes_in : (bs : List Break) → list_all (is_break p) bs ≡ true → list_all (is_item most_codes) (map code bs) ≡ true
  codes_in [] h = refl
  codes_in (b ∷ bs) h =
      let q = and_parts (is_break p b) (list_all (is_break p) bs) h in
      and_from (is_item most_codes (code b)) (list_all (is_item most_codes) (map code bs)) (code_bounds b q.0) (codes_in bs q.1)

  -- as many items as there are numbers of breakpoints
  numbered_items : ProblemValue
  numbered_items = record { names = map (λ k. []) (numbers most_codes 1); primary = 0; options = [] }

  items_counted : length numbered_items.names ≡ most_codes
  unfolding numbered_items
  items_counted = length-map (numbers most_codes 1) (λ k. []) ∙ length-numbers most_codes 1

  breaks_few : (bs : List Break) → list_all (is_break p) bs ≡ true → are_new bs ≡ true → length bs ≤ 999999999
  breaks_few bs h n =
      let covered : IsCoveredList numbered_items (map code bs) = record {
        distinct = distinct_codes bs h n;
        items = subst (λ m. list_all (is_item m) (map code bs) ≡ true) (sym items_counted) (codes_in bs h);
      } in
      let most = covered_most numbered_items (map code bs) covered in
      let long : length (map code bs) ≡ length bs = length-map bs code in
      let count = items_counted in
      let f = few p g in
      omega (arith, f.0, f.1)

  -- the lines of the second version
  pub breaks_again : (bs : List Break) (rest : List ℕ) → list_all (is_break p) bs ≡ true → are_new bs ≡ true → breaks_in p (text_of (break_lines p bs) ++ rest) ≡ Ok (bs, rest)
  unfolding breaks_in
  breaks_again bs rest h n =
      let count = length bs in
      let within : count ≤ 999999999 = breaks_few bs h n in
      let back = text_of (map (break_words p.names) bs) ++ rest in
      let words : list_all is_word (codes "breaks" ∷ decimal count ∷ []) ≡ true = number_word count (omega arith) in
      let line : text_of (break_lines p bs) ++ rest ≡ line_text (codes "breaks" ∷ decimal count ∷ []) ++ back = append_assoc (line_text (codes "breaks" ∷ decimal count ∷ [])) (text_of (map (break_words p.names) bs)) rest in
      let read : keyed_line BadBreak (codes "breaks") (count_from BadBreak most_breaks) (line_text (codes "breaks" ∷ decimal count ∷ []) ++ back) ≡ Ok (count, back) = keyed_line_again BadBreak (codes "breaks") (count_from BadBreak most_breaks) (decimal count ∷ []) back count words (count_again BadBreak most_breaks count (omega arith) within) in
      ap (λ t. keyed_line BadBreak (codes "breaks") (count_from BadBreak most_breaks) t >>= λ c. breaks_from p c.0 c.1) line
      ∙ ap (λ r. r >>= λ c. breaks_from p c.0 c.1) read
      ∙ some_again [] bs rest h n
