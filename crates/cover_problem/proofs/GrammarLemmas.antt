-- A text of a problem is read as that problem.
use Rattle.std.proofs.Common.{◌≡◌, ◌<◌, ◌≤◌, ℕ, ◌==◌, List, [], ◌∷◌, ◌++◌, map, length, take, drop, true, false, ◌&&◌, nat_lt, Ok, sum_by, refl, sym, ap, ◌∙◌, subst, codes, arith, append_assoc, append-nil, length-append, le_refl, lt-ltb, le-ltb, ltb-true, ne_eqb}
use Rattle.std.specs.List.{list_all}
use Rattle.std.proofs.lemmas.Bool.{and_parts}
use Rattle.std.proofs.lemmas.List.{length-map, length-take, take-append-drop}
use Rattle.std.proofs.lemmas.List.Sums.{sum_by-append}
use Rattle.std.proofs.lemmas.List.Folds.{list_all-append}
use Rattle.text_lines.specs.Lines.{is_empty, lines_of}
use Rattle.text_lines.specs.Reading.{words_by_line}
use Rattle.text_lines.proofs.TextWordLemmas.{read_words}
use Rattle.text_lines.specs.Each.{each}
use Rattle.text_lines.proofs.EachLemmas.{each-append}
use Rattle.cover_problem.specs.declared.fault.Fault.TheVariants.{BadLine}
use Rattle.cover_problem.proofs.TextLemmas.{blank, text_with_items}
use Rattle.shared_words.specs.Lists.{are_distinct}
use Rattle.cover_problem.specs.Problem.{ProblemValue, IsProblem, is_name, is_item, is_option, are_new, name_at}
use Rattle.cover_problem.specs.Validation.{add_name, within}
use Rattle.cover_problem.specs.Reading.{add_item, nothing, items_line, maybe_line, option_line, words_line, line, problem_of}
use Rattle.cover_problem.specs.Grammar.{maybe_words, option_words, word_lines, IsCoverText}
use Rattle.cover_problem.proofs.AgainLemmas.{items_again, new_front, fits}
use Rattle.cover_problem.proofs.NameLemmas.{names_again}

-- *a problem's lines are read again*

no_words : (words : List (List ℕ)) → 0 < length words → is_empty words ≡ false
no_words [] h = absurd (omega arith)
no_words (w ∷ ws) h = refl

items_line_again : (words : List (List ℕ)) (n : ℕ) (p : ProblemValue) → length words ≡ n → is_empty words ≡ false → each add_name [] words ≡ Ok words → within (record { names = words; primary = n; options = [] }) ≡ Ok p → items_line nothing words ≡ Ok p
unfolding items_line
items_line_again words n p long full e w =
    let v = subst (λ k. within (record { names = words; primary = k; options = [] }) ≡ Ok p) (sym long) w in
    rw (full, e, v) refl

maybe_line_again : (names words these : List (List ℕ)) (primary : ℕ) (p : ProblemValue) → is_empty words ≡ false → nat_lt primary (length names) ≡ false → (primary == 0) ≡ false → each add_name names words ≡ Ok these → within (record { names = these; primary = primary; options = [] }) ≡ Ok p → maybe_line (record { names = names; primary = primary; options = [] }) words ≡ Ok p
unfolding maybe_line
maybe_line_again names words these primary p full all some e w = rw (full, all, some, e, w) refl

option_line_again : (names words options : List (List ℕ)) (option : List ℕ) (primary : ℕ) (p : ProblemValue) → is_empty words ≡ false → (primary == 0) ≡ false → each (add_item names) [] words ≡ Ok option → within (record { names = names; primary = primary; options = options ++ option ∷ [] }) ≡ Ok p → option_line (record { names = names; primary = primary; options = options }) words ≡ Ok p
unfolding option_line
option_line_again names words options option primary p full some e w = rw (full, some, e, w) refl

module _ (p : ProblemValue) (g : IsProblem p) where
  items : List (List ℕ)
  items = take p.primary p.names

  others : List (List ℕ)
  others = drop p.primary p.names

  all_names : items ++ others ≡ p.names
  unfolding items others
  all_names = take-append-drop p.primary p.names

  items_long : length items ≡ p.primary
  unfolding items
  items_long = omega (arith, length-take p.primary p.names, g.within)

  named_parts : (list_all is_name items ≡ true) × (list_all is_name others ≡ true)
  named_parts = and_parts (list_all is_name items) (list_all is_name others) (sym (list_all-append is_name items others) ∙ rw all_names g.named)

  new_items : are_new items ≡ true
  new_items = new_front items others (rw all_names g.new)

  -- what is read once the names are
  named : List (List ℕ) → ProblemValue
  named names = record { names = names; primary = p.primary; options = [] }

  named_small : (names : List (List ℕ)) → length names ≤ length p.names → within (named names) ≡ Ok (named names)
  unfolding named
  named_small names l = fits (named names) p g.small l (omega arith) (omega arith)

  items_again_line : words_line nothing (codes "items" ∷ items) ≡ Ok (named items)
  unfolding words_line named
  items_again_line =
      let few : length items ≤ length p.names = omega (arith, items_long, g.within) in
      let some : 0 < length items = omega (arith, items_long, g.some) in
      items_line_again items p.primary (named items) items_long (no_words items some) (names_again [] items named_parts.0 new_items) (named_small items few)

  some_primary : (p.primary == 0) ≡ false
  some_primary = ne_eqb p.primary 0 (λ e. let h = g.some in omega arith)

  maybe_again_line : (names : List (List ℕ)) → others ≡ names → each words_line (named items) (maybe_words names) ≡ Ok (named p.names)
  unfolding each words_line named
  maybe_again_line [] e = ap (λ ns. Ok (named ns)) (sym (append-nil items) ∙ ap (λ ns. items ++ ns) (sym e) ∙ all_names)
  maybe_again_line (n ∷ ns) e =
      let f : items ++ n ∷ ns ≡ p.names = ap (λ xs. items ++ xs) (sym e) ∙ all_names in
      let more = names_again items (n ∷ ns) (rw e at named_parts.1) (rw f g.new) in
      rw (maybe_line_again items (n ∷ ns) (items ++ n ∷ ns) p.primary (named p.names) refl (le-ltb p.primary (length items) (omega (arith, items_long))) some_primary more (rw f (named_small p.names (le_refl (length p.names))))) refl

  start_again : each words_line nothing ((codes "items" ∷ items) ∷ maybe_words others) ≡ Ok (named p.names)
  unfolding each
  start_again = rw items_again_line (maybe_again_line others refl)

  -- what is read once some options are
  listed : List (List ℕ) → ProblemValue
  listed options = record { names = p.names; primary = p.primary; options = options }

  option_again_line : (front : List (List ℕ)) (option : List ℕ) (rest : List (List ℕ)) → front ++ option ∷ rest ≡ p.options → is_option (length p.names) option ≡ true → words_line (listed front) (option_words p.names option) ≡ Ok (listed (front ++ option ∷ []))
  unfolding words_line listed
  option_again_line front option rest e is =
      let a = and_parts (nat_lt 0 (length option) && are_distinct option) (list_all (is_item (length p.names)) option) is in
      let b = and_parts (nat_lt 0 (length option)) (are_distinct option) a.0 in
      let long : 0 < length option = ltb-true 0 (length option) b.0 in
      let some : 0 < length (map (name_at p.names) option) = rw length-map long in
      let all : (front ++ option ∷ []) ++ rest ≡ p.options = append_assoc front (option ∷ []) rest ∙ e in
      let few : length (front ++ option ∷ []) ≤ length p.options = omega (arith, ap length all, length-append (front ++ option ∷ []) rest) in
      let light : sum_by length (front ++ option ∷ []) ≤ sum_by length p.options = omega (arith, ap (sum_by length) all, sum_by-append length (front ++ option ∷ []) rest) in
      option_line_again p.names (map (name_at p.names) option) front option p.primary (listed (front ++ option ∷ [])) (no_words (map (name_at p.names) option) some) some_primary
      (items_again p.names [] option g.named g.new a.1 b.1)
      (fits (listed (front ++ option ∷ [])) p g.small (le_refl (length p.names)) few light)

  options_again : (front rest : List (List ℕ)) → front ++ rest ≡ p.options → list_all (is_option (length p.names)) rest ≡ true → each words_line (listed front) (map (option_words p.names) rest) ≡ Ok (listed p.options)
  unfolding each
  options_again front [] e is = ap (λ os. Ok (listed os)) (sym (append-nil front) ∙ e)
  options_again front (option ∷ rest) e is =
      let a = and_parts (is_option (length p.names) option) (list_all (is_option (length p.names)) rest) is in
      rw (option_again_line front option rest e a.0) (options_again (front ++ option ∷ []) rest (append_assoc front (option ∷ []) rest ∙ e) a.1)

  pub lines_again : each words_line nothing (word_lines p) ≡ Ok p
  unfolding named listed items others
  lines_again =
      each-append words_line ((codes "items" ∷ items) ∷ maybe_words others) (map (option_words p.names) p.options) nothing
      ∙ rw start_again (options_again [] p.options refl g.options_are)

-- *the lines of a text*

-- a text of a problem is read as that problem
pub text_again : (text : List ℕ) (p : ProblemValue) → IsCoverText text p → problem_of text ≡ Ok p
unfolding line
text_again text p t =
    let e : each words_line nothing (words_by_line (lines_of text)) ≡ Ok p = rw t.says (lines_again p t.problem) in
    let r = read_words BadLine words_line blank (lines_of text) nothing p 1 t.plain e in
    text_with_items text p r.0 r.1 (lt-ltb 0 p.primary t.problem.some)
