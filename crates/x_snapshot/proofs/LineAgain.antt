-- Lines that are written are read again.
use Rattle.std.proofs.Common.{◌≡◌, ℕ, ◌+◌, ◌^◌, ◌<◌, ◌≤◌, Bool, true, false, List, [], ◌∷◌, ◌++◌, length, map, decimal, codes, Option, Some, None, Result, Ok, refl, sym, ◌∙◌, ap, arith, append_assoc, append-nil, lt-ltb}
use Rattle.std.specs.Prelude.{bytes_eq}
use Rattle.std.specs.List.{list_all}
use Rattle.std.specs.Cmp.Lexicographic.{bytes_decides}
use Rattle.std.proofs.lemmas.Bool.{and_parts, and_from, false_from_ne_true}
use Rattle.text_lines.specs.Lines.{words_of}
use Rattle.text_lines.specs.Numbers.{number_within}
use Rattle.text_lines.specs.Writing.{is_word, spaced, line_text, text_of, are_words}
use Rattle.text_lines.specs.Each.{each}
use Rattle.text_lines.proofs.EachLemmas.{each_step, each_nothing}
use Rattle.text_lines.proofs.NumberLemmas.{reads_printed}
use Rattle.text_lines.proofs.WritingLemmas.{spaced_words, words_one_line, printed_is_word}
use Rattle.cover_problem.specs.Limits.{most_options}
use Rattle.cover_problem.specs.Problem.{is_item}
use Rattle.cover_problem.proofs.BoundLemmas.{item_bounds}
use Rattle.x_steps.specs.declared.state.Label.{Label}
use Rattle.x_steps.specs.declared.state.Label.TheVariants.{X1}
use Rattle.x_steps.specs.declared.state.Cursor.{Cursor}
use Rattle.x_steps.specs.declared.state.Cursor.TheVariants as cursors
use Rattle.x_steps.specs.StateValue.{StateValue}
use Rattle.x_snapshot.specs.declared.fault.SnapshotFault.{SnapshotFault}
use Rattle.x_texts.specs.Words.{cut_words, label_word, cursor_word, state_words}
use Rattle.x_snapshot.specs.Reader.{first_line, line_words, after_key, keyed, keyed_line, count_from, positive, option_number, lines_from, add_choice, cut_from, label_from, cursor_from, state_from, repeated, after_lines}
use Rattle.x_snapshot.proofs.ReadLemmas.{line_found}

-- *lines*

pub line_again : (words : List (List ℕ)) (rest : List ℕ) → list_all is_word words ≡ true → first_line (line_text words ++ rest) ≡ Ok (spaced words, rest)
line_again words rest h = ap first_line (append_assoc (spaced words) (10 ∷ []) rest) ∙ line_found (spaced words) rest (words_one_line words h)

spaced_again : (f : SnapshotFault) (words : List (List ℕ)) → list_all is_word words ≡ true → line_words f (spaced words) ≡ Ok words
unfolding line_words
spaced_again f words h =
    let e : words_of (spaced words) ≡ words = spaced_words words h in
    let same : bytes_eq (spaced words) (spaced (words_of (spaced words))) ≡ true = (bytes_decides (spaced words) (spaced (words_of (spaced words)))).1 (ap spaced (sym e)) in
    rw same (ap (λ ws. Ok ws) e)

key_again : (f : SnapshotFault) (key : List ℕ) (words : List (List ℕ)) → after_key f key (key ∷ words) ≡ Ok words
unfolding after_key
key_again f key words = rw ((bytes_decides key key).1 refl) refl

keyed_again : (f : SnapshotFault) (key : List ℕ) (words : List (List ℕ)) (rest : List ℕ) → list_all is_word (key ∷ words) ≡ true → keyed f key (line_text (key ∷ words) ++ rest) ≡ Ok (words, rest)
unfolding keyed
keyed_again f key words rest h = rw (line_again (key ∷ words) rest h, spaced_again f (key ∷ words) h, key_again f key words) refl

pub keyed_line_again : {X : Type 0} (f : SnapshotFault) (key : List ℕ) (form : List (List ℕ) → Result X SnapshotFault) (words : List (List ℕ)) (rest : List ℕ) (x : X) → list_all is_word (key ∷ words) ≡ true → form words ≡ Ok x → keyed_line f key form (line_text (key ∷ words) ++ rest) ≡ Ok (x, rest)
unfolding keyed_line
keyed_line_again f key form words rest x h e = rw (keyed_again f key words rest h, e) refl

pub lines_again : (lines : List (List (List ℕ))) (rest : List ℕ) → are_words lines ≡ true → after_lines (length lines) (text_of lines ++ rest) ≡ Ok rest
unfolding repeated
lines_again [] rest h = refl
lines_again (words ∷ lines) rest h =
    let p = and_parts (list_all is_word words) (are_words lines) h in
    let first : first_line (text_of (words ∷ lines) ++ rest) ≡ Ok (spaced words, text_of lines ++ rest) = ap first_line (append_assoc (line_text words) (text_of lines) rest) ∙ line_again words (text_of lines ++ rest) p.0 in
    rw first (lines_again lines rest p.1)

-- *numbers*

pub number_word : (n : ℕ) → n < 2 ^ 64 → list_all is_word (decimal n ∷ []) ≡ true
number_word n h = and_from (is_word (decimal n)) true (printed_is_word n h) refl

pub count_again : (f : SnapshotFault) (bound n : ℕ) → bound < 2 ^ 64 → n ≤ bound → count_from f bound (decimal n ∷ []) ≡ Ok n
unfolding count_from
count_again f bound n small within = rw (reads_printed bound n small within) refl

pub some_positive : (n : ℕ) → 0 < n → positive n ≡ Some n
some_positive n h = rw (lt-ltb 0 n h) refl

pub option_again : (bound o : ℕ) → bound < 2 ^ 64 → 0 < o → o ≤ bound → option_number bound (decimal o) ≡ Some o
option_again bound o small some within = rw (reads_printed bound o small within) (some_positive o some)

pub lines_from_again : (version n : ℕ) → version ≤ 2 → 0 < n → n ≤ most_options + version → lines_from version (decimal n ∷ []) ≡ Ok n
unfolding lines_from
lines_from_again version n small some within =
    let bound : most_options + version < 2 ^ 64 = omega arith in
    rw (count_again _ (most_options + version) n bound within, some_positive n some) refl

-- *choices*

-- a choice that is written
unfoldable pub is_choice : ℕ → Bool
is_choice o = is_item most_options o

choice_bounds : (o : ℕ) → is_choice o ≡ true → (0 < o) × (o ≤ 262143)
unfolding is_choice
choice_bounds o h = item_bounds most_options o h

pub choices_words : (path : List ℕ) → list_all is_choice path ≡ true → list_all is_word (map decimal path) ≡ true
choices_words [] h = refl
choices_words (o ∷ path) h =
    let p = and_parts (is_choice o) (list_all is_choice path) h in
    let b = choice_bounds o p.0 in
    and_from (is_word (decimal o)) (list_all is_word (map decimal path)) (printed_is_word o (omega (arith, b.1))) (choices_words path p.1)

choice_again : (acc : List ℕ) (o : ℕ) → is_choice o ≡ true → add_choice acc (decimal o) ≡ Ok (acc ++ o ∷ [])
unfolding add_choice
choice_again acc o h =
    let b = choice_bounds o h in
    rw (option_again most_options o (omega arith) b.0 b.1) refl

pub choices_again : (acc path : List ℕ) → list_all is_choice path ≡ true → each add_choice acc (map decimal path) ≡ Ok (acc ++ path)
choices_again acc [] h = each_nothing add_choice acc ∙ ap (λ xs. done xs) (sym (append-nil acc))
  where
    done : List ℕ → Result (List ℕ) SnapshotFault
    done xs = Ok xs
choices_again acc (o ∷ path) h =
    let p = and_parts (is_choice o) (list_all is_choice path) h in
    let e = append_assoc acc (o ∷ []) path in
    each_step add_choice acc (acc ++ o ∷ []) (decimal o) (map decimal path) (choice_again acc o p.0)
    ∙ rw e at (choices_again (acc ++ o ∷ []) path p.1)

-- *the branch*

-- the number's word isn't a word that is no number
other_word : (o : ℕ) (w : List ℕ) → is_choice o ≡ true → number_within most_options w ≡ None → bytes_eq (decimal o) w ≡ false
other_word o w h n = false_from_ne_true (bytes_eq (decimal o) w) (λ e. differ ((bytes_decides (decimal o) w).0 e))
  where
    differ : decimal o ≡ w → ⊥
    differ e =
        let b = choice_bounds o h in
        let read : number_within most_options (decimal o) ≡ Some o = reads_printed most_options o (omega arith) b.1 in
        let both : ◌≡◌ {A = Option ℕ} None (Some o) = sym n ∙ ap (number_within most_options) (sym e) ∙ read in
        cc

-- a cut with a choice, or none
pub record IsWrittenCut (cut : Option (List ℕ)) : Type 0 where
  pub choices : (path : List ℕ) → cut ≡ Some path → list_all is_choice path ≡ true
  pub some : (path : List ℕ) → cut ≡ Some path → 0 < length path

pub cut_again : (none : List ℕ) (cut : Option (List ℕ)) → number_within most_options none ≡ None → IsWrittenCut cut → cut_from none (cut_words none cut) ≡ Ok cut
unfolding cut_from
cut_again none None n g = rw ((bytes_decides none none).1 refl) refl
cut_again none (Some []) n g = absurd (let some : 0 < length {A = ℕ} [] = g.some [] refl in omega arith)
cut_again none (Some (o ∷ path)) n g =
    let all = g.choices (o ∷ path) refl in
    let p = and_parts (is_choice o) (list_all is_choice path) all in
    rw (other_word o none p.0 n, choices_again [] (o ∷ path) all) refl

-- *the state*

label_again : (l : Label) → label_from (label_word l) ≡ Some l
label_again X1 = refl
label_again _ = refl

-- a cursor that is written
unfoldable pub is_cursor : Cursor → Bool
is_cursor (cursors.At o) = is_choice o
is_cursor k = true

cursor_again : (k : Cursor) → is_cursor k ≡ true → cursor_from (cursor_word k) ≡ Some k
unfolding is_cursor
cursor_again (cursors.At o) h =
    let b = choice_bounds o h in
    rw (other_word o (codes "-") h refl, other_word o (codes "past") h refl, option_again most_options o (omega arith) b.0 b.1) refl
cursor_again _ h = refl

pub state_again : (s : StateValue) → is_cursor s.cursor ≡ true → list_all is_choice s.path ≡ true → state_from (state_words s) ≡ Ok s
unfolding state_from
state_again s k h = rw (label_again s.label, cursor_again s.cursor k, choices_again [] s.path h) refl

label_is_word : (l : Label) → is_word (label_word l) ≡ true
label_is_word X1 = refl
label_is_word _ = refl

cursor_is_word : (k : Cursor) → is_cursor k ≡ true → is_word (cursor_word k) ≡ true
unfolding is_cursor
cursor_is_word (cursors.At o) h = printed_is_word o (omega (arith, (choice_bounds o h).1))
cursor_is_word _ h = refl

pub state_is_words : (s : StateValue) → is_cursor s.cursor ≡ true → list_all is_choice s.path ≡ true → list_all is_word (state_words s) ≡ true
state_is_words s k h = and_from (is_word (label_word s.label)) (list_all is_word (cursor_word s.cursor ∷ map decimal s.path)) (label_is_word s.label) (and_from (is_word (cursor_word s.cursor)) (list_all is_word (map decimal s.path)) (cursor_is_word s.cursor k) (choices_words s.path h))

pub cut_is_words : (none : List ℕ) (cut : Option (List ℕ)) → is_word none ≡ true → IsWrittenCut cut → list_all is_word (cut_words none cut) ≡ true
cut_is_words none None w g = and_from (is_word none) true w refl
cut_is_words none (Some path) w g = choices_words path (g.choices path refl)
