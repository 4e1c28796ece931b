-- How many bytes the words, the lines and the breakpoints of a snapshot's text have at most.
use Rattle.std.proofs.Common.{◌≡◌, ◌∙◌, ℕ, zero, suc, ◌+◌, ◌*◌, ◌≤◌, nat_lt, nat_le, true, ◌&&◌, List, [], ◌∷◌, ◌++◌, length, map, take, drop, get_or, decimal, codes, sum_by, refl, sym, ap, arith, length-append}
use Rattle.std.specs.List.{list_all}
use Rattle.std.proofs.lemmas.Bool.{and_parts, leb-true}
use Rattle.std.proofs.lemmas.List.{take-append-drop}
use Rattle.std.proofs.lemmas.List.Concat.{flat_map-append}
use Rattle.std.proofs.lemmas.List.Sums.{sum_by-cons}
use Rattle.std.proofs.lemmas.Fmt.{length-decimal-le}
use Rattle.text_lines.specs.Writing.{words_after, spaced, line_text, text_of}
use Rattle.text_lines.proofs.WritingLemmas.{joined}
use Rattle.cover_problem.specs.Path.{IsValidFrom, IsValid, taken}
use Rattle.cover_problem.specs.Problem.{ProblemValue, IsProblem, is_name, name_at}
use Rattle.cover_problem.specs.Grammar.{maybe_words, option_words, written}
use Rattle.cover_problem.specs.Path.{covered_by, IsChoice}
use Rattle.x_steps.specs.declared.state.Label.{Label}
use Rattle.x_steps.specs.declared.state.Label.TheVariants.{X1, X2, X3, X4, X5, X6, X7, X8, Done}
use Rattle.x_steps.specs.declared.state.Cursor.{Cursor}
use Rattle.x_steps.specs.declared.state.Cursor.TheVariants as cursor
use Rattle.x_steps.specs.StateValue.{StateValue}
use Rattle.x_steps.specs.Steps.{Fits, FitsAt}
use Rattle.x_steps.proofs.OrderLemmas.{fits_valid}
use Rattle.x_texts.specs.Words.{label_word, cursor_word, state_words}
use Rattle.cover_problem.proofs.PathLemmas.{choice_has, depth}
use Rattle.cover_problem.proofs.MemberLemmas.{has_here}
use Rattle.cover_problem.proofs.CoverLemmas.{path_range}

-- ---- the limits

-- what the limits of a problem are
pub within_parts : (p : ProblemValue) → IsProblem p → (length p.names ≤ 65535) × (length p.options ≤ 262143) × (length p.names + sum_by length p.options + length p.options + 2 ≤ 8388608)
within_parts p g =
    let a = and_parts (nat_le (length p.names) 65535 && nat_le (length p.options) 262143) (nat_le (length p.names + sum_by length p.options + length p.options + 2) 8388608) g.small in
    let b = and_parts (nat_le (length p.names) 65535) (nat_le (length p.options) 262143) a.0 in
    (leb-true _ _ b.0, leb-true _ _ b.1, leb-true _ _ a.1)

-- ---- words

-- the bytes of words, with a space before each
abbrev pub room : List (List ℕ) → ℕ
room [] = 0
room (w ∷ ws) = suc (length w + room ws)

length_after : (ws : List (List ℕ)) → length (words_after ws) ≡ room ws
length_after [] = refl
length_after (w ∷ ws) = let a = length-append w (words_after ws) in let b = length_after ws in omega arith

pub length_line : (key : List ℕ) (ws : List (List ℕ)) → length (line_text (key ∷ ws)) ≡ length key + room ws + 1
length_line key ws =
    let a = length-append (spaced (key ∷ ws)) (10 ∷ []) in
    let b = ap length (joined key ws) in
    let c = length-append key (words_after ws) in
    let d = length_after ws in omega arith

pub length_lines : (l : List (List ℕ)) (ls : List (List (List ℕ))) → length (text_of (l ∷ ls)) ≡ length (line_text l) + length (text_of ls)
length_lines l ls = length-append (line_text l) (text_of ls)

room_append : (ws vs : List (List ℕ)) → room (ws ++ vs) ≡ room ws + room vs
room_append [] vs = omega arith
room_append (w ∷ ws) vs = let h = room_append ws vs in omega arith

room_map : {A : Type 0} (f : A → List ℕ) (xs : List A) → ((x : A) → length (f x) ≤ 8) → room (map f xs) ≤ 9 * length xs
room_map f [] short = omega arith
room_map f (x ∷ xs) short = let h = room_map f xs short in let s = short x in omega arith

-- ---- the problem

name_short : (name : List ℕ) → is_name name ≡ true → length name ≤ 8
name_short name h =
    let a = and_parts (nat_lt 0 (length name) && nat_le (length name) 8) _ h in
    let b = and_parts (nat_lt 0 (length name)) (nat_le (length name) 8) a.0 in leb-true (length name) 8 b.1

names_room : (names : List (List ℕ)) → list_all is_name names ≡ true → room names ≤ 9 * length names
names_room [] h = omega arith
names_room (name ∷ names) h =
    let a = and_parts (is_name name) (list_all is_name names) h in
    let b = name_short name a.0 in let c = names_room names a.1 in omega arith

got_short : (names : List (List ℕ)) (i : ℕ) → list_all is_name names ≡ true → length (get_or names i []) ≤ 8
got_short [] i h = omega arith
got_short (name ∷ names) zero h = name_short name (and_parts (is_name name) (list_all is_name names) h).0
got_short (name ∷ names) (suc i) h = got_short names i (and_parts (is_name name) (list_all is_name names) h).1

pub name_length : (names : List (List ℕ)) (i : ℕ) → list_all is_name names ≡ true → length (name_at names i) ≤ 8
name_length names i h = got_short names _ h

options_length : (names options : List (List ℕ)) → list_all is_name names ≡ true → length (text_of (map (option_words names) options)) ≤ 7 * length options + 9 * sum_by length options
options_length names [] h = omega arith
options_length names (option ∷ options) h =
    let a = length_lines (option_words names option) (map (option_words names) options) in
    let b = length_line (codes "option") (map (name_at names) option) in
    let c = room_map (name_at names) option (λ i. name_length names i h) in
    let d = options_length names options h in
    let e = sum_by-cons length option options in omega arith

maybe_length : (names : List (List ℕ)) → length (text_of (maybe_words names)) ≤ 6 + room names
maybe_length [] = omega arith
maybe_length (name ∷ names) =
    let a = length_lines (codes "maybe" ∷ name ∷ names) [] in
    let b = length_line (codes "maybe") (name ∷ names) in omega arith

lines_join : (ls ks : List (List (List ℕ))) → length (text_of (ls ++ ks)) ≡ length (text_of ls) + length (text_of ks)
lines_join ls ks = ap length (flat_map-append line_text ls ks) ∙ length-append (text_of ls) (text_of ks)

pub written_length : (p : ProblemValue) → IsProblem p → length (written p) ≤ 12 + 9 * length p.names + (7 * length p.options + 9 * sum_by length p.options)
unfolding written
written_length p g =
    let front = take p.primary p.names in
    let back = drop p.primary p.names in
    let a = length_lines (codes "items" ∷ front) (maybe_words back ++ map (option_words p.names) p.options) in
    let b = length_line (codes "items") front in
    let c = lines_join (maybe_words back) (map (option_words p.names) p.options) in
    let d = maybe_length back in
    let e = options_length p.names p.options g.named in
    let f = sym (room_append front back) ∙ ap room (take-append-drop p.primary p.names) in
    let h = names_room p.names g.named in omega arith

-- ---- paths

path_room : (p : ProblemValue) (c path : List ℕ) → length p.options ≤ 262143 → IsValidFrom p c path → room (map decimal path) ≤ 7 * length path
path_room p c [] small v = omega arith
path_room p c (o ∷ path) small v =
    let r = path_range p c (o ∷ path) o v (has_here o path) in
    let d = length-decimal-le 6 o (omega arith) (omega (arith, r.1)) (omega (arith, r.1)) in
    let h = path_room p (taken p c o) path small v.1 in omega arith

pub path_length : (p : ProblemValue) (path : List ℕ) → IsProblem p → IsValid p path → room (map decimal path) ≤ 7 * length p.names
unfolding IsValid
path_length p path g v =
    let s = (within_parts p g).1 in
    let d = depth p path v in
    let r = path_room p [] path s v in
    let w = g.within in omega arith

-- ---- states

label_length : (l : Label) → length (label_word l) ≤ 4
label_length X1 = omega arith
label_length X2 = omega arith
label_length X3 = omega arith
label_length X4 = omega arith
label_length X5 = omega arith
label_length X6 = omega arith
label_length X7 = omega arith
label_length X8 = omega arith
label_length Done = omega arith

option_length : (p : ProblemValue) (c : List ℕ) (o : ℕ) → length p.options ≤ 262143 → IsChoice p c o → length (decimal o) ≤ 6
option_length p c o small h =
    let w = (choice_has p c o h).within in length-decimal-le 6 o (omega arith) (omega arith) (omega arith)

cursor_length : (p : ProblemValue) (l : Label) (path : List ℕ) (k : Cursor) → length p.options ≤ 262143 → FitsAt p l path k → length (cursor_word k) ≤ 6
cursor_length p l path cursor.None small f = omega arith
cursor_length p l path cursor.Past small f = omega arith
cursor_length p X5 path (cursor.At o) small f = option_length p (covered_by p path) o small f.1
cursor_length p X6 path (cursor.At o) small f = option_length p (covered_by p path) o small f.1
cursor_length p _ path (cursor.At o) small f = absurd f

pub state_length : (p : ProblemValue) (s : StateValue) → IsProblem p → Fits p s → room (state_words s) ≤ 12 + 7 * length p.names
state_length p s g f =
    let a = label_length s.label in
    let b = cursor_length p s.label s.path s.cursor (within_parts p g).1 f in
    let c = path_length p s.path g (fits_valid p s.label s.path s.cursor f) in omega arith
