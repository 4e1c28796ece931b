-- A text of plain lines is read as the puzzle that they say.
use Rattle.std.proofs.Common.{◌≡◌, ◌≤◌, ℕ, suc, List, [], ◌∷◌, ◌++◌, map, filter, flat_map, length, Bool, true, false, cond, ◌&&◌, refl, sym, ap, ap₂, subst, ◌∙◌}
use Rattle.std.specs.List.{list_all}
use Rattle.poly_cells.specs.Coordinates.{Coordinates}
use Rattle.poly_texts.specs.Limits.{most_region_cells}
use Rattle.poly_texts.specs.Cells.{with_cells, ordered_without}
use Rattle.poly_texts.specs.Words.{is_name}
use Rattle.poly_texts.specs.Kinds.{kind_with, form_of}
use Rattle.poly_texts.specs.Puzzle.{PuzzleValue, puzzle_from, symbols_in, are_new}
use Rattle.poly_texts.specs.Grammar.{Line, kind, box, cells, cut, line_words, is_line, kinds_by, taken_by, is_box, named_by, maybe_by, cut_by, AreLines, puzzle_by}
use Rattle.poly_texts.specs.Plain.{PlainLine, plain_piece, plain_box, plain_cells, plain_cut, plain_words, is_plain_line, plain_usage, plain_kind_of, is_plain_box, plain_named, plain_maybe, plain_cut_cells, ArePlainLines, plain_puzzle_by, PlainTextsStay}
use Rattle.poly_texts.proofs.PieceLemmas.{symbols_same}
use Rattle.poly_texts.proofs.TextLemmas.{text_again}

-- ---- one line

-- the line that it is
as_line : PlainLine → Line
as_line (plain_piece optional name cs) = kind (kind_with (form_of (plain_usage optional) false 0) (name ∷ []) cs)
as_line (plain_box a b c) = box a b c
as_line (plain_cells optional cs) = cells optional cs
as_line (plain_cut cs) = cut cs

one_name : (b x : Bool) → (((b && true) && (true && true)) && x) ≡ (b && x)
one_name true x = refl
one_name false x = refl

words_same : (l : PlainLine) → line_words (as_line l) ≡ plain_words l
unfolding as_line
words_same (plain_piece true name cs) = refl
words_same (plain_piece false name cs) = refl
words_same (plain_box a b c) = refl
words_same (plain_cells optional cs) = refl
words_same (plain_cut cs) = refl

good_same : (l : PlainLine) → is_line (as_line l) ≡ is_plain_line l
unfolding as_line
good_same (plain_piece true name cs) = one_name (is_name name) _
good_same (plain_piece false name cs) = one_name (is_name name) _
good_same (plain_box a b c) = refl
good_same (plain_cells optional cs) = refl
good_same (plain_cut cs) = refl

kind_same : (l : PlainLine) → kinds_by (as_line l) ≡ plain_kind_of l
unfolding as_line
kind_same (plain_piece optional name cs) = refl
kind_same (plain_box a b c) = refl
kind_same (plain_cells optional cs) = refl
kind_same (plain_cut cs) = refl

box_same : (l : PlainLine) → is_box (as_line l) ≡ is_plain_box l
unfolding as_line
box_same (plain_piece optional name cs) = refl
box_same (plain_box a b c) = refl
box_same (plain_cells optional cs) = refl
box_same (plain_cut cs) = refl

named_same : (l : PlainLine) → named_by (as_line l) ≡ plain_named l
unfolding as_line
named_same (plain_piece optional name cs) = refl
named_same (plain_box a b c) = refl
named_same (plain_cells optional cs) = refl
named_same (plain_cut cs) = refl

maybe_same : (l : PlainLine) → maybe_by (as_line l) ≡ plain_maybe l
unfolding as_line
maybe_same (plain_piece optional name cs) = refl
maybe_same (plain_box a b c) = refl
maybe_same (plain_cells optional cs) = refl
maybe_same (plain_cut cs) = refl

cut_same : (l : PlainLine) → cut_by (as_line l) ≡ plain_cut_cells l
unfolding as_line
cut_same (plain_piece optional name cs) = refl
cut_same (plain_box a b c) = refl
cut_same (plain_cells optional cs) = refl
cut_same (plain_cut cs) = refl

-- ---- all lines

as_lines : List PlainLine → List Line
as_lines ls = map as_line ls

flat_same : {X : Type 0} (f : Line → List X) (g : PlainLine → List X) → ((l : PlainLine) → f (as_line l) ≡ g l) → (ls : List PlainLine) → flat_map f (as_lines ls) ≡ flat_map g ls
unfolding as_lines
flat_same f g h [] = refl
flat_same {X} f g h (l ∷ ls) = ap₂ (λ (xs ys : List X). xs ++ ys) (h l) (flat_same f g h ls)

all_taken : (ls : List PlainLine) → flat_map taken_by (as_lines ls) ≡ symbols_in (flat_map plain_kind_of ls)
all_taken ls = sym (symbols_same (as_lines ls)) ∙ ap symbols_in (flat_same kinds_by plain_kind_of kind_same ls)

all_words : (ls : List PlainLine) → map line_words (as_lines ls) ≡ map plain_words ls
unfolding as_lines
all_words [] = refl
all_words (l ∷ ls) = ap₂ (λ (w : List (List ℕ)) (ws : List (List (List ℕ))). w ∷ ws) (words_same l) (all_words ls)

all_good : (ls : List PlainLine) → list_all is_line (as_lines ls) ≡ list_all is_plain_line ls
unfolding as_lines
all_good [] = refl
all_good (l ∷ ls) = ap₂ (λ (a b : Bool). a && b) (good_same l) (all_good ls)

boxes : (ls : List PlainLine) → length (filter is_box (as_lines ls)) ≡ length (filter is_plain_box ls)
unfolding as_lines
boxes [] = refl
boxes (l ∷ ls) = by_test (is_box (as_line l)) (is_plain_box l) (box_same l) (boxes ls)
  where
    by_test : (a b : Bool) → a ≡ b → length (filter is_box (map as_line ls)) ≡ length (filter is_plain_box ls)
        → length (cond a (as_line l ∷ filter is_box (map as_line ls)) (filter is_box (map as_line ls))) ≡ length (cond b (l ∷ filter is_plain_box ls) (filter is_plain_box ls))
    by_test true true e rest = ap (λ (n : ℕ). suc n) rest
    by_test false false e rest = rest
    by_test true false e rest = absurd (cc)
    by_test false true e rest = absurd (cc)

puzzle_same : (ls : List PlainLine) → puzzle_by (as_lines ls) ≡ plain_puzzle_by ls
puzzle_same ls =
    let kinds = flat_same kinds_by plain_kind_of kind_same ls in
    let cuts = flat_same cut_by plain_cut_cells cut_same ls in
    let region = ap₂ ordered_without cuts (flat_same named_by plain_named named_same ls) in
    let empty = ap₂ ordered_without cuts (flat_same maybe_by plain_maybe maybe_same ls) in
    λ i. puzzle_from (kinds i) (region i) (empty i)

lines_same : (ls : List PlainLine) → ArePlainLines ls → AreLines (as_lines ls)
lines_same ls h = record {
  good = all_good ls ∙ h.good;
  new = ap are_new (all_taken ls) ∙ h.new;
  one_box = subst (λ (n : ℕ). n ≤ 1) (sym (boxes ls)) h.one_box;
  few = subst (λ (vs : List Coordinates). length (with_cells [] vs) ≤ most_region_cells) (sym (flat_same named_by plain_named named_same ls)) h.few;
}

pub plain_texts_stay : PlainTextsStay
plain_texts_stay text p t =
    text_again text p (record {
      lines = as_lines t.lines;
      plain = t.plain;
      says = t.says ∙ sym (all_words t.lines);
      within = lines_same t.lines t.within;
      puzzle = t.puzzle ∙ sym (puzzle_same t.lines);
      some_cell = t.some_cell;
      some_piece = t.some_piece;
      required = t.required;
    })
