-- A line that fits is taken: its words say what it adds.
use Rattle.std.proofs.Common.{◌≡◌, ◌≤◌, ◌==◌, ◌-◌, ◌++◌, ℕ, List, [], ◌∷◌, take, drop, map, length, Bool, true, false, cond, not, ◌&&◌, nat_lt, nat_le, Some, Ok, refl, sym, ap, ◌∙◌, arith, decimal, eqb-true, ltb-true, leb-true}
use Rattle.std.specs.List.{list_all}
use Rattle.std.proofs.lemmas.Bool.{and_parts, and_from, not-true}
use Rattle.std.proofs.lemmas.List.{length-drop, take-append-drop}
use Rattle.poly_cells.specs.Coordinates.{Coordinates}
use Rattle.poly_texts.specs.Limits.{most_piece_cells, most_size}
use Rattle.poly_texts.specs.declared.usage.Usage.{Usage}
use Rattle.poly_texts.specs.declared.usage.Usage.TheVariants as usages
use Rattle.poly_texts.specs.Usages.{are_so_many, may_spare}
use Rattle.poly_texts.specs.Kinds.{KindValue, kind_with, form_of}
use Rattle.poly_texts.specs.Words.{is_name, are_sizes, size_from}
use Rattle.poly_texts.specs.Reading.{DraftValue, kept_shape, shape_of, some_repeated, taken_in, with_kind, new_names, kind_line, copies_line, with_box, sized_box, piece_line, box_line, cells_line, maybe_cells_line, cut_line, mirror_line, any_line, maybe_line, words_line}
use Rattle.poly_cells.specs.CellTests.{is_in_grid}
use Rattle.poly_cells.specs.CellWords.{cell_word}
use Rattle.poly_texts.specs.Grammar.{Line, kind, box, cells, cut, line_words, symbol_word, are_in_grid, are_apart, are_a_piece, are_symbols, is_side, is_line}
use Rattle.poly_texts.proofs.PlusLemmas.{plus_none, plus_again}
use Rattle.poly_texts.proofs.SpellingLemmas.{cells_again, piece_again, side_again}
use Rattle.poly_texts.proofs.PartLemmas.{plus, is_small, is_fit, some_words}

-- *a line that fits is taken*

shape_again : (cs : List Coordinates) → list_all is_in_grid cs ≡ true → are_apart cs ≡ true → length cs ≤ most_piece_cells → shape_of (map cell_word cs) ≡ Ok (kept_shape cs)
unfolding shape_of
shape_again cs p a l = rw (piece_again [] cs p a (omega arith)) refl

-- a kind within the limits, whose symbols are new
record IsGood (s : DraftValue) (k : KindValue) : Type 0 where
  named : list_all is_name k.symbols ≡ true
  many : are_so_many k.usage (length k.symbols) ≡ true
  spares : may_spare k.usage k.spare (length k.symbols) ≡ true
  in_grid : list_all is_in_grid k.cells ≡ true
  some : nat_lt 0 (length k.cells) ≡ true
  apart : are_apart k.cells ≡ true
  few : nat_le (length k.cells) most_piece_cells ≡ true
  new : some_repeated (taken_in s) k.symbols ≡ false

good_parts : (s : DraftValue) (k : KindValue) → is_line (kind k) ≡ true → is_fit s (kind k) ≡ true → IsGood s k
good_parts s k is fit =
    let p = and_parts (are_symbols k) (are_a_piece k.cells) is in
    let q = and_parts (list_all is_name k.symbols) (are_so_many k.usage (length k.symbols) && may_spare k.usage k.spare (length k.symbols)) p.0 in
    let r = and_parts (are_so_many k.usage (length k.symbols)) (may_spare k.usage k.spare (length k.symbols)) q.1 in
    let u = and_parts (are_in_grid k.cells) (are_apart k.cells && nat_le (length k.cells) most_piece_cells) p.1 in
    let v = and_parts (are_apart k.cells) (nat_le (length k.cells) most_piece_cells) u.1 in
    let w = and_parts (nat_lt 0 (length k.cells)) (list_all is_in_grid k.cells) u.0 in
    record { named = q.0; many = r.0; spares = r.1; in_grid = w.1; some = w.0; apart = v.0; few = v.1; new = not-true _ fit }

-- a line of that kind, with its symbols as one word
module _ (s : DraftValue) (usage : Usage) (mirrored : Bool) (symbols : List ℕ) (cs : List Coordinates) (spare : ℕ) (g : IsGood s (kind_with (form_of usage mirrored spare) symbols cs)) where
  kind_again : kind_line s (form_of usage mirrored spare) symbols (map cell_word cs) ≡ Ok (with_kind s (kind_with (form_of usage mirrored spare) symbols (kept_shape cs)))
  unfolding kind_line new_names
  kind_again =
      rw (some_words cs (ltb-true 0 (length cs) g.some), g.named, g.many, g.new, shape_again cs g.in_grid g.apart (leb-true (length cs) most_piece_cells g.few)) refl

  piece_again_line : (spare ≡ 0) → piece_line s usage mirrored (symbol_word (kind_with (form_of usage mirrored spare) symbols cs) ∷ map cell_word cs) ≡ Ok (with_kind s (kind_with (form_of usage mirrored spare) symbols (kept_shape cs)))
  unfolding piece_line
  piece_again_line none =
      let word : symbol_word (kind_with (form_of usage mirrored spare) symbols cs) ≡ symbols = rw none refl in
      ap (λ w. kind_line s (form_of usage mirrored 0) w (map cell_word cs)) word ∙ ap (λ n. kind_line s (form_of usage mirrored n) symbols (map cell_word cs)) (sym none) ∙ kind_again

-- a `copies` line, with a `+` or without
copies_again : (s : DraftValue) (mirrored : Bool) (symbols : List ℕ) (cs : List Coordinates) (spare : ℕ) → IsGood s (kind_with (form_of usages.Copies mirrored spare) symbols cs)
    → copies_line s mirrored (symbol_word (kind_with (form_of usages.Copies mirrored spare) symbols cs) ∷ map cell_word cs) ≡ Ok (with_kind s (kind_with (form_of usages.Copies mirrored spare) symbols (kept_shape cs)))
unfolding copies_line
copies_again s mirrored symbols cs spare g = by_test (spare == 0) refl
  where
    needed : List ℕ
    needed = take (length symbols - spare) symbols

    spared : List ℕ
    spared = drop (length symbols - spare) symbols

    all_parts : (xs ys : List ℕ) → list_all is_name (xs ++ ys) ≡ true → list_all is_name xs ≡ true
    all_parts [] ys h = refl
    all_parts (x ∷ xs) ys h = let p = and_parts (is_name x) (list_all is_name (xs ++ ys)) h in and_from (is_name x) (list_all is_name xs) p.0 (all_parts xs ys p.1)

    by_test : (b : Bool) → (spare == 0) ≡ b
        → copies_line s mirrored (cond b symbols (take (length symbols - spare) symbols ++ 43 ∷ drop (length symbols - spare) symbols) ∷ map cell_word cs) ≡ Ok (with_kind s (kind_with (form_of usages.Copies mirrored spare) symbols (kept_shape cs)))
    by_test true e =
        let none : spare ≡ 0 = eqb-true spare 0 e in
        rw (plus_none symbols g.named) (ap (λ n. kind_line s (form_of usages.Copies mirrored n) symbols (map cell_word cs)) (sym none) ∙ kind_again s usages.Copies mirrored symbols cs spare g)
    by_test false e =
        let whole = take-append-drop (length symbols - spare) symbols in
        let within = leb-true spare (length symbols) g.spares in
        let l = length-drop (length symbols - spare) symbols in
        let count : length (drop (length symbols - spare) symbols) ≡ spare = omega (arith, l, within) in
        let w = plus_again (drop (length symbols - spare) symbols) (take (length symbols - spare) symbols) (all_parts (take (length symbols - spare) symbols) (drop (length symbols - spare) symbols) (rw whole g.named)) in
        rw (w.0, w.1, w.2, count, e, whole) (kind_again s usages.Copies mirrored symbols cs spare g)

box_again_line : (s : DraftValue) (a b c : ℕ) → is_line (box a b c) ≡ true → is_fit s (box a b c) ≡ true → box_line s (decimal a ∷ decimal b ∷ decimal c ∷ []) ≡ Ok (with_box s a b c)
unfolding box_line
box_again_line s a b c is fit =
    let p = and_parts (is_side a) (is_side b && is_side c) is in
    let q = and_parts (is_side b) (is_side c) p.1 in
    let f = and_parts (not s.boxed) (is_small (with_box s a b c)) fit in
    let x = side_again a p.0 in
    let y = side_again b q.0 in
    let z = side_again c q.1 in
    let i = (and_parts (nat_lt 0 a) (nat_le a most_size) p.0).1 in
    let j = (and_parts (nat_lt 0 b) (nat_le b most_size) q.0).1 in
    let k = (and_parts (nat_lt 0 c) (nat_le c most_size) q.1).1 in
    sized (decimal a) (decimal b) (decimal c) (and_from _ _ x.0 (and_from _ _ y.0 z.0)) x.1 y.1 z.1 (and_from _ _ i (and_from _ _ j k)) (not-true _ f.0) f.1
  where
    sized : (u v w : List ℕ) → are_sizes u v w ≡ true → size_from u ≡ a → size_from v ≡ b → size_from w ≡ c → (nat_le a most_size && (nat_le b most_size && nat_le c most_size)) ≡ true → s.boxed ≡ false → is_small (with_box s a b c) ≡ true → sized_box s (Some (u, v, w)) ≡ Ok (with_box s a b c)
    sized u v w sizes x y z few first small = rw (sizes, first, x, y, z, few, small) refl

cells_again_line : (s : DraftValue) (cs : List Coordinates) → are_in_grid cs ≡ true → is_fit s (cells false cs) ≡ true → cells_line s (map cell_word cs) ≡ Ok (plus s (cells false cs))
unfolding cells_line
cells_again_line s cs is fit =
    let u = and_parts (nat_lt 0 (length cs)) (list_all is_in_grid cs) is in
    rw (some_words cs (ltb-true 0 (length cs) u.0), cells_again s.named cs u.1, fit) refl

maybe_again_line : (s : DraftValue) (cs : List Coordinates) → are_in_grid cs ≡ true → is_fit s (cells true cs) ≡ true → maybe_cells_line s (map cell_word cs) ≡ Ok (plus s (cells true cs))
unfolding maybe_cells_line
maybe_again_line s cs is fit =
    let u = and_parts (nat_lt 0 (length cs)) (list_all is_in_grid cs) is in
    rw (some_words cs (ltb-true 0 (length cs) u.0), cells_again s.named cs u.1, cells_again s.maybe_cells cs u.1, fit) refl

cut_again_line : (s : DraftValue) (cs : List Coordinates) → are_in_grid cs ≡ true → cut_line s (map cell_word cs) ≡ Ok (plus s (cut cs))
unfolding cut_line
cut_again_line s cs is =
    let u = and_parts (nat_lt 0 (length cs)) (list_all is_in_grid cs) is in
    rw (some_words cs (ltb-true 0 (length cs) u.0), cells_again s.cut cs u.1) refl

kind_again_line : (s : DraftValue) (usage : Usage) (mirrored : Bool) (symbols : List ℕ) (spare : ℕ) (cs : List Coordinates) → IsGood s (kind_with (form_of usage mirrored spare) symbols cs)
    → words_line s (line_words (kind (kind_with (form_of usage mirrored spare) symbols cs))) ≡ Ok (with_kind s (kind_with (form_of usage mirrored spare) symbols (kept_shape cs)))
unfolding words_line maybe_line any_line mirror_line
kind_again_line s usages.Once true symbols spare cs g = piece_again_line s usages.Once true symbols cs spare g (eqb-true spare 0 g.spares)
kind_again_line s usages.Once false symbols spare cs g = piece_again_line s usages.Once false symbols cs spare g (eqb-true spare 0 g.spares)
kind_again_line s usages.Maybe true symbols spare cs g = piece_again_line s usages.Maybe true symbols cs spare g (eqb-true spare 0 g.spares)
kind_again_line s usages.Maybe false symbols spare cs g = piece_again_line s usages.Maybe false symbols cs spare g (eqb-true spare 0 g.spares)
kind_again_line s usages.Any true symbols spare cs g = piece_again_line s usages.Any true symbols cs spare g (eqb-true spare 0 g.spares)
kind_again_line s usages.Any false symbols spare cs g = piece_again_line s usages.Any false symbols cs spare g (eqb-true spare 0 g.spares)
kind_again_line s usages.Copies true symbols spare cs g = copies_again s true symbols cs spare g
kind_again_line s usages.Copies false symbols spare cs g = copies_again s false symbols cs spare g

pub line_again : (s : DraftValue) (l : Line) → is_line l ≡ true → is_fit s l ≡ true → words_line s (line_words l) ≡ Ok (plus s l)
unfolding words_line maybe_line
line_again s (kind k) is fit = kind_again_line s k.usage k.mirrored k.symbols k.spare k.cells (good_parts s k is fit)
line_again s (box a b c) is fit = box_again_line s a b c is fit
line_again s (cells true cs) is fit = maybe_again_line s cs is fit
line_again s (cells false cs) is fit = cells_again_line s cs is fit
line_again s (cut cs) is fit = cut_again_line s cs is
