-- A line that is taken is a line within the limits, and what it adds to what is said.
use Rattle.std.proofs.Common.{◌≡◌, ◌≤◌, ◌==◌, ◌-◌, ◌++◌, ap₂, ℕ, List, [], ◌∷◌, take, drop, map, length, Bool, true, false, cond, not, ◌&&◌, nat_lt, nat_le, ◌||◌, Option, Some, None, Ok, Err, refl, sym, ap, ◌∙◌, subst, arith, codes, length-append, le-leb}
use Rattle.std.specs.List.{list_all}
use Rattle.std.proofs.lemmas.Bool.{and_parts, and_from, or_right, or_parts, not-false, not_from_false}
use Rattle.std.proofs.lemmas.Bool.Decides.{nat_tests}
use Rattle.text_lines.specs.Lines.{is_empty}
use Rattle.text_lines.specs.Each.{each, ◌>>=◌}
use Rattle.std.proofs.lemmas.Option.{same_Some, none-some}
use Rattle.poly_cells.specs.Coordinates.{Coordinates}
use Rattle.poly_texts.specs.Limits.{most_piece_cells, most_region_cells, most_size}
use Rattle.poly_texts.specs.declared.fault.Fault.TheVariants.{BadLine, SecondBox, TooLarge}
use Rattle.poly_texts.specs.declared.key.Key.{Key}
use Rattle.poly_texts.specs.declared.key.Key.TheVariants as keys
use Rattle.poly_texts.specs.declared.usage.Usage.{Usage}
use Rattle.poly_texts.specs.declared.usage.Usage.TheVariants as usages
use Rattle.poly_texts.specs.declared.form.Form.{Form}
use Rattle.poly_texts.specs.Cells.{with_cells}
use Rattle.poly_texts.specs.Usages.{are_so_many, may_spare}
use Rattle.poly_texts.specs.Kinds.{kind_with, form_of}
use Rattle.poly_texts.specs.Words.{is_name, has_plus, before_plus, after_plus, are_sizes, are_small, is_size, size_from}
use Rattle.poly_texts.specs.Reading.{DraftValue, kept_shape, shape_of, within, some_repeated, taken_in, with_kind, kind_line, add_cell, three_words, range_line, copies_line, with_box, sized_box, piece_line, box_line, cells_line, maybe_cells_line, cut_line, key_from, mirror_keyed, mirror_line, any_keyed, any_line, maybe_keyed, maybe_line, keyed_line, words_line}
use Rattle.poly_cells.specs.CellTests.{is_in_grid}
use Rattle.poly_cells.specs.CellWords.{cell_word}
use Rattle.poly_texts.specs.Grammar.{Line, kind, box, cells, cut, usage_words, mirror_words, piece_word, symbol_word, line_words, are_in_grid, are_apart, is_line}
use Rattle.text_lines.proofs.ResultLemmas.{ok_is, no_fault, bind_ok, unrefused, granted, key_told}
use Rattle.poly_texts.proofs.PlusLemmas.{plus_is, parted_again}
use Rattle.poly_texts.proofs.SpellingLemmas.{words_same, cells_again, cells_are, piece_cells_are, side_is}
use Rattle.poly_texts.proofs.PartLemmas.{plus, is_fit, some_cells, within_is, name_parts, shape_parts, kind_parts, names_is}

-- *a line that is taken fits*

-- the words are a line's, which fits and adds what came
pub record IsTakenLine (s : DraftValue) (words : List (List ℕ)) (t : DraftValue) : Type 0 where
  pub line : Line
  pub words_are : words ≡ line_words line
  pub good : is_line line ≡ true
  pub fits : is_fit s line ≡ true
  pub more : t ≡ plus s line

-- no kind of one piece has spare ones
may_none : (usage : Usage) (n : ℕ) → may_spare usage 0 n ≡ true
may_none usages.Once n = refl
may_none usages.Maybe n = refl
may_none usages.Any n = refl
may_none usages.Copies n = le-leb 0 n (omega arith)

-- a kind that was taken is a line's, where its symbols are spelled so
kind_taken : (s : DraftValue) (form : Form) (word spelled : List ℕ) (words : List (List ℕ)) (t : DraftValue) → may_spare form.usage form.spare (length word) ≡ true
    → ((cs : List Coordinates) → spelled ≡ symbol_word (kind_with form word cs)) → kind_line s form word words ≡ Ok t
    → IsTakenLine s (usage_words form.usage (mirror_words form.is_mirrored (piece_word form.usage ∷ spelled ∷ words))) t
kind_taken s form word spelled words t spares spells h =
    let p = kind_parts s form word words t h in
    let n = name_parts (taken_in s) form.usage word word p.named in
    let w = and_parts (list_all is_name word) (are_so_many form.usage (length word)) (names_is form.usage word word n.0).0 in
    let k = shape_parts words p.shape p.shaped in
    let m = piece_cells_are [] words k.0 refl (omega arith) k.1 in
    let all : k.0 ≡ m.cs = m.all_are in
    let some : is_empty (map cell_word m.cs) ≡ false = rw (← m.words_are) p.some in
    let apart : are_apart m.cs ≡ true = subst (λ cs. are_apart cs ≡ true) all m.apart in
    let few : length m.cs ≤ most_piece_cells = subst (λ cs. length cs ≤ most_piece_cells) all m.few in
    record {
      line = kind (kind_with form word m.cs);
      words_are = ap (λ ws. usage_words form.usage (mirror_words form.is_mirrored (piece_word form.usage ∷ ws))) (words_same (spells m.cs) m.words_are);
      good = and_from _ _ (and_from _ _ w.0 (and_from _ _ w.1 spares)) (and_from _ _ (and_from _ _ (some_cells m.cs some) m.in_grid) (and_from _ _ apart (le-leb (length m.cs) most_piece_cells few)));
      fits = not_from_false _ n.1;
      more = sym p.more ∙ ap (λ shape. with_kind s (kind_with form word shape)) (sym k.2 ∙ ap kept_shape all);
    }

piece_taken : (s : DraftValue) (usage : Usage) (mirrored : Bool) (words : List (List ℕ)) (t : DraftValue) → piece_line s usage mirrored words ≡ Ok t → IsTakenLine s (usage_words usage (mirror_words mirrored (piece_word usage ∷ words))) t
unfolding piece_line
piece_taken s usage mirrored [] t h = absurd (no_fault BadLine t h)
piece_taken s usage mirrored (word ∷ words) t h = kind_taken s (form_of usage mirrored 0) word word words t (may_none usage (length word)) (λ cs. refl) h

copies_taken : (s : DraftValue) (mirrored : Bool) (words : List (List ℕ)) (t : DraftValue) → copies_line s mirrored words ≡ Ok t → IsTakenLine s (mirror_words mirrored (codes "copies" ∷ words)) t
unfolding copies_line
copies_taken s mirrored [] t h = absurd (no_fault BadLine t h)
copies_taken s mirrored (word ∷ words) t h = by_test (has_plus word) refl h
  where
    by_test : (b : Bool) → has_plus word ≡ b → cond b (range_line s mirrored (before_plus word) (after_plus word) words) (kind_line s (form_of usages.Copies mirrored 0) word words) ≡ Ok t
        → IsTakenLine s (mirror_words mirrored (codes "copies" ∷ word ∷ words)) t
    by_test true e g =
        let first = before_plus word in
        let spare = after_plus word in
        let form = form_of usages.Copies mirrored (length spare) in
        let u = unrefused (length spare == 0) BadLine (kind_line s form (first ++ spare) words) t g in
        let l = length-append first spare in
        let parts = parted_again first spare in
        let spelled : word ≡ take (length (first ++ spare) - length spare) (first ++ spare) ++ 43 ∷ drop (length (first ++ spare) - length spare) (first ++ spare) =
        plus_is word e ∙ ap₂ (λ (xs ys : List ℕ). xs ++ 43 ∷ ys) (sym parts.0) (sym parts.1) in
        kind_taken s form (first ++ spare) word words t (le-leb (length spare) (length (first ++ spare)) (omega (arith, l))) (λ cs. spelled ∙ rw u.0 refl) u.1
    by_test false e g = kind_taken s (form_of usages.Copies mirrored 0) word word words t (may_none usages.Copies (length word)) (λ cs. refl) g

three_is : (words : List (List ℕ)) (a b c : List ℕ) → three_words words ≡ Some (a, b, c) → words ≡ a ∷ b ∷ c ∷ []
three_is [] a b c h = absurd (cc)
three_is (x ∷ []) a b c h = absurd (cc)
three_is (x ∷ y ∷ []) a b c h = absurd (cc)
three_is (x ∷ y ∷ z ∷ []) a b c h = let e = same_Some (x, y, z) (a, b, c) h in rw (ap (λ t. t.0) e, ap (λ t. t.1) e, ap (λ t. t.2) e) refl
three_is (x ∷ y ∷ z ∷ w ∷ ws) a b c h = absurd (cc)

box_taken : (s : DraftValue) (words : List (List ℕ)) (found : Option (List ℕ × List ℕ × List ℕ)) (t : DraftValue) → three_words words ≡ found → sized_box s found ≡ Ok t → IsTakenLine s (codes "box" ∷ words) t
box_taken s words None t e h = absurd (no_fault BadLine t h)
box_taken s words (Some (a, b, c)) t e h =
    let u = unrefused (not (are_sizes a b c)) BadLine (cond s.boxed (Err SecondBox) (cond (are_small a b c) (within (with_box s (size_from a) (size_from b) (size_from c))) (Err TooLarge))) t h in
    let v = unrefused s.boxed SecondBox (cond (are_small a b c) (within (with_box s (size_from a) (size_from b) (size_from c))) (Err TooLarge)) t u.1 in
    let w = granted (are_small a b c) TooLarge (within (with_box s (size_from a) (size_from b) (size_from c))) t v.1 in
    let x = within_is (with_box s (size_from a) (size_from b) (size_from c)) t w.1 in
    let i = and_parts (is_size a) (is_size b && is_size c) (not-false _ u.0) in
    let j = and_parts (is_size b) (is_size c) i.1 in
    let k = and_parts (nat_le (size_from a) most_size) (nat_le (size_from b) most_size && nat_le (size_from c) most_size) w.0 in
    let l = and_parts (nat_le (size_from b) most_size) (nat_le (size_from c) most_size) k.1 in
    let p = side_is a i.0 k.0 in
    let q = side_is b j.0 l.0 in
    let r = side_is c j.1 l.1 in
    record {
      line = box (size_from a) (size_from b) (size_from c);
      words_are = ap (λ ws. codes "box" ∷ ws) (three_is words a b c e ∙ three_same p.1 q.1 r.1);
      good = and_from _ _ p.0 (and_from _ _ q.0 r.0);
      fits = and_from _ _ (not_from_false _ v.0) x.0;
      more = sym x.1;
    }
  where
    three_same : {a b c d e f : List ℕ} → a ≡ d → b ≡ e → c ≡ f → a ∷ b ∷ c ∷ [] ≡ d ∷ e ∷ f ∷ []
    three_same g h i = cc

box_parts : (s : DraftValue) (words : List (List ℕ)) (t : DraftValue) → box_line s words ≡ Ok t → IsTakenLine s (codes "box" ∷ words) t
unfolding box_line
box_parts s words t h = box_taken s words (three_words words) t refl h

in_grid_from_words : (cs : List Coordinates) (words : List (List ℕ)) → words ≡ map cell_word cs → is_empty words ≡ false → list_all is_in_grid cs ≡ true → are_in_grid cs ≡ true
in_grid_from_words cs words e some p = and_from _ _ (some_cells cs (rw (← e) some)) p

cells_taken : (s : DraftValue) (words : List (List ℕ)) (t : DraftValue) → cells_line s words ≡ Ok t → IsTakenLine s (codes "cells" ∷ words) t
unfolding cells_line
cells_taken s words t h =
    let u = unrefused (is_empty words) BadLine (each add_cell s.named words >>= λ named. within (record s { named = named })) t h in
    let b = bind_ok (each add_cell s.named words) (λ named. within (record s { named = named })) t u.1 in
    let x = within_is (record s { named = b.0 }) t b.2 in
    let m = cells_are s.named words b.0 b.1 in
    record {
      line = cells false m.cs;
      words_are = ap (λ ws. codes "cells" ∷ ws) m.words_are;
      good = in_grid_from_words m.cs words m.words_are u.0 m.in_grid;
      fits = subst (λ named. nat_le (length named) most_region_cells ≡ true) m.all_are x.0;
      more = sym x.1 ∙ ap (λ named. record s { named = named }) m.all_are;
    }

maybe_taken : (s : DraftValue) (words : List (List ℕ)) (t : DraftValue) → maybe_cells_line s words ≡ Ok t → IsTakenLine s (codes "maybe" ∷ codes "cells" ∷ words) t
unfolding maybe_cells_line
maybe_taken s words t h =
    let u = unrefused (is_empty words) BadLine (each add_cell s.named words >>= λ named. each add_cell s.maybe_cells words >>= λ maybe. within (record s { named = named; maybe_cells = maybe })) t h in
    let b = bind_ok (each add_cell s.named words) (λ named. each add_cell s.maybe_cells words >>= λ maybe. within (record s { named = named; maybe_cells = maybe })) t u.1 in
    let d = bind_ok (each add_cell s.maybe_cells words) (λ maybe. within (record s { named = b.0; maybe_cells = maybe })) t b.2 in
    let x = within_is (record s { named = b.0; maybe_cells = d.0 }) t d.2 in
    let m = cells_are s.named words b.0 b.1 in
    let again : each add_cell s.maybe_cells words ≡ Ok (with_cells s.maybe_cells m.cs) = ap (each add_cell s.maybe_cells) m.words_are ∙ cells_again s.maybe_cells m.cs m.in_grid in
    let same : d.0 ≡ with_cells s.maybe_cells m.cs = ok_is d.0 (with_cells s.maybe_cells m.cs) (sym d.1 ∙ again) in
    record {
      line = cells true m.cs;
      words_are = ap (λ ws. codes "maybe" ∷ codes "cells" ∷ ws) m.words_are;
      good = in_grid_from_words m.cs words m.words_are u.0 m.in_grid;
      fits = subst (λ named. nat_le (length named) most_region_cells ≡ true) m.all_are x.0;
      more = sym x.1 ∙ ap (λ named. record s { named = named; maybe_cells = d.0 }) m.all_are ∙ ap (λ maybe. record s { named = with_cells s.named m.cs; maybe_cells = maybe }) same;
    }

cut_taken : (s : DraftValue) (words : List (List ℕ)) (t : DraftValue) → cut_line s words ≡ Ok t → IsTakenLine s (codes "cut" ∷ words) t
unfolding cut_line
cut_taken s words t h =
    let u = unrefused (is_empty words) BadLine (each add_cell s.cut words >>= λ cut. Ok (record s { cut = cut })) t h in
    let b = bind_ok (each add_cell s.cut words) (λ cut. Ok (record s { cut = cut })) t u.1 in
    let m = cells_are s.cut words b.0 b.1 in
    record {
      line = cut m.cs;
      words_are = ap (λ ws. codes "cut" ∷ ws) m.words_are;
      good = in_grid_from_words m.cs words m.words_are u.0 m.in_grid;
      fits = refl;
      more = sym (ok_is (record s { cut = b.0 }) t b.2) ∙ ap (λ cut. record s { cut = cut }) m.all_are;
    }

-- *a line by its first word*

key_word : Key → List ℕ
key_word keys.Piece = codes "piece"
key_word keys.Box = codes "box"
key_word keys.Cells = codes "cells"
key_word keys.Cut = codes "cut"
key_word keys.Maybe = codes "maybe"
key_word keys.Any = codes "any"
key_word keys.Mirror = codes "mirror"
key_word keys.Copies = codes "copies"

key_is : (word : List ℕ) (k : Key) → key_from word ≡ Some k → word ≡ key_word k
unfolding key_word
key_is word k h =
    let first = key_told key_word word k in
    first keys.Piece _ (first keys.Box _ (first keys.Cells _ (first keys.Cut _ (first keys.Maybe _ (first keys.Any _ (first keys.Mirror _ (first keys.Copies None (λ e. absurd (none-some k e))))))))) h

-- after `mirror`, before which a word of the use stands
mirror_keyed_is : (s : DraftValue) (usage : Usage) (key : List ℕ) (words : List (List ℕ)) (t : DraftValue) (k : Option Key) → key_from key ≡ k → piece_word usage ≡ codes "piece" → mirror_keyed k s usage words ≡ Ok t → IsTakenLine s (usage_words usage (codes "mirror" ∷ key ∷ words)) t
unfolding key_word
mirror_keyed_is s usage key words t (Some keys.Piece) e one h = subst (λ first. IsTakenLine s (usage_words usage (codes "mirror" ∷ first ∷ words)) t) (one ∙ sym (key_is key keys.Piece e)) (piece_taken s usage true words t h)
mirror_keyed_is s usages.Once key words t (Some keys.Copies) e one h = rw (key_is key keys.Copies e) (copies_taken s true words t h)
mirror_keyed_is s usage key words t _ e one h = absurd (no_fault BadLine t h)

mirror_is : (s : DraftValue) (usage : Usage) (words : List (List ℕ)) (t : DraftValue) → piece_word usage ≡ codes "piece" → mirror_line s usage words ≡ Ok t → IsTakenLine s (usage_words usage (codes "mirror" ∷ words)) t
unfolding mirror_line
mirror_is s usage [] t one h = absurd (no_fault BadLine t h)
mirror_is s usage (key ∷ words) t one h = mirror_keyed_is s usage key words t (key_from key) refl one h

maybe_keyed_is : (s : DraftValue) (key : List ℕ) (words : List (List ℕ)) (t : DraftValue) (k : Option Key) → key_from key ≡ k → maybe_keyed k s words ≡ Ok t → IsTakenLine s (codes "maybe" ∷ key ∷ words) t
unfolding key_word
maybe_keyed_is s key words t (Some keys.Piece) e h = rw (key_is key keys.Piece e) (piece_taken s usages.Maybe false words t h)
maybe_keyed_is s key words t (Some keys.Cells) e h = rw (key_is key keys.Cells e) (maybe_taken s words t h)
maybe_keyed_is s key words t (Some keys.Mirror) e h = rw (key_is key keys.Mirror e) (mirror_is s usages.Maybe words t refl h)
maybe_keyed_is s key words t _ e h = absurd (no_fault BadLine t h)

maybe_is : (s : DraftValue) (words : List (List ℕ)) (t : DraftValue) → maybe_line s words ≡ Ok t → IsTakenLine s (codes "maybe" ∷ words) t
unfolding maybe_line
maybe_is s [] t h = absurd (no_fault BadLine t h)
maybe_is s (key ∷ words) t h = maybe_keyed_is s key words t (key_from key) refl h

any_keyed_is : (s : DraftValue) (key : List ℕ) (words : List (List ℕ)) (t : DraftValue) (k : Option Key) → key_from key ≡ k → any_keyed k s words ≡ Ok t → IsTakenLine s (codes "any" ∷ key ∷ words) t
unfolding key_word
any_keyed_is s key words t (Some keys.Piece) e h = rw (key_is key keys.Piece e) (piece_taken s usages.Any false words t h)
any_keyed_is s key words t (Some keys.Mirror) e h = rw (key_is key keys.Mirror e) (mirror_is s usages.Any words t refl h)
any_keyed_is s key words t _ e h = absurd (no_fault BadLine t h)

any_is : (s : DraftValue) (words : List (List ℕ)) (t : DraftValue) → any_line s words ≡ Ok t → IsTakenLine s (codes "any" ∷ words) t
unfolding any_line
any_is s [] t h = absurd (no_fault BadLine t h)
any_is s (key ∷ words) t h = any_keyed_is s key words t (key_from key) refl h

keyed_is : (s : DraftValue) (key : List ℕ) (words : List (List ℕ)) (t : DraftValue) (k : Option Key) → key_from key ≡ k → keyed_line k s words ≡ Ok t → IsTakenLine s (key ∷ words) t
unfolding key_word
keyed_is s key words t None e h = absurd (no_fault BadLine t h)
keyed_is s key words t (Some keys.Piece) e h = rw (key_is key keys.Piece e) (piece_taken s usages.Once false words t h)
keyed_is s key words t (Some keys.Box) e h = rw (key_is key keys.Box e) (box_parts s words t h)
keyed_is s key words t (Some keys.Cells) e h = rw (key_is key keys.Cells e) (cells_taken s words t h)
keyed_is s key words t (Some keys.Cut) e h = rw (key_is key keys.Cut e) (cut_taken s words t h)
keyed_is s key words t (Some keys.Maybe) e h = rw (key_is key keys.Maybe e) (maybe_is s words t h)
keyed_is s key words t (Some keys.Any) e h = rw (key_is key keys.Any e) (any_is s words t h)
keyed_is s key words t (Some keys.Mirror) e h = rw (key_is key keys.Mirror e) (mirror_is s usages.Once words t refl h)
keyed_is s key words t (Some keys.Copies) e h = rw (key_is key keys.Copies e) (copies_taken s false words t h)

-- a line with words that is taken is a line that fits
pub line_is : (s : DraftValue) (key : List ℕ) (words : List (List ℕ)) (t : DraftValue) → words_line s (key ∷ words) ≡ Ok t → IsTakenLine s (key ∷ words) t
unfolding words_line
line_is s key words t h = keyed_is s key words t (key_from key) refl h
