-- What a line adds to what is said, and what its parts tell if they are taken.
use Rattle.std.proofs.Common.{◌≡◌, ◌<◌, ◌++◌, ℕ, List, [], ◌∷◌, map, length, Bool, true, false, cond, not, ◌&&◌, nat_lt, nat_le, ◌||◌, Option, Some, None, Ok, refl, sym, ap, ◌∙◌, subst, arith, lt-ltb}
use Rattle.std.specs.List.{list_all}
use Rattle.text_lines.specs.Lines.{is_empty}
use Rattle.text_lines.specs.Each.{each, ◌>>=◌}
use Rattle.std.proofs.lemmas.Option.{same_Some, none-some}
use Rattle.poly_cells.specs.Coordinates.{Coordinates}
use Rattle.poly_texts.specs.Limits.{most_region_cells}
use Rattle.poly_texts.specs.declared.fault.Fault.TheVariants.{BadLine, RepeatedPiece, TooLarge}
use Rattle.poly_texts.specs.declared.usage.Usage.{Usage}
use Rattle.poly_texts.specs.declared.form.Form.{Form}
use Rattle.poly_texts.specs.Cells.{with_cells}
use Rattle.poly_texts.specs.Usages.{are_so_many}
use Rattle.poly_texts.specs.Kinds.{kind_with}
use Rattle.poly_texts.specs.Words.{word_names, is_name}
use Rattle.poly_texts.specs.Reading.{DraftValue, kept_shape, shape_of, within, some_repeated, taken_in, with_kind, are_fresh, new_names, add_piece_cell, with_box, kind_line}
use Rattle.poly_cells.specs.CellWords.{cell_word}
use Rattle.poly_texts.specs.Grammar.{Line, kind, box, cells, cut}
use Rattle.text_lines.proofs.ResultLemmas.{ok_is, no_fault, bind_ok, unrefused, granted}

-- what is said with one more line
abbrev pub plus : DraftValue → Line → DraftValue
plus s (kind k) = with_kind s (record k { cells = kept_shape k.cells })
plus s (box a b c) = with_box s a b c
plus s (cells optional cs) = record s { named = with_cells s.named cs; maybe_cells = cond optional (with_cells s.maybe_cells cs) s.maybe_cells }
plus s (cut cs) = record s { cut = with_cells s.cut cs }

abbrev pub is_small : DraftValue → Bool
is_small s = nat_le (length s.named) most_region_cells

-- whether a line may come after what is said
abbrev pub is_fit : DraftValue → Line → Bool
is_fit s (kind k) = not (some_repeated (taken_in s) k.symbols)
is_fit s (box a b c) = not s.boxed && is_small (with_box s a b c)
is_fit s (cells optional cs) = is_small (plus s (cells optional cs))
is_fit s (cut cs) = true

pub some_words : (cs : List Coordinates) → 0 < length cs → is_empty (map cell_word cs) ≡ false
some_words [] h = absurd (omega arith)
some_words (c ∷ cs) h = refl

pub some_cells : (cs : List Coordinates) → is_empty (map cell_word cs) ≡ false → nat_lt 0 (length cs) ≡ true
some_cells [] h = absurd (cc)
some_cells (c ∷ cs) h = lt-ltb 0 (length (c ∷ cs)) (omega arith)

pub within_is : (s : DraftValue) (t : DraftValue) → within s ≡ Ok t → (is_small s ≡ true) × (s ≡ t)
within_is s t h = let p = granted (is_small s) TooLarge (Ok s) t h in (p.0, ok_is s t p.1)

-- *the parts of a line*

fresh_is : (taken : ℕ → Bool) (found : Option (List ℕ)) (names : List ℕ) → are_fresh taken found ≡ Ok names → (found ≡ Some names) × (some_repeated taken names ≡ false)
fresh_is taken None names h = absurd (no_fault BadLine names h)
fresh_is taken (Some ns) names h =
    let p = unrefused (some_repeated taken ns) RepeatedPiece (Ok ns) names h in
    let e = ok_is ns names p.1 in
    (ap (λ m. Some m) e, subst (λ m. some_repeated taken m ≡ false) e p.0)

pub name_parts : (taken : ℕ → Bool) (usage : Usage) (word names : List ℕ) → new_names taken usage word ≡ Ok names → (word_names usage word ≡ Some names) × (some_repeated taken names ≡ false)
unfolding new_names
name_parts taken usage word names h = fresh_is taken (word_names usage word) names h

told : {A : Type 0} (b : Bool) (x y : A) → cond b (Some x) None ≡ Some y → (b ≡ true) × (x ≡ y)
told true x y h = (refl, same_Some x y h)
told false x y h = absurd (none-some y h)

pub names_is : (usage : Usage) (word names : List ℕ) → word_names usage word ≡ Some names → ((list_all is_name word && are_so_many usage (length word)) ≡ true) × (word ≡ names)
names_is usage word names h = told (list_all is_name word && are_so_many usage (length word)) word names h

pub shape_parts : (words : List (List ℕ)) (shape : List Coordinates) → shape_of words ≡ Ok shape → (cs : List Coordinates) × (each add_piece_cell [] words ≡ Ok cs) × (kept_shape cs ≡ shape)
unfolding shape_of
shape_parts words shape h =
    let b = bind_ok (each add_piece_cell [] words) (λ cs. Ok (kept_shape cs)) shape h in
    (b.0, b.1, ok_is (kept_shape b.0) shape b.2)

-- a line of a kind that was taken
pub record IsTakenKind (s : DraftValue) (form : Form) (word : List ℕ) (words : List (List ℕ)) (t : DraftValue) : Type 0 where
  pub shape : List Coordinates
  pub some : is_empty words ≡ false
  pub named : new_names (taken_in s) form.usage word ≡ Ok word
  pub shaped : shape_of words ≡ Ok shape
  pub more : with_kind s (kind_with form word shape) ≡ t

pub kind_parts : (s : DraftValue) (form : Form) (word : List ℕ) (words : List (List ℕ)) (t : DraftValue) → kind_line s form word words ≡ Ok t → IsTakenKind s form word words t
unfolding kind_line
kind_parts s form word words t h =
    let u = unrefused (is_empty words) BadLine (new_names (taken_in s) form.usage word >>= λ symbols. shape_of words >>= λ shape. Ok (with_kind s (kind_with form symbols shape))) t h in
    let b = bind_ok (new_names (taken_in s) form.usage word) (λ symbols. shape_of words >>= λ shape. Ok (with_kind s (kind_with form symbols shape))) t u.1 in
    let d = bind_ok (shape_of words) (λ shape. Ok (with_kind s (kind_with form b.0 shape))) t b.2 in
    let e : b.0 ≡ word = sym (names_is form.usage word b.0 (name_parts (taken_in s) form.usage word b.0 b.1).0).1 in
    record {
      shape = d.0;
      some = u.0;
      named = b.1 ∙ ap (λ ns. Ok ns) e;
      shaped = d.1;
      more = ap (λ ns. with_kind s (kind_with form ns d.0)) (sym e) ∙ ok_is (with_kind s (kind_with form b.0 d.0)) t d.2;
    }
