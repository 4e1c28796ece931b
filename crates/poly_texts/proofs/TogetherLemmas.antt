-- Lines that are taken one after the other are lines that go together, and the other way round.
use Rattle.std.proofs.Common.{◌||◌, ◌≡◌, ◌≤◌, ℕ, ◌+◌, List, [], ◌∷◌, ◌++◌, filter, flat_map, length, Bool, true, false, cond, not, ◌&&◌, nat_le, refl, sym, ap, ◌∙◌, subst, arith, append_assoc, append-nil, length-append, le_refl, le_trans, le-leb, leb-true}
use Rattle.std.specs.List.{list_all}
use Rattle.std.proofs.lemmas.Bool.{and_parts, and_from, not-true, not_from_false}
use Rattle.std.proofs.Math.Bool.{or-false}
use Rattle.poly_cells.specs.Coordinates.{Coordinates}
use Rattle.poly_cells.specs.CellTests.{has_cell}
use Rattle.poly_texts.specs.Limits.{most_region_cells}
use Rattle.poly_texts.specs.Cells.{with_cell, with_cells}
use Rattle.poly_texts.specs.Puzzle.{has_name}
use Rattle.poly_texts.specs.Reading.{DraftValue, nothing, taken_in, some_repeated, kept_shape}
use Rattle.poly_texts.specs.Grammar.{Line, kind, box, cells, cut, is_line, kinds_by, taken_by, is_box, named_by, maybe_by, cut_by, AreLines}
use Rattle.poly_texts.proofs.CellLemmas.{with_cells-append, with_none}
use Rattle.poly_texts.proofs.FreshLemmas.{fresh_new, fresh_from, fresh_joined, fresh_parted, taken_more}
use Rattle.poly_texts.proofs.PartLemmas.{plus, is_small, is_fit}

-- each line fits after the ones before it
abbrev pub all_fit : DraftValue → List Line → Bool
all_fit s [] = true
all_fit s (l ∷ ls) = is_line l && (is_fit s l && all_fit (plus s l) ls)

-- what is said with more lines
abbrev pub plus_all : DraftValue → List Line → DraftValue
plus_all s [] = s
plus_all s (l ∷ ls) = plus_all (plus s l) ls

-- *what one line adds*

plus_kinds : (s : DraftValue) (l : Line) → (plus s l).kinds ≡ s.kinds ++ kinds_by l
plus_kinds s (kind k) = refl
plus_kinds s other = sym (append-nil s.kinds)

-- a symbol is taken then where it was before, or where the line takes it
plus_taken : (s : DraftValue) (l : Line) (n : ℕ) → taken_in (plus s l) n ≡ (taken_in s n || has_name (taken_by l) n)
plus_taken s (kind k) n = taken_more s (record k { cells = kept_shape k.cells }) n
plus_taken s other n = sym (or-false (taken_in s n))

plus_named : (s : DraftValue) (l : Line) → (plus s l).named ≡ with_cells s.named (named_by l)
plus_named s (box a b c) = refl
plus_named s (cells optional cs) = refl
plus_named s other = sym (with_none s.named)

plus_maybe : (s : DraftValue) (l : Line) → (plus s l).maybe_cells ≡ with_cells s.maybe_cells (maybe_by l)
plus_maybe s (cells true cs) = refl
plus_maybe s other = sym (with_none s.maybe_cells)

plus_cut : (s : DraftValue) (l : Line) → (plus s l).cut ≡ with_cells s.cut (cut_by l)
plus_cut s (cut cs) = refl
plus_cut s other = sym (with_none s.cut)

-- *what lines add*

more_named : (s : DraftValue) (l : Line) (rest : List Coordinates) → with_cells (plus s l).named rest ≡ with_cells s.named (named_by l ++ rest)
more_named s l rest = ap (λ cs. with_cells cs rest) (plus_named s l) ∙ sym (with_cells-append s.named (named_by l) rest)

pub all_kinds : (s : DraftValue) (ls : List Line) → (plus_all s ls).kinds ≡ s.kinds ++ flat_map kinds_by ls
all_kinds s [] = sym (append-nil s.kinds)
all_kinds s (l ∷ ls) = all_kinds (plus s l) ls ∙ ap (λ ks. ks ++ flat_map kinds_by ls) (plus_kinds s l) ∙ append_assoc s.kinds (kinds_by l) (flat_map kinds_by ls)

pub all_named : (s : DraftValue) (ls : List Line) → (plus_all s ls).named ≡ with_cells s.named (flat_map named_by ls)
all_named s [] = sym (with_none s.named)
all_named s (l ∷ ls) = all_named (plus s l) ls ∙ more_named s l (flat_map named_by ls)

pub all_maybe : (s : DraftValue) (ls : List Line) → (plus_all s ls).maybe_cells ≡ with_cells s.maybe_cells (flat_map maybe_by ls)
all_maybe s [] = sym (with_none s.maybe_cells)
all_maybe s (l ∷ ls) = all_maybe (plus s l) ls ∙ ap (λ cs. with_cells cs (flat_map maybe_by ls)) (plus_maybe s l) ∙ sym (with_cells-append s.maybe_cells (maybe_by l) (flat_map maybe_by ls))

pub all_cut : (s : DraftValue) (ls : List Line) → (plus_all s ls).cut ≡ with_cells s.cut (flat_map cut_by ls)
all_cut s [] = sym (with_none s.cut)
all_cut s (l ∷ ls) = all_cut (plus s l) ls ∙ ap (λ cs. with_cells cs (flat_map cut_by ls)) (plus_cut s l) ∙ sym (with_cells-append s.cut (cut_by l) (flat_map cut_by ls))

-- *cells only come to others*

one_grows : (s : List Coordinates) (c : Coordinates) → length s ≤ length (with_cell s c)
one_grows s c = by_test (has_cell s c)
  where
    by_test : (b : Bool) → length s ≤ length (cond b s (s ++ c ∷ []))
    by_test true = le_refl (length s)
    by_test false = omega (arith, length-append s (c ∷ []))

grows : (s cs : List Coordinates) → length s ≤ length (with_cells s cs)
unfolding with_cells
grows s [] = le_refl (length s)
grows s (c ∷ cs) = le_trans (one_grows s c) (grows (with_cell s c) cs)

-- *lines together*

abbrev pub bit : Bool → ℕ
bit b = cond b 1 0

-- the lines go together, after what is said
pub record GoTogether (s : DraftValue) (ls : List Line) : Type 0 where
  pub good : list_all is_line ls ≡ true
  pub new : some_repeated (taken_in s) (flat_map taken_by ls) ≡ false
  pub one_box : bit s.boxed + length (filter is_box ls) ≤ 1
  pub few : length (with_cells s.named (flat_map named_by ls)) ≤ most_region_cells

at_most_one : (b : Bool) → bit b + 0 ≤ 1
at_most_one true = omega arith
at_most_one false = omega arith

boxes_more : (s : DraftValue) (l : Line) (ls : List Line) → is_fit s l ≡ true → bit (plus s l).boxed + length (filter is_box ls) ≡ bit s.boxed + length (filter is_box (l ∷ ls))
boxes_more s (box a b c) ls fit =
    let f = and_parts (not s.boxed) (is_small (plus s (box a b c))) fit in
    let first : s.boxed ≡ false = not-true _ f.0 in
    rw first (omega arith)
boxes_more s other ls fit = refl

fit_new : (s : DraftValue) (l : Line) → is_fit s l ≡ true → some_repeated (taken_in s) (taken_by l) ≡ false
fit_new s (kind k) fit = not-true _ fit
fit_new s other fit = refl

plus_few : (s : DraftValue) (l : Line) → length s.named ≤ most_region_cells → is_fit s l ≡ true → length (plus s l).named ≤ most_region_cells
plus_few s (box a b c) few fit = leb-true _ most_region_cells (and_parts (not s.boxed) (is_small (plus s (box a b c))) fit).1
plus_few s (cells optional cs) few fit = leb-true _ most_region_cells fit
plus_few s other few fit = few

pub together : (s : DraftValue) (ls : List Line) → length s.named ≤ most_region_cells → all_fit s ls ≡ true → GoTogether s ls
together s [] few fit = record {
  good = refl;
  new = refl;
  one_box = at_most_one s.boxed;
  few = rw with_none few;
}
together s (l ∷ ls) few fit =
    let p = and_parts (is_line l) (is_fit s l && all_fit (plus s l) ls) fit in
    let q = and_parts (is_fit s l) (all_fit (plus s l) ls) p.1 in
    let t = together (plus s l) ls (plus_few s l few q.0) q.1 in
    record {
      good = and_from _ _ p.0 t.good;
      new = fresh_joined (taken_in s) (taken_in (plus s l)) (taken_by l) (flat_map taken_by ls) (plus_taken s l) (fit_new s l q.0) t.new;
      one_box = subst (λ n. n ≤ 1) (boxes_more s l ls q.0) t.one_box;
      few = subst (λ cs. length cs ≤ most_region_cells) (more_named s l (flat_map named_by ls)) t.few;
    }

small_before : (s : DraftValue) (l : Line) (rest : List Coordinates) → length (with_cells s.named (named_by l ++ rest)) ≤ most_region_cells → nat_le (length (with_cells s.named (named_by l))) most_region_cells ≡ true
small_before s l rest h =
    let e : length (with_cells (with_cells s.named (named_by l)) rest) ≤ most_region_cells = subst (λ cs. length cs ≤ most_region_cells) (with_cells-append s.named (named_by l) rest) h in
    le-leb _ most_region_cells (le_trans (grows (with_cells s.named (named_by l)) rest) e)

unboxed : (b : Bool) (n : ℕ) → bit b + (1 + n) ≤ 1 → not b ≡ true
unboxed true n h = absurd (omega arith)
unboxed false n h = refl

fits_first : (s : DraftValue) (l : Line) (ls : List Line) → GoTogether s (l ∷ ls) → is_fit s l ≡ true
fits_first s (kind k) ls t = not_from_false _ (fresh_parted (taken_in s) (taken_in (plus s (kind k))) k.symbols (flat_map taken_by ls) (plus_taken s (kind k)) t.new).0
fits_first s (box a b c) ls t = and_from _ _ (unboxed s.boxed (length (filter is_box ls)) (omega (arith, t.one_box))) (small_before s (box a b c) (flat_map named_by ls) t.few)
fits_first s (cells optional cs) ls t = small_before s (cells optional cs) (flat_map named_by ls) t.few
fits_first s (cut cs) ls t = refl

pub fit_together : (s : DraftValue) (ls : List Line) → GoTogether s ls → all_fit s ls ≡ true
fit_together s [] t = refl
fit_together s (l ∷ ls) t =
    let p = and_parts (is_line l) (list_all is_line ls) t.good in
    let fit = fits_first s l ls t in
    and_from _ _ p.0 (and_from _ _ fit (fit_together (plus s l) ls (record {
      good = p.1;
      new = (fresh_parted (taken_in s) (taken_in (plus s l)) (taken_by l) (flat_map taken_by ls) (plus_taken s l) t.new).1;
      one_box = subst (λ n. n ≤ 1) (sym (boxes_more s l ls fit)) t.one_box;
      few = subst (λ cs. length cs ≤ most_region_cells) (sym (more_named s l (flat_map named_by ls))) t.few;
    })))

pub lines_together : (ls : List Line) → all_fit nothing ls ≡ true → AreLines ls
lines_together ls fit =
    let t = together nothing ls (omega arith) fit in
    record { good = t.good; new = fresh_new (taken_in nothing) (flat_map taken_by ls) t.new; one_box = let h : 0 + length (filter is_box ls) ≤ 1 = t.one_box in omega arith; few = t.few }

pub together_lines : (ls : List Line) → AreLines ls → all_fit nothing ls ≡ true
together_lines ls t = fit_together nothing ls (record { good = t.good; new = fresh_from (taken_in nothing) (flat_map taken_by ls) t.new (λ n i. refl); one_box = let h : length (filter is_box ls) ≤ 1 = t.one_box in let e : 0 + length (filter is_box ls) ≤ 1 = omega arith in e; few = t.few })
