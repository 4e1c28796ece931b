-- A pass over a set that takes the options of up to six items out of it.
use Rattle.std.proofs.Common.{◌≡◌, ℕ, zero, suc, ◌+◌, ◌-◌, ◌*◌, ◌/◌, ◌%◌, ◌^◌, max, ◌<◌, ◌≤◌, ◌⊎◌, ◌==◌, Bool, true, false, not, cond, ◌&&◌, ◌||◌, List, [], ◌∷◌, ◌++◌, length, map, filter, get_or, take, drop, length-take, lit<, refl, sym, ap, ap₂, subst, ◌∙◌, inl, inr, arith, All}
use Rattle.std.specs.Prelude.{bit_or, bit_and}
use Rattle.std.specs.Int.{bit_at, bit_not, w64}
use Rattle.std.specs.List.{list_any}
use Rattle.std.proofs.lemmas.Bool.{cases_lt, cases_eq, eq-eqb, eqb-true, ne_eqb, both_ways, and_right}
use Rattle.std.proofs.lemmas.Nat.{and_le_l, or_lt}
use Rattle.std.proofs.lemmas.Nat.Bits.{bit_at_or, bit_at-lt}
use Rattle.std.proofs.lemmas.List.{get_or-take, get_or-drop, get_or_past, take_more, map-append}
use Rattle.std.proofs.lemmas.List.Elements.{filter-append}
use Rattle.cover_bits.specs.declared.sets.Part.{Part}
use Rattle.cover_bits.specs.Parts.{in_word, in_row, in_part, in_parts, is_some_part, ArePlaced}
use Rattle.cover_bits.specs.Bits.{row_at, column_at, HasColumn, in_columns, IsWithout}
use Rattle.cover_bits.proofs.PartLemmas.{in_word_and, in_word_not, has_no_bit}
use Rattle.cover_bits.proofs.TableLemmas.{in_row_at}

-- what a part has and the word at its place hasn't
abbrev pub part_without : (ℕ → ℕ) → Part → Part
part_without gone part = record { word = bit_and part.word (bit_not w64 (gone part.place)); place = part.place }

-- the parts of what the parts have and the words at their places haven't
abbrev pub without_words : (ℕ → ℕ) → List Part → List Part
without_words gone parts = filter is_some_part (map (part_without gone) parts)

-- *a set without the numbers of a row of words*

placed_weaker : (m n w : ℕ) (parts : List Part) → m ≤ n → ArePlaced n w parts → ArePlaced m w parts
placed_weaker m n w [] le placed = tt
placed_weaker m n w (part ∷ parts) le placed = let a = placed.0 in (omega arith, placed.1, placed.2, placed.3)

without_placed : (n w : ℕ) (gone : ℕ → ℕ) (parts : List Part) → ArePlaced n w parts → ArePlaced n w (without_words gone parts)
without_placed n w gone [] placed = tt
without_placed n w gone (part ∷ parts) placed = by (is_some_part (part_without gone part)) (without_placed (suc part.place) w gone parts placed.3)
  where
    by : (b : Bool) → ArePlaced (suc part.place) w (without_words gone parts) → ArePlaced n w (cond b (part_without gone part ∷ without_words gone parts) (without_words gone parts))
    by true ih = let s = and_le_l part.word (bit_not w64 (gone part.place)) in let t = placed.2 in (placed.0, placed.1, omega arith, ih)
    by false ih = placed_weaker n (suc part.place) w (without_words gone parts) (let a = placed.0 in omega arith) ih

module _ (gone : ℕ → ℕ) (small : (v : ℕ) → gone v < 2 ^ 64) (k : ℕ) where
  in_part_without : (part : Part) → in_part k (part_without gone part) ≡ (in_part k part && not (in_word (gone (k / 64)) (k % 64)))
  in_part_without part = by (cases_eq part.place (k / 64))
    where
      by : (part.place ≡ k / 64) ⊎ (part.place ≡ k / 64 → ⊥) → in_part k (part_without gone part) ≡ (in_part k part && not (in_word (gone (k / 64)) (k % 64)))
      by (inl e) =
          rw (eq-eqb part.place (k / 64) e)
          (in_word_and part.word (bit_not w64 (gone part.place)) (k % 64)
          ∙ ap (λ b. in_word part.word (k % 64) && b) (in_word_not (gone part.place) (k % 64) (small part.place) (omega arith) ∙ rw e refl))
      by (inr d) = rw (ne_eqb part.place (k / 64) d) refl

  no_part : (part : Part) → is_some_part part ≡ false → in_part k part ≡ false
  no_part part e = and_right (part.place == k / 64) (in_word part.word (k % 64)) (by (part.word == 0) refl)
    where
      by : (b : Bool) → (part.word == 0) ≡ b → in_word part.word (k % 64) ≡ false
      by true t = ap (λ w. in_word w (k % 64)) (eqb-true part.word 0 t) ∙ has_no_bit (k % 64)
      by false t = absurd (both_ways (not (part.word == 0)) e (ap not t))

  split : (a b n : Bool) → ((a || b) && n) ≡ ((a && n) || (b && n))
  split true b true = refl
  split true b false = sym (and_right b false refl)
  split false b n = refl

  without_are : (parts : List Part) → in_parts (without_words gone parts) k ≡ (in_parts parts k && not (in_word (gone (k / 64)) (k % 64)))
  without_are [] = refl
  without_are (part ∷ parts) = by (is_some_part (part_without gone part)) refl (without_are parts)
    where
      by : (b : Bool) → is_some_part (part_without gone part) ≡ b → in_parts (without_words gone parts) k ≡ (in_parts parts k && not (in_word (gone (k / 64)) (k % 64)))
          → in_parts (cond b (part_without gone part ∷ without_words gone parts) (without_words gone parts)) k ≡ ((in_part k part || in_parts parts k) && not (in_word (gone (k / 64)) (k % 64)))
      by true e ih = ap₂ (λ x y. x || y) (in_part_without part) ih ∙ sym (split (in_part k part) (in_parts parts k) (not (in_word (gone (k / 64)) (k % 64))))
      by false e ih =
          ih ∙ sym (split (in_part k part) (in_parts parts k) (not (in_word (gone (k / 64)) (k % 64)))
          ∙ ap (λ x. x || (in_parts parts k && not (in_word (gone (k / 64)) (k % 64)))) (sym (in_part_without part) ∙ no_part (part_without gone part) e))

-- one part more
pub pass_more : (gone : ℕ → ℕ) (parts : List Part) (i : ℕ) (d : Part) → i < length parts → (before after : List Part) → before ≡ without_words gone (take i parts)
    → after ≡ before ++ filter is_some_part (part_without gone (get_or parts i d) ∷ []) → after ≡ without_words gone (take (i + 1) parts)
pass_more gone parts i d l before after e f =
    f ∙ ap (λ xs. xs ++ filter is_some_part (part_without gone (get_or parts i d) ∷ [])) e
    ∙ sym (ap (λ xs. without_words gone xs) (take_more parts i d l)
    ∙ ap (filter is_some_part) (map-append (part_without gone) (take i parts) (get_or parts i d ∷ []))
    ∙ filter-append is_some_part (map (part_without gone) (take i parts)) (part_without gone (get_or parts i d) ∷ []))

-- *six columns*

bit_one : (a b x : ℕ) → a < 2 → b < 2 → x ≡ max a b → (x == 1) ≡ ((a == 1) || (b == 1))
bit_one zero zero x l m e = let f : x ≡ 0 = omega arith in rw f refl
bit_one zero (suc zero) x l m e = let f : x ≡ 1 = omega arith in rw f refl
bit_one zero (suc (suc b)) x l m e = absurd (omega arith)
bit_one (suc zero) b x l m e = let f : x ≡ 1 = omega arith in rw f refl
bit_one (suc (suc a)) b x l m e = absurd (omega arith)

in_word_or : (a b i : ℕ) → in_word (bit_or a b) i ≡ (in_word a i || in_word b i)
in_word_or a b i = bit_one (bit_at a i) (bit_at b i) (bit_at (bit_or a b) i) (bit_at-lt a i) (bit_at-lt b i) (bit_at_or a b i)

-- the word of what one of six words has
abbrev pub one_of_six : ℕ → ℕ → ℕ → ℕ → ℕ → ℕ → ℕ
one_of_six a b c d e f = bit_or (bit_or (bit_or (bit_or (bit_or a b) c) d) e) f

in_six : (a b c d e f i : ℕ) → in_word (one_of_six a b c d e f) i
    ≡ (((((in_word a i || in_word b i) || in_word c i) || in_word d i) || in_word e i) || in_word f i)
in_six a b c d e f i =
    in_word_or (bit_or (bit_or (bit_or (bit_or a b) c) d) e) f i
    ∙ ap (λ x. x || in_word f i) (in_word_or (bit_or (bit_or (bit_or a b) c) d) e i
    ∙ ap (λ x. x || in_word e i) (in_word_or (bit_or (bit_or a b) c) d i
    ∙ ap (λ x. x || in_word d i) (in_word_or (bit_or a b) c i
    ∙ ap (λ x. x || in_word c i) (in_word_or a b i))))

small_six : (a b c d e f : ℕ) → a < 2 ^ 64 → b < 2 ^ 64 → c < 2 ^ 64 → d < 2 ^ 64 → e < 2 ^ 64 → f < 2 ^ 64 → one_of_six a b c d e f < 2 ^ 64
small_six a b c d e f g h i j k l =
    or_lt 64 (bit_or (bit_or (bit_or (bit_or a b) c) d) e) f (or_lt 64 (bit_or (bit_or (bit_or a b) c) d) e (or_lt 64 (bit_or (bit_or a b) c) d (or_lt 64 (bit_or a b) c (or_lt 64 a b g h) i) j) k) l

-- whether a test passes one of up to six items, the first in place of those that aren't there
six_of : (ℕ → Bool) → List ℕ → Bool
six_of test items = ((((test (get_or items 0 (get_or items 0 0)) || test (get_or items 1 (get_or items 0 0))) || test (get_or items 2 (get_or items 0 0)))
    || test (get_or items 3 (get_or items 0 0))) || test (get_or items 4 (get_or items 0 0))) || test (get_or items 5 (get_or items 0 0))

joined : (a b c d e f : Bool) → (((((a || b) || c) || d) || e) || f) ≡ (a || (b || (c || (d || (e || (f || false))))))
joined true b c d e f = refl
joined false true c d e f = refl
joined false false true d e f = refl
joined false false false true e f = refl
joined false false false false true f = refl
joined false false false false false true = refl
joined false false false false false false = refl

six_any : (test : ℕ → Bool) (items : List ℕ) → 0 < length items → length items ≤ 6 → six_of test items ≡ list_any test items
unfolding six_of
six_any test [] some few = absurd (omega arith)
six_any test (p ∷ []) some few = joined (test p) (test p) (test p) (test p) (test p) (test p) ∙ by (test p)
  where
    by : (a : Bool) → (a || (a || (a || (a || (a || (a || false)))))) ≡ (a || false)
    by true = refl
    by false = refl
six_any test (p ∷ q ∷ []) some few = joined (test p) (test q) (test p) (test p) (test p) (test p) ∙ by (test p) (test q)
  where
    by : (a b : Bool) → (a || (b || (a || (a || (a || (a || false)))))) ≡ (a || (b || false))
    by true b = refl
    by false b = refl
six_any test (p ∷ q ∷ r ∷ []) some few = joined (test p) (test q) (test r) (test p) (test p) (test p) ∙ by (test p) (test q) (test r)
  where
    by : (a b c : Bool) → (a || (b || (c || (a || (a || (a || false)))))) ≡ (a || (b || (c || false)))
    by true b c = refl
    by false b c = refl
six_any test (p ∷ q ∷ r ∷ s ∷ []) some few = joined (test p) (test q) (test r) (test s) (test p) (test p) ∙ by (test p) (test q) (test r) (test s)
  where
    by : (a b c d : Bool) → (a || (b || (c || (d || (a || (a || false)))))) ≡ (a || (b || (c || (d || false))))
    by true b c d = refl
    by false b c d = refl
six_any test (p ∷ q ∷ r ∷ s ∷ t ∷ []) some few = joined (test p) (test q) (test r) (test s) (test t) (test p) ∙ by (test p) (test q) (test r) (test s) (test t)
  where
    by : (a b c d e : Bool) → (a || (b || (c || (d || (e || (a || false)))))) ≡ (a || (b || (c || (d || (e || false)))))
    by true b c d e = refl
    by false b c d e = refl
six_any test (p ∷ q ∷ r ∷ s ∷ t ∷ u ∷ []) some few = joined (test p) (test q) (test r) (test s) (test t) (test u)
six_any test (p ∷ q ∷ r ∷ s ∷ t ∷ u ∷ v ∷ items) some few = absurd (omega arith)

-- *the pass*

-- the word of the six columns at a place
abbrev pub six_words : List ℕ → List ℕ → List ℕ → List ℕ → List ℕ → List ℕ → ℕ → ℕ
six_words a b c d e f v = one_of_six (get_or a v 0) (get_or b v 0) (get_or c v 0) (get_or d v 0) (get_or e v 0) (get_or f v 0)

small_row : (rows : List ℕ) (words i : ℕ) → ((m : ℕ) → get_or rows m 0 < 2 ^ 64) → (v : ℕ) → get_or (row_at words i rows) v 0 < 2 ^ 64
small_row rows words i small v = by (cases_lt v words)
  where
    by : (v < words) ⊎ (words ≤ v) → get_or (row_at words i rows) v 0 < 2 ^ 64
    by (inl l) = rw (get_or-take words (drop (i * words) rows) v 0 l, get_or-drop (i * words) rows v 0) (small (i * words + v))
    by (inr l) = rw (get_or_past (row_at words i rows) v 0 (let e = length-take words (drop (i * words) rows) in omega arith)) (lit< tt)

module _ (words : ℕ) (columns items : List ℕ) (some : 0 < length items) (few : length items ≤ 6) (all : All (HasColumn words columns) items) where
  has_column : (j : ℕ) → HasColumn words columns (get_or items j (get_or items 0 0))
  has_column j = by (cases_lt j (length items))
    where
      by : (j < length items) ⊎ (length items ≤ j) → HasColumn words columns (get_or items j (get_or items 0 0))
      by (inl l) = all j (get_or items 0 0) l
      by (inr l) = subst (λ i. HasColumn words columns i) (sym (get_or_past items j (get_or items 0 0) l)) (all 0 0 some)

  module _ (k : ℕ) (l : k < 64 * words) where
    at_place : (j : ℕ) → in_word (get_or (column_at words columns items j) (k / 64) 0) (k % 64)
        ≡ in_row columns ((get_or items j (get_or items 0 0) - 1) * (64 * words) + k)
    at_place j = in_row_at columns words (get_or items j (get_or items 0 0) - 1) (has_column j).1 k l

    in_six_columns : in_word (six_words (column_at words columns items 0) (column_at words columns items 1) (column_at words columns items 2)
        (column_at words columns items 3) (column_at words columns items 4) (column_at words columns items 5) (k / 64)) (k % 64) ≡ in_columns words columns items k
    unfolding six_of
    in_six_columns =
        in_six (get_or (column_at words columns items 0) (k / 64) 0) (get_or (column_at words columns items 1) (k / 64) 0) (get_or (column_at words columns items 2) (k / 64) 0)
        (get_or (column_at words columns items 3) (k / 64) 0) (get_or (column_at words columns items 4) (k / 64) 0) (get_or (column_at words columns items 5) (k / 64) 0) (k % 64)
        ∙ ap₂ (λ x y. x || y) (ap₂ (λ x y. x || y) (ap₂ (λ x y. x || y) (ap₂ (λ x y. x || y) (ap₂ (λ x y. x || y) (at_place 0) (at_place 1)) (at_place 2)) (at_place 3)) (at_place 4)) (at_place 5)
        ∙ six_any (λ i. in_row columns ((i - 1) * (64 * words) + k)) items some few

  abbrev gone : ℕ → ℕ
  gone = six_words (column_at words columns items 0) (column_at words columns items 1) (column_at words columns items 2)
      (column_at words columns items 3) (column_at words columns items 4) (column_at words columns items 5)

  -- what the pass leaves
  pub pass_done : (small : (m : ℕ) → get_or columns m 0 < 2 ^ 64) → (a b c d e f : List ℕ)
      → a ≡ column_at words columns items 0 → b ≡ column_at words columns items 1 → c ≡ column_at words columns items 2
      → d ≡ column_at words columns items 3 → e ≡ column_at words columns items 4 → f ≡ column_at words columns items 5
      → (set next : List Part) → ArePlaced 0 words set → next ≡ without_words (six_words a b c d e f) set → IsWithout words columns items set next
  pass_done small a b c d e f p q r s t u set next placed is = rw (is, p, q, r, s, t, u) (record {
    placed = without_placed 0 words gone set placed;
    are = λ k l. without_are gone small_gone k set ∙ ap (λ x. in_parts set k && not x) (in_six_columns k l);
  })
    where
      small_at : (j v : ℕ) → get_or (column_at words columns items j) v 0 < 2 ^ 64
      small_at j v = small_row columns words (get_or items j (get_or items 0 0) - 1) small v

      small_gone : (v : ℕ) → gone v < 2 ^ 64
      small_gone v = small_six (get_or (column_at words columns items 0) v 0) (get_or (column_at words columns items 1) v 0) (get_or (column_at words columns items 2) v 0)
          (get_or (column_at words columns items 3) v 0) (get_or (column_at words columns items 4) v 0) (get_or (column_at words columns items 5) v 0)
          (small_at 0 v) (small_at 1 v) (small_at 2 v) (small_at 3 v) (small_at 4 v) (small_at 5 v)
