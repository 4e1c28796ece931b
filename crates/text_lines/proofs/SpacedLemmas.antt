-- When a line is its words with one space between two.
use Rattle.std.proofs.Common.{◌≡◌, ℕ, suc, ◌<◌, ◌==◌, List, [], ◌∷◌, ◌++◌, length, drop, get_or, Bool, true, false, not, ◌&&◌, ◌||◌, if◌then◌else◌, refl, sym, ◌∙◌, ap, arith, ◌≤◌, drop-cons}
use Rattle.std.specs.Prelude.{filter}
use Rattle.std.proofs.lemmas.Bool.{and_parts, and_from, not-true, eqb-true, or_right, both_ways}
use Rattle.std.proofs.lemmas.List.{drop_all}
use Rattle.std.specs.List.{onto_first, slice_split, list_all}
use Rattle.text_lines.specs.Lines.{words_of, is_blank, has_bytes}
use Rattle.text_lines.specs.Writing.{spaced}
use Rattle.text_lines.proofs.PlainLemmas.{words_have, is_of, is_inside}

-- *one space between two words*

-- a blank is one space after a word and before another; v says that a word has to come
abbrev pub gaps : Bool → List ℕ → Bool
gaps v [] = not v
gaps v (b ∷ bs) = if is_blank b then not v && (b == 32) && gaps true bs else gaps false bs

-- the parts of a line, the first of which may be empty, give it back
record Parts (v : Bool) (bs : List ℕ) : Type 0 where
  first : List ℕ
  others : List (List ℕ)
  parts : slice_split is_blank bs ≡ first ∷ others
  some : (v ≡ true → has_bytes first ≡ true)
  all : list_all has_bytes others ≡ true
  back : spaced (first ∷ others) ≡ bs

onto_spaced : (b : ℕ) (first : List ℕ) (others : List (List ℕ)) → spaced ((b ∷ first) ∷ others) ≡ b ∷ spaced (first ∷ others)
onto_spaced b first [] = refl
onto_spaced b first (part ∷ parts) = refl

parts_word : (v : Bool) (b : ℕ) (bs : List ℕ) → is_blank b ≡ false → Parts false bs → Parts v (b ∷ bs)
parts_word v b bs e p = record {
  first = b ∷ p.first;
  others = p.others;
  parts = rw e (ap (onto_first b) p.parts);
  some = λ _. refl;
  all = p.all;
  back = onto_spaced b p.first p.others ∙ ap (λ cs. b ∷ cs) p.back;
}

parts_gap : (b : ℕ) (bs : List ℕ) → is_blank b ≡ true → b ≡ 32 → Parts true bs → Parts false (b ∷ bs)
parts_gap b bs e space p = record {
  first = [];
  others = p.first ∷ p.others;
  parts = rw e (ap (λ parts. [] ∷ parts) p.parts);
  some = λ h. cc;
  all = and_from (has_bytes p.first) (list_all has_bytes p.others) (p.some refl) p.all;
  back = rw space (ap (λ cs. 32 ∷ cs) p.back);
}

from_gaps_step : (v w : Bool) (b : ℕ) (bs : List ℕ) → is_blank b ≡ w → (gaps true bs ≡ true → Parts true bs) → (gaps false bs ≡ true → Parts false bs) → (if w then not v && (b == 32) && gaps true bs else gaps false bs) ≡ true → Parts v (b ∷ bs)
from_gaps_step true true b bs e gap word h = cc
from_gaps_step false true b bs e gap word h =
    let p : ((b == 32) ≡ true) × (gaps true bs ≡ true) = and_parts _ _ h in
    parts_gap b bs e (eqb-true b 32 p.0) (gap p.1)
from_gaps_step v false b bs e gap word h = parts_word v b bs e (word h)

from_gaps : (v : Bool) (bs : List ℕ) → gaps v bs ≡ true → Parts v bs
from_gaps true [] h = cc
from_gaps false [] h = record { first = []; others = []; parts = refl; some = λ e. cc; all = refl; back = refl }
from_gaps v (b ∷ bs) h = from_gaps_step v (is_blank b) b bs refl (from_gaps true bs) (from_gaps false bs) h

all_kept : (parts : List (List ℕ)) → list_all has_bytes parts ≡ true → filter has_bytes parts ≡ parts
all_kept [] h = refl
all_kept (part ∷ parts) h =
    let e : (has_bytes part ≡ true) × (list_all has_bytes parts ≡ true) = and_parts _ _ h in
    rw (e.0) (ap (λ rest. part ∷ rest) (all_kept parts e.1))

spaced_from_parts : (bs : List ℕ) → Parts true bs → bs ≡ spaced (words_of bs)
spaced_from_parts bs p =
    let kept : filter has_bytes (p.first ∷ p.others) ≡ p.first ∷ p.others = all_kept (p.first ∷ p.others) (and_from (has_bytes p.first) (list_all has_bytes p.others) (p.some refl) p.all) in
    sym p.back ∙ ap spaced (sym kept ∙ ap (filter has_bytes) (sym p.parts))

-- words without blanks, spaced, have the gaps
abbrev is_any : ℕ → Bool
is_any b = true

abbrev is_unparted : List ℕ → Bool
is_unparted = is_of (is_inside is_any)

gaps_before : (w rest : List ℕ) → list_all (is_inside is_any) w ≡ true → gaps false (w ++ 32 ∷ rest) ≡ gaps true rest
gaps_before [] rest h = refl
gaps_before (b ∷ w) rest h =
    let e : (is_inside is_any b ≡ true) × (list_all (is_inside is_any) w ≡ true) = and_parts _ _ h in
    let n : is_blank b ≡ false = not-true (is_blank b) e.0 in
    rw n (gaps_before w rest e.1)

gaps_alone : (w : List ℕ) → list_all (is_inside is_any) w ≡ true → gaps false w ≡ true
gaps_alone [] h = refl
gaps_alone (b ∷ w) h =
    let e : (is_inside is_any b ≡ true) × (list_all (is_inside is_any) w ≡ true) = and_parts _ _ h in
    let n : is_blank b ≡ false = not-true (is_blank b) e.0 in
    rw n (gaps_alone w e.1)

gaps_first : (w rest : List ℕ) → is_unparted w ≡ true → gaps true (w ++ rest) ≡ gaps false (w ++ rest)
gaps_first [] rest h = cc
gaps_first (b ∷ w) rest h =
    let e : (is_inside is_any b ≡ true) × (list_all (is_inside is_any) w ≡ true) = and_parts _ _ h in
    let n : is_blank b ≡ false = not-true (is_blank b) e.0 in
    rw n refl

gaps_only : (w : List ℕ) → is_unparted w ≡ true → gaps true w ≡ gaps false w
gaps_only [] h = cc
gaps_only (b ∷ w) h =
    let e : (is_inside is_any b ≡ true) × (list_all (is_inside is_any) w ≡ true) = and_parts _ _ h in
    let n : is_blank b ≡ false = not-true (is_blank b) e.0 in
    rw n refl

spaced_gaps : (w : List ℕ) (words : List (List ℕ)) → list_all is_unparted (w ∷ words) ≡ true → gaps true (spaced (w ∷ words)) ≡ true
spaced_gaps w [] h =
    let e : (is_unparted w ≡ true) × (true ≡ true) = and_parts _ _ h in
    let f : (has_bytes w ≡ true) × (list_all (is_inside is_any) w ≡ true) = and_parts _ _ e.0 in
    gaps_only w e.0 ∙ gaps_alone w f.1
spaced_gaps w (v ∷ words) h =
    let e : (is_unparted w ≡ true) × (list_all is_unparted (v ∷ words) ≡ true) = and_parts _ _ h in
    let f : (has_bytes w ≡ true) × (list_all (is_inside is_any) w ≡ true) = and_parts _ _ e.0 in
    gaps_first w (32 ∷ spaced (v ∷ words)) e.0 ∙ gaps_before w (spaced (v ∷ words)) f.1 ∙ spaced_gaps v words e.1

all_any : (bs : List ℕ) → list_all is_any bs ≡ true
all_any [] = refl
all_any (b ∷ bs) = all_any bs

-- no bytes at all, or the gaps
abbrev pub has_gaps : List ℕ → Bool
has_gaps line = not (has_bytes line) || gaps true line

gaps_of : (line : List ℕ) (words : List (List ℕ)) → list_all is_unparted words ≡ true → line ≡ spaced words → has_gaps line ≡ true
gaps_of line [] h e = rw e refl
gaps_of line (w ∷ words) h e = rw e (or_right (not (has_bytes (spaced (w ∷ words)))) (gaps true (spaced (w ∷ words))) (spaced_gaps w words h))

pub spaced_from_gaps : (line : List ℕ) → has_gaps line ≡ true → line ≡ spaced (words_of line)
spaced_from_gaps [] h = refl
spaced_from_gaps (b ∷ bs) h = spaced_from_parts (b ∷ bs) (from_gaps true (b ∷ bs) h)

-- a line is its words with one space between two exactly where it has the gaps
pub gaps_from_spaced : (line : List ℕ) → line ≡ spaced (words_of line) → has_gaps line ≡ true
gaps_from_spaced line e = gaps_of line (words_of line) (words_have is_any line (all_any line)) e

-- *what a loop over the bytes finds*

no_gaps : (v : Bool) (b : ℕ) (bs : List ℕ) → is_blank b ≡ true → (v || not (b == 32)) ≡ true → gaps v (b ∷ bs) ≡ false
no_gaps true b bs blank h = rw blank refl
no_gaps false b bs blank h = let e : (b == 32) ≡ false = not-true (b == 32) h in rw (blank, e) refl

not_spaced : (line : List ℕ) → 0 < length line → gaps true line ≡ false → line ≡ spaced (words_of line) → ⊥
not_spaced [] some h e = absurd (omega arith)
not_spaced (b ∷ bs) some h e = both_ways (gaps true (b ∷ bs)) h (gaps_from_spaced (b ∷ bs) e)

-- a blank where none may stand
pub misplaced : (line : List ℕ) (v : Bool) (i : ℕ) → gaps v (drop i line) ≡ gaps true line → i < length line → is_blank (get_or line i 0) ≡ true → (v || not (get_or line i 0 == 32)) ≡ true → line ≡ spaced (words_of line) → ⊥
misplaced line v i so_far h blank wrong =
    let n : gaps v (drop i line) ≡ false = rw (drop-cons line i 0 h) (no_gaps v (get_or line i 0) (drop (suc i) line) blank wrong) in
    not_spaced line (omega arith) (sym so_far ∙ n)

true_gaps : (line : List ℕ) → 0 < length line → has_gaps line ≡ true → gaps true line ≡ true
true_gaps [] some h = absurd (omega arith)
true_gaps (b ∷ bs) some h = h

-- the end of a line that isn't empty
pub ends_spaced : (line : List ℕ) (v : Bool) (i : ℕ) → gaps v (drop i line) ≡ gaps true line → length line ≤ i → 0 < length line → (not v ≡ true → line ≡ spaced (words_of line)) × (line ≡ spaced (words_of line) → not v ≡ true)
ends_spaced line v i so_far past some =
    let e : not v ≡ gaps true line = rw (drop_all i line past) at so_far in
    (λ h. spaced_from_gaps line (or_right (not (has_bytes line)) (gaps true line) (sym e ∙ h)), λ h. e ∙ true_gaps line some (gaps_from_spaced line h))
