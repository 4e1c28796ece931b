-- Sets that are written, and those that stay.
use Rattle.std.proofs.Common.{◌≡◌, ℕ, ◌+◌, ◌-◌, ◌*◌, min, ◌<◌, ◌≤◌, ◌⊎◌, Bool, true, false, not, ◌&&◌, ◌||◌, List, [], ◌++◌, length, get_or, take, drop, set, refl, sym, ap, ap₂, subst, ◌∙◌, inl, inr, arith, le_refl, length-take, length-drop, length-append, length-set, take_all, All}
use Rattle.std.proofs.Math.Seq.{drop-append_seam}
use Rattle.std.proofs.lemmas.Bool.{cases_eq}
use Rattle.std.proofs.lemmas.Nat.{row_fits, mul-le}
use Rattle.std.proofs.lemmas.List.{drop-take, take-take, take-append-le, take-append-drop, drop-append-le, drop_all, get_or-drop, get_or-take, get_or-set_same, get_or-set_other}
use Rattle.std.proofs.lemmas.List.Folds.{list_any-append}
use Rattle.cover_bits.specs.declared.sets.Part.{Part}
use Rattle.cover_bits.specs.Parts.{in_row, in_parts, ArePlaced}
use Rattle.cover_bits.specs.Bits.{set_at, in_columns, IsWithout, IsNextSet}
use Rattle.cover_bits.proofs.BitLemmas.{and-yes}

-- *the sets that stay*

pub same_set : (words base d : ℕ) (a b : List Part) (m n : List ℕ) → take ((base + 1) * words) b ≡ take ((base + 1) * words) a → d ≤ base → get_or n d 0 ≡ get_or m d 0 → get_or m d 0 ≤ words
    → set_at words b n d ≡ set_at words a m d
same_set words base d a b m n same le e few =
    let k : ℕ = get_or m d 0 in
    let room : d * words + k ≤ (base + 1) * words = let r = row_fits d words (base + 1) words (omega arith) (le_refl words) in omega arith in
    ap (λ x. take x (drop (d * words) b)) e ∙ sym (drop-take (d * words) k b)
    ∙ ap (drop (d * words)) (sym (take-take (d * words + k) ((base + 1) * words) b room) ∙ ap (take (d * words + k)) same ∙ take-take (d * words + k) ((base + 1) * words) a room)
    ∙ drop-take (d * words) k a

-- the sets before a place are the same in the part before it
pub set_before : (words base depth : ℕ) (parts before : List Part) (counts : List ℕ) → base < depth → get_or counts base 0 ≤ words → before ≡ take (depth * words) parts
    → set_at words before counts base ≡ set_at words parts counts base
set_before words base depth parts before counts less few b =
    same_set words base base parts before counts counts
    (ap (take ((base + 1) * words)) b ∙ take-take ((base + 1) * words) (depth * words) parts (let m = mul-le (base + 1) words depth words (omega arith) (le_refl words) in omega arith))
    (le_refl base) refl few

pub set_few : (words base : ℕ) (parts set : List Part) (counts : List ℕ) → get_or counts base 0 ≤ words → set ≡ set_at words parts counts base → length set ≤ words
set_few words base parts set counts few e =
    let k : length (set_at words parts counts base) ≡ min (get_or counts base 0) (length (drop (base * words) parts)) = length-take (get_or counts base 0) (drop (base * words) parts) in
    let l : length set ≡ length (set_at words parts counts base) = ap (λ xs. length xs) e in
    omega arith

-- *a part of a list*

pub all_part : (P : ℕ → Type 0) (xs : List ℕ) (b d : ℕ) → d ≤ length xs → All P xs → All P (drop b (take d xs))
all_part P xs b d le all i e l =
    let n : length (drop b (take d xs)) ≡ length (take d xs) - b = length-drop b (take d xs) in
    let m : length (take d xs) ≡ min d (length xs) = length-take d xs in
    let here : get_or (drop b (take d xs)) i e ≡ get_or xs (b + i) e = get_or-drop b (take d xs) i e ∙ get_or-take d xs (b + i) e (omega arith) in
    subst P (sym here) (all (b + i) e (omega arith))

parts_join : (xs : List ℕ) (a b d : ℕ) → a ≤ b → b ≤ d → d ≤ length xs → drop a (take b xs) ++ drop b (take d xs) ≡ drop a (take d xs)
parts_join xs a b d le l m =
    let long : length (take b xs) ≡ min b (length xs) = length-take b xs in
    sym (drop-append-le a (take b xs) (drop b (take d xs)) (omega arith))
    ∙ ap (λ ys. drop a (ys ++ drop b (take d xs))) (sym (take-take b d xs l))
    ∙ ap (drop a) (take-append-drop b (take d xs))

-- *a set that is written*

pub next_written : (words base depth : ℕ) (columns items : List ℕ) (parts : List Part) (counts : List ℕ) (before next next2 parts2 : List Part) (kept : ℕ)
    → base < depth → depth < length counts → ((d : ℕ) → get_or counts d 0 ≤ words) → (depth + 1) * words ≤ length parts
    → before ≡ take (depth * words) parts → next ≡ drop (depth * words) parts → length next2 ≡ length next → parts2 ≡ before ++ next2 → kept ≤ words
    → IsWithout words columns items (set_at words before counts base) (take kept next2) → IsNextSet words base depth columns items parts parts2 counts (set counts depth kept)
next_written words base depth columns items parts counts before next next2 parts2 kept less space few room b n long e small w = rw e (record {
  parts_long = length-append before next2 ∙ ap (λ k. length before + k) (long ∙ ap (λ x. length x) n) ∙ whole;
  counts_long = length-set counts depth kept;
  few = λ d. few_at d (cases_eq d depth);
  set = subst (λ x. IsWithout words columns items x (set_at words (before ++ next2) (set counts depth kept) depth)) first
      (subst (λ x. IsWithout words columns items (set_at words before counts base) x) (sym second) w);
  counts_same = λ d l. get_or-set_other counts depth d kept 0 (λ q. omega arith);
  before = take-append-le ((base + 1) * words) before next2 (let f = front in omega arith) ∙ same;
})
  where
    front : (base + 1) * words ≤ length before
    front =
        let k : length (take (depth * words) parts) ≡ min (depth * words) (length parts) = length-take (depth * words) parts in
        let l : length before ≡ length (take (depth * words) parts) = ap (λ x. length x) b in
        let m = mul-le (base + 1) words depth words (omega arith) (le_refl words) in
        let r = mul-le depth words (depth + 1) words (omega arith) (le_refl words) in
        omega arith

    long_before : length before ≡ depth * words
    long_before =
        let k : length (take (depth * words) parts) ≡ min (depth * words) (length parts) = length-take (depth * words) parts in
        let l : length before ≡ length (take (depth * words) parts) = ap (λ x. length x) b in
        let r = mul-le depth words (depth + 1) words (omega arith) (le_refl words) in
        omega arith

    same : take ((base + 1) * words) before ≡ take ((base + 1) * words) parts
    same = ap (take ((base + 1) * words)) b ∙ take-take ((base + 1) * words) (depth * words) parts (let m = mul-le (base + 1) words depth words (omega arith) (le_refl words) in omega arith)

    whole : length before + length (drop (depth * words) parts) ≡ length parts
    whole = ap (λ x. length x + length (drop (depth * words) parts)) b ∙ sym (length-append (take (depth * words) parts) (drop (depth * words) parts)) ∙ ap (λ x. length x) (take-append-drop (depth * words) parts)

    first : set_at words before counts base ≡ set_at words parts counts base
    first = same_set words base base parts before counts counts same (le_refl base) refl (few base)

    second : set_at words (before ++ next2) (set counts depth kept) depth ≡ take kept next2
    second =
        ap₂ (λ x y. take x (drop y (before ++ next2))) (get_or-set_same counts depth kept 0 space) (sym long_before)
        ∙ ap (take kept) (drop-append_seam before next2)

    few_at : (d : ℕ) → (d ≡ depth) ⊎ (d ≡ depth → ⊥) → get_or (set counts depth kept) d 0 ≤ words
    few_at d (inl q) = rw (q, get_or-set_same counts depth kept 0 space) small
    few_at d (inr q) = rw (get_or-set_other counts depth d kept 0 q) (few d)

-- *sets that are written one after the other*

pub written_none : (words base : ℕ) (columns covered : List ℕ) (parts : List Part) (counts : List ℕ) → ((d : ℕ) → get_or counts d 0 ≤ words) → ArePlaced 0 words (set_at words parts counts base)
    → IsNextSet words base base columns (drop base (take base covered)) parts parts counts counts
written_none words base columns covered parts counts few placed =
    let short : length (take base covered) ≡ min base (length covered) = length-take base covered in
    let none : drop base (take base covered) ≡ [] = drop_all base (take base covered) (omega arith) in
    subst (λ xs. IsNextSet words base base columns xs parts parts counts counts) (sym none) (record {
      parts_long = refl;
      counts_long = refl;
      few = few;
      set = record { placed = placed; are = λ k l. sym (and-yes (in_parts (set_at words parts counts base) k)) };
      counts_same = λ d l. refl;
      before = refl;
    })

pub written_more : (words a b d : ℕ) (columns covered : List ℕ) (parts parts2 parts3 : List Part) (counts counts2 counts3 : List ℕ) → a ≤ b → b ≤ d → d ≤ length covered
    → IsNextSet words a b columns (drop a (take b covered)) parts parts2 counts counts2 → IsNextSet words b d columns (drop b (take d covered)) parts2 parts3 counts2 counts3
    → IsNextSet words a d columns (drop a (take d covered)) parts parts3 counts counts3
written_more words a b d columns covered parts parts2 parts3 counts counts2 counts3 le l m v w = record {
  parts_long = w.parts_long ∙ v.parts_long;
  counts_long = w.counts_long ∙ v.counts_long;
  few = w.few;
  set = record {
    placed = w.set.placed;
    are = λ k n.
        w.set.are k n ∙ ap (λ x. x && not (in_columns words columns (drop b (take d covered)) k)) (v.set.are k n)
        ∙ by (in_parts (set_at words parts counts a) k) (in_columns words columns (drop a (take b covered)) k) (in_columns words columns (drop b (take d covered)) k)
        ∙ ap (λ x. in_parts (set_at words parts counts a) k && not x)
        (sym (list_any-append (λ i. in_row columns ((i - 1) * (64 * words) + k)) (drop a (take b covered)) (drop b (take d covered))) ∙ ap (λ xs. in_columns words columns xs k) (parts_join covered a b d le l m));
  };
  counts_same = λ e n. w.counts_same e (omega arith) ∙ v.counts_same e n;
  before =
      sym (take-take ((a + 1) * words) ((b + 1) * words) parts3 room) ∙ ap (take ((a + 1) * words)) w.before
      ∙ take-take ((a + 1) * words) ((b + 1) * words) parts2 room ∙ v.before;
}
  where
    room : (a + 1) * words ≤ (b + 1) * words
    room = mul-le (a + 1) words (b + 1) words (omega arith) (le_refl words)

    by : (x y z : Bool) → ((x && not y) && not z) ≡ (x && not (y || z))
    by true true z = refl
    by true false z = refl
    by false y z = refl

pub written_done : (words a b : ℕ) (columns covered : List ℕ) (parts parts2 : List Part) (counts counts2 : List ℕ) → b ≤ length covered → length covered ≤ b
    → IsNextSet words a b columns (drop a (take b covered)) parts parts2 counts counts2 → IsNextSet words a (length covered) columns (drop a covered) parts parts2 counts counts2
written_done words a b columns covered parts parts2 counts counts2 l m w =
    let e : b ≡ length covered = omega arith in
    subst (λ d. IsNextSet words a d columns (drop a covered) parts parts2 counts counts2) e
    (subst (λ xs. IsNextSet words a b columns (drop a xs) parts parts2 counts counts2) (take_all b covered m) w)
