-- What the posted stretches count, tile by tile: where all tiles are closed, what is counted from the first mark to the end.
use Rattle.std.proofs.Common.{◌≡◌, ℕ, zero, suc, ◌+◌, ◌-◌, ◌*◌, ◌<◌, ◌≤◌, ◌⊎◌, ◌==◌, true, false, Option, Some, List, [], ◌∷◌, ◌++◌, length, slice_get}
use Rattle.std.proofs.Common.{drop, map, take, get_or, replicate, refl, sym, ap, subst, ap₂, ◌∙◌, inl, inr, arith}
use Rattle.std.specs.Prelude.{All}
use Rattle.std.specs.List.{sum_by}
use Rattle.std.proofs.Math.ListN.{set}
use Rattle.std.proofs.lemmas.Bool.Decides.{eqb_tells}
use Rattle.std.proofs.lemmas.List.{length-set, length-map, get_or-set_same, get_or-set_other, get_or_past, get_or-take, length-take-le}
use Rattle.std.proofs.lemmas.List.Sums.{sum_by-cons, sum_by_more}
use Rattle.shared_words.specs.Lists.{numbers}
use Rattle.cover_problem.specs.Problem.{ProblemValue}
use Rattle.x_steps.specs.StateValue.{StateValue}
use Rattle.x_steps.specs.Steps.{Fits}
use Rattle.x_steps.specs.Rank.{rank}
use Rattle.x_steps.specs.Run.{level_count, levels, states_between, steps_between}
use Rattle.x_steps.specs.Levels.{without_last_zeros, trimmed_levels}
use Rattle.cover_problem.proofs.NumberLemmas.{length-numbers}
use Rattle.x_steps.proofs.BetweenLemmas.{steps_between_self, steps_between_join, states_between_self, level_count_between, levels_at}
use Rattle.x_steps.proofs.BetweenLemmas.{counts_at}
use Rattle.x_steps.proofs.ZeroLemmas.{zeros_cut}
use Rattle.x_codes.specs.StateCode.{choice_of, later, path_of}
use Rattle.x_branches.specs.declared.branch.Branch.{Branch}
use Rattle.x_branches.specs.Branch.{end_of}
use Rattle.x_branches.specs.Cut.{CutPath}
use Rattle.x_branches.specs.Stretch.{StretchValue}
use Rattle.x_branches.proofs.PostingLemmas.{counts_fit}
use Rattle.lab_book.specs.Tile.{TileValue, IsTile, Join}
use Rattle.lab_book.specs.Tiling.{AreTiles, IsTiling}
use Rattle.lab_book.specs.Posted.{AllClosed, posted_count, posted_level, posted_levels, posted_steps, stretch_level, stretch_steps}
use Rattle.lab_book.proofs.TileLemmas.{at_place}
use Rattle.lab_book.proofs.PostedLemmas.{closed_is}

add-zero : (n : ℕ) → n + 0 ≡ n
add-zero n = omega arith

-- ---- a number that tells of two states, and adds up where stretches join

module _ (of : ProblemValue → StateValue → StateValue → ℕ) (none : (p : ProblemValue) (s : StateValue) → Fits p s → of p s s ≡ 0)
    (join : (p : ProblemValue) (s t u : StateValue) → Fits p s → Fits p t → Fits p u → rank p s ≤ rank p t → rank p t ≤ rank p u
    → of p s u ≡ of p s t + of p t u) where
  closed_sum : (p : ProblemValue) (lo : Option CutPath) (first : StateValue) (ts : List TileValue) (hi : Option CutPath)
      → AreTiles p lo first ts hi → AllClosed ts
      → sum_by (λ (t : TileValue). sum_by (λ (x : StretchValue). of x.problem x.from x.to) t.stretches) ts ≡ of p first (end_of hi)
  closed_sum =
      let told = λ (x : StretchValue). of x.problem x.from x.to in
      closed_is (λ (m n : ℕ). m + n) 0 add-zero of none join (sum_by told) refl (sum_by-cons told)
      (sum_by (λ (t : TileValue). sum_by told t.stretches)) refl (sum_by-cons (λ (t : TileValue). sum_by told t.stretches))

-- ---- steps

steps_join : (p : ProblemValue) (s t u : StateValue) → Fits p s → Fits p t → Fits p u → rank p s ≤ rank p t → rank p t ≤ rank p u
    → steps_between p s u ≡ steps_between p s t + steps_between p t u
steps_join p s t u f g h a b = let e = steps_between_join p s t u f g h a b in omega arith

pub closed_steps : (p : ProblemValue) (b : Branch) (first : StateValue) (ts : List TileValue) → IsTiling p b first ts → AllClosed ts
    → posted_steps ts ≡ steps_between p first (end_of b.hi)
closed_steps p b first ts t c = closed_sum steps_between steps_between_self steps_join p b.lo first ts b.hi t.tiles c

-- ---- levels

level_at : ℕ → ProblemValue → StateValue → StateValue → ℕ
level_at level p s t = level_count (states_between p s t) level

level_none : (level : ℕ) (p : ProblemValue) (s : StateValue) → Fits p s → level_at level p s s ≡ 0
unfolding level_at
level_none level p s f = ap (λ ss. level_count ss level) (states_between_self p s f)

level_join : (level : ℕ) (p : ProblemValue) (s t u : StateValue) → Fits p s → Fits p t → Fits p u → rank p s ≤ rank p t
    → rank p t ≤ rank p u → level_at level p s u ≡ level_at level p s t + level_at level p t u
unfolding level_at
level_join level p s t u f g h a b = level_count_between p s t u level f g h a b

closed_level : (p : ProblemValue) (b : Branch) (first : StateValue) (ts : List TileValue) → IsTiling p b first ts → AllClosed ts
    → (level : ℕ) → posted_level ts level ≡ level_count (states_between p first (end_of b.hi)) level
unfolding level_at
closed_level p b first ts t c level = closed_sum (level_at level) (level_none level) (level_join level) p b.lo first ts b.hi t.tiles c

pub closed_levels : (p : ProblemValue) (b : Branch) (first : StateValue) (ts : List TileValue) → IsTiling p b first ts → AllClosed ts
    → posted_levels p ts ≡ trimmed_levels p first (end_of b.hi)
unfolding trimmed_levels levels
closed_levels p b first ts t c = ap (λ (count : ℕ → ℕ). without_last_zeros (map count (numbers (length p.names + 1) 0)))
    (λ j level. closed_level p b first ts t c level j)

-- ---- totals by loops

-- a total for each level, with its count added
pub record AreAdded (old counts new : List ℕ) : Type 0 where
  pub long : length new ≡ length old
  pub sums : (level : ℕ) → get_or new level 0 ≡ get_or old level 0 + get_or counts level 0
  pub small : (level : ℕ) → get_or new level 0 ≤ get_or old level 0 + 4294967295

length-take-most : (i : ℕ) (xs : List ℕ) → length (take i xs) ≤ i
length-take-most zero xs = omega arith
length-take-most (suc i) [] = omega arith
length-take-most (suc i) (x ∷ xs) = let l = length-take-most i xs in omega arith

-- the total at a level is the old one until its count is added
added_here : (old counts new : List ℕ) (i : ℕ) → AreAdded old (take i counts) new → get_or new i 0 ≡ get_or old i 0
added_here old counts new i a =
    let s = a.sums i in
    let e : get_or (take i counts) i 0 ≡ 0 = get_or_past (take i counts) i 0 (let l = length-take-most i counts in l) in omega arith

-- past the numbers so far and at them
taken_before : (xs : List ℕ) (i k : ℕ) → (k ≡ i → ⊥) → i < length xs → get_or (take (i + 1) xs) k 0 ≡ get_or (take i xs) k 0
taken_before xs i k h l = let n : i + 1 ≡ suc i = omega arith in rw n (each xs i k h l)
  where
    each : (xs : List ℕ) (i k : ℕ) → (k ≡ i → ⊥) → i < length xs → get_or (take (suc i) xs) k 0 ≡ get_or (take i xs) k 0
    each [] i k h l = absurd (omega arith)
    each (x ∷ xs) zero zero h l = absurd (h refl)
    each (x ∷ xs) zero (suc k) h l = refl
    each (x ∷ xs) (suc i) zero h l = refl
    each (x ∷ xs) (suc i) (suc k) h l = each xs i k (λ e. h (ap suc e)) (omega arith)

taken_at : (xs : List ℕ) (i : ℕ) → i < length xs → get_or (take (i + 1) xs) i 0 ≡ get_or xs i 0
taken_at xs i l = get_or-take (i + 1) xs i 0 (omega arith)

added_more : (old counts new : List ℕ) (i : ℕ) → AreAdded old (take i counts) new → i < length counts → length counts ≤ length old
    → get_or counts i 0 ≤ 4294967295 → AreAdded old (take (i + 1) counts) (set new i (get_or new i 0 + get_or counts i 0))
added_more old counts new i a l m s = record {
  long = length-set new i (get_or new i 0 + get_or counts i 0) ∙ a.long;
  sums = λ level. sum_at level (eqb_tells level i);
  small = λ level. small_at level (eqb_tells level i);
}
  where
    here : get_or (set new i (get_or new i 0 + get_or counts i 0)) i 0 ≡ get_or old i 0 + get_or counts i 0
    here =
        let g = get_or-set_same new i (get_or new i 0 + get_or counts i 0) 0 (let n = a.long in omega arith) in
        let h = added_here old counts new i a in omega arith

    there : (level : ℕ) → (level ≡ i → ⊥) → get_or (set new i (get_or new i 0 + get_or counts i 0)) level 0 ≡ get_or new level 0
    there level h = get_or-set_other new i level (get_or new i 0 + get_or counts i 0) 0 h

    sum_at : (level : ℕ) → (((level == i) ≡ true) × (level ≡ i)) ⊎ (((level == i) ≡ false) × (level ≡ i → ⊥))
        → get_or (set new i (get_or new i 0 + get_or counts i 0)) level 0 ≡ get_or old level 0 + get_or (take (i + 1) counts) level 0
    sum_at level (inl e) = rw (e.1, taken_at counts i l) here
    sum_at level (inr e) = rw (there level e.1, taken_before counts i level e.1 l) (a.sums level)

    small_at : (level : ℕ) → (((level == i) ≡ true) × (level ≡ i)) ⊎ (((level == i) ≡ false) × (level ≡ i → ⊥))
        → get_or (set new i (get_or new i 0 + get_or counts i 0)) level 0 ≤ get_or old level 0 + 4294967295
    small_at level (inl e) = rw e.1 (let h = here in omega arith)
    small_at level (inr e) = rw (there level e.1) (a.small level)

-- a count that is read after so many others
read_at : (counts : List ℕ) (i n : ℕ) (rest : List ℕ) → drop i counts ≡ n ∷ rest
    → (i < length counts) × (get_or (map choice_of counts) i 0 ≡ choice_of n)
read_at [] zero n rest e = absurd (cc)
read_at [] (suc i) n rest e = absurd (cc)
read_at (m ∷ counts) zero n rest e = (omega arith, let h : m ≡ n = cc in ap choice_of h)
read_at (m ∷ counts) (suc i) n rest e = let r = read_at counts i n rest e in (let l = r.0 in omega arith, r.1)

read_on : (counts : List ℕ) (i n : ℕ) (rest : List ℕ) → drop i counts ≡ n ∷ rest → rest ≡ drop (i + 1) counts
read_on counts i n rest e = let k : i + 1 ≡ suc i = omega arith in rw k (each counts i e)
  where
    each : (counts : List ℕ) (i : ℕ) → drop i counts ≡ n ∷ rest → rest ≡ drop (suc i) counts
    each [] zero e = absurd (cc)
    each [] (suc i) e = absurd (cc)
    each (m ∷ counts) zero e = cc
    each (m ∷ counts) (suc i) e = each counts i e

-- all are read where none is left
read_whole : (counts : List ℕ) (i : ℕ) → drop i counts ≡ [] → take i (map choice_of counts) ≡ map choice_of counts
read_whole [] zero e = refl
read_whole [] (suc i) e = refl
read_whole (m ∷ counts) zero e = absurd (cc)
read_whole (m ∷ counts) (suc i) e = ap (λ ns. choice_of m ∷ ns) (read_whole counts i e)

added_next : (old counts new : List ℕ) (i n : ℕ) (rest : List ℕ) → drop i counts ≡ n ∷ rest
    → AreAdded old (take i (map choice_of counts)) new → length counts ≤ length old
    → AreAdded old (take (i + 1) (map choice_of counts)) (set new i (get_or new i 0 + choice_of n))
added_next old counts new i n rest e a l =
    let r = read_at counts i n rest e in
    let m = length-map counts choice_of in
    let w = r.0 in
    let small : choice_of n ≤ 4294967295 = omega arith in
    rw (← r.1) (added_more old (map choice_of counts) new i a (omega arith) (omega arith) (rw r.1 small))

-- ---- as many as the number before them says

pub told : List ℕ → List ℕ
told ns = take (get_or ns 0 0) (later ns)

pub told_is : (ns : List ℕ) → path_of ns ≡ map choice_of (told ns)
unfolding path_of told
told_is ns = refl

cut_next : (m : ℕ) (xs : List ℕ) (i n : ℕ) (rest : List ℕ) → i < m → drop i xs ≡ n ∷ rest → drop i (take m xs) ≡ n ∷ take (m - (i + 1)) rest
cut_next zero xs i n rest l e = absurd (omega arith)
cut_next (suc m) [] zero n rest l e = absurd (cc)
cut_next (suc m) [] (suc i) n rest l e = absurd (cc)
cut_next (suc m) (x ∷ xs) zero n rest l e =
    let h : x ≡ n = cc in let r : xs ≡ rest = cc in let k : m ≡ suc m - (0 + 1) = omega arith in (λ j. h j ∷ take (k j) (r j))
cut_next (suc m) (x ∷ xs) (suc i) n rest l e =
    let k : m - (i + 1) ≡ suc m - (suc i + 1) = omega arith in cut_next m xs i n rest (omega arith) e ∙ ap (λ o. n ∷ take o rest) k

cut_none : (m : ℕ) (xs : List ℕ) (i : ℕ) → drop i xs ≡ [] → drop i (take m xs) ≡ []
cut_none zero xs zero e = refl
cut_none zero xs (suc i) e = refl
cut_none (suc m) [] i e = e
cut_none (suc m) (x ∷ xs) zero e = absurd (cc)
cut_none (suc m) (x ∷ xs) (suc i) e = cut_none m xs i e

cut_all : (m : ℕ) (xs : List ℕ) → drop m (take m xs) ≡ []
cut_all zero xs = refl
cut_all (suc m) [] = refl
cut_all (suc m) (x ∷ xs) = cut_all m xs

-- what is added of the counts that a list tells, and what is left of them
pub record AreRead (ns : List ℕ) (old new : List ℕ) (level left : ℕ) (rest : List ℕ) : Type 0 where
  pub added : AreAdded old (take level (map choice_of (told ns))) new
  pub rest_is : rest ≡ drop level (later ns)
  pub left_is : left + level ≡ get_or ns 0 0

pub read_next : (ns old new : List ℕ) (level left n : ℕ) (row rest : List ℕ) → AreRead ns old new level left row → 0 < left → row ≡ n ∷ rest
    → length (path_of ns) ≤ length old → AreRead ns old (set new level (get_or new level 0 + choice_of n)) (level + 1) (left - 1) rest
unfolding told
read_next ns old new level left n row rest a l e f =
    let next = sym a.rest_is ∙ e in
    let m = ap length (told_is ns) in let k = length-map (told ns) choice_of in let s = a.left_is in
    record {
      added = added_next old (told ns) new level n _ (cut_next (get_or ns 0 0) (later ns) level n rest (omega arith) next) a.added (omega arith);
      rest_is = read_on (later ns) level n rest next;
      left_is = omega arith;
    }

-- there is a total for the next count
pub level_within : (ns old new : List ℕ) (level left n : ℕ) (row rest : List ℕ) → AreRead ns old new level left row → 0 < left → row ≡ n ∷ rest
    → length (path_of ns) ≤ length old → level < length new
unfolding told
level_within ns old new level left n row rest a l e f =
    let next = sym a.rest_is ∙ e in
    let m = ap length (told_is ns) in let k = length-map (told ns) choice_of in let s = a.left_is in
    let r = (read_at (told ns) level n _ (cut_next (get_or ns 0 0) (later ns) level n rest (omega arith) next)).0 in
    let w = a.added.long in omega arith

-- where none is left, all are read
all_told : (ns : List ℕ) (level left : ℕ) (row : List ℕ) → row ≡ drop level (later ns) → left + level ≡ get_or ns 0 0 → (left ≡ 0) ⊎ (row ≡ [])
    → take level (map choice_of (told ns)) ≡ path_of ns
unfolding told
all_told ns level left row r s d = read_whole (told ns) level (end d) ∙ sym (told_is ns)
  where
    end : (left ≡ 0) ⊎ (row ≡ []) → drop level (told ns) ≡ []
    end (inl z) = let k : level ≡ get_or ns 0 0 = omega arith in ap (λ i. drop i (told ns)) k ∙ cut_all (get_or ns 0 0) (later ns)
    end (inr z) = cut_none (get_or ns 0 0) (later ns) level (sym r ∙ z)

pub all_read : (ns old new : List ℕ) (level left : ℕ) (row : List ℕ) → AreRead ns old new level left row → (left ≡ 0) ⊎ (row ≡ [])
    → AreAdded old (path_of ns) new
all_read ns old new level left row a d =
    subst (λ (xs : List ℕ). AreAdded old xs new) (all_told ns level left row a.rest_is a.left_is d) a.added

zero_at : (n k : ℕ) → get_or (replicate {A = ℕ} n 0) k 0 ≡ 0
zero_at zero k = refl
zero_at (suc n) zero = refl
zero_at (suc n) (suc k) = zero_at n k

-- the counts of a stretch at each level
pub count_at : (p : ProblemValue) (s t : StateValue) (counts : List ℕ) (level : ℕ) → counts ≡ trimmed_levels p s t
    → level < length p.names + 1 → get_or counts level 0 ≡ level_count (states_between p s t) level
unfolding trimmed_levels
count_at p s t counts level e l =
    let z = zeros_cut (levels p s t) in
    sym (with_zeros counts z.0 level) ∙ ap (λ xs. get_or xs level 0) (ap (λ xs. xs ++ replicate z.0 0) e ∙ sym z.1)
    ∙ levels_at p s t level 0 (omega arith)
  where
    with_zeros : (xs : List ℕ) (n k : ℕ) → get_or (xs ++ replicate n 0) k 0 ≡ get_or xs k 0
    with_zeros [] n k = zero_at n k
    with_zeros (x ∷ xs) n zero = refl
    with_zeros (x ∷ xs) n (suc k) = with_zeros xs n k

-- ---- counts are taken away

-- what is taken of the counts that a list tells, and what is left of them
pub record AreTaken (ns : List ℕ) (old new : List ℕ) (level left : ℕ) (rest : List ℕ) : Type 0 where
  pub long : length new ≡ length old
  pub sums : (k : ℕ) → get_or new k 0 + get_or (take level (map choice_of (told ns))) k 0 ≡ get_or old k 0
  pub rest_is : rest ≡ drop level (later ns)
  pub left_is : left + level ≡ get_or ns 0 0

module _ (ns old new : List ℕ) (level left n : ℕ) (row rest : List ℕ) (a : AreTaken ns old new level left row) (some : 0 < left) (e : row ≡ n ∷ rest)
    (fit : length (path_of ns) ≤ length old) where
  next_is : drop level (told ns) ≡ n ∷ take (get_or ns 0 0 - (level + 1)) rest
  unfolding told
  next_is = let s = a.left_is in cut_next (get_or ns 0 0) (later ns) level n rest (omega arith) (sym a.rest_is ∙ e)

  -- there is a total for the next count
  pub taken_within : level < length new
  taken_within =
      let m = ap length (told_is ns) in let k = length-map (told ns) choice_of in
      let r = (read_at (told ns) level n _ next_is).0 in let w = a.long in omega arith

  -- and it has that much
  pub taken_some : ((k : ℕ) → get_or (path_of ns) k 0 ≤ get_or old k 0) → choice_of n ≤ get_or new level 0
  taken_some h =
      let r = read_at (told ns) level n _ next_is in
      let c = h level in let d = ap (λ xs. get_or xs level 0) (told_is ns) in
      let s = a.sums level in let z = none_yet in let q = r.1 in omega arith
    where
      none_yet : get_or (take level (map choice_of (told ns))) level 0 ≡ 0
      none_yet = get_or_past (take level (map choice_of (told ns))) level 0 (length-take-most level (map choice_of (told ns)))

  pub take_next : ((k : ℕ) → get_or (path_of ns) k 0 ≤ get_or old k 0)
      → AreTaken ns old (set new level (get_or new level 0 - choice_of n)) (level + 1) (left - 1) rest
  take_next h = record {
    long = length-set new level (get_or new level 0 - choice_of n) ∙ a.long;
    sums = λ k. sum_at k (eqb_tells k level);
    rest_is = read_on (later ns) level n rest (sym a.rest_is ∙ e);
    left_is = let s = a.left_is in omega arith;
  }
    where
      here : level < length (map choice_of (told ns))
      here = let k = length-map (told ns) choice_of in let r = (read_at (told ns) level n _ next_is).0 in omega arith

      sum_at : (k : ℕ) → (((k == level) ≡ true) × (k ≡ level)) ⊎ (((k == level) ≡ false) × (k ≡ level → ⊥))
          → get_or (set new level (get_or new level 0 - choice_of n)) k 0 + get_or (take (level + 1) (map choice_of (told ns))) k 0 ≡ get_or old k 0
      sum_at k (inl f) =
          let g = get_or-set_same new level (get_or new level 0 - choice_of n) 0 taken_within in
          let c = taken_at (map choice_of (told ns)) level here in let q = (read_at (told ns) level n _ next_is).1 in
          let s = a.sums level in let w = taken_some h in
          let z = get_or_past (take level (map choice_of (told ns))) level 0 (length-take-most level (map choice_of (told ns))) in
          rw f.1 (omega arith)
      sum_at k (inr f) =
          rw (get_or-set_other new level k (get_or new level 0 - choice_of n) 0 f.1, taken_before (map choice_of (told ns)) level k f.1 here)
          (a.sums k)

pub all_taken : (ns old new : List ℕ) (level left : ℕ) (row : List ℕ) → AreTaken ns old new level left row → (left ≡ 0) ⊎ (row ≡ [])
    → (k : ℕ) → get_or new k 0 + get_or (path_of ns) k 0 ≡ get_or old k 0
all_taken ns old new level left row a d k =
    ap (λ (xs : List ℕ). get_or new k 0 + get_or xs k 0) (sym (all_told ns level left row a.rest_is a.left_is d)) ∙ a.sums k

-- the stretches of a tile are the problem's
pub joined_levels : (p : ProblemValue) (t : TileValue) (n : ℕ) → IsTile p t → length p.names + 1 ≡ n
    → All (λ (x : StretchValue). length x.problem.names + 1 ≡ n) t.stretches
joined_levels p t n i e = each t.first t.stretches i.joins
  where
    each : (s : StateValue) (xs : List StretchValue) → Join p s xs → (k : ℕ) (d : StretchValue) → k < length xs
        → length (get_or xs k d).problem.names + 1 ≡ n
    each s [] j k d l = absurd (omega arith)
    each s (x ∷ xs) j zero d l = ap (λ (q : ProblemValue). length q.names + 1) j.0 ∙ e
    each s (x ∷ xs) j (suc k) d l = each x.to xs j.3 k d (omega arith)
