-- Places of two lists of tiles that correspond, and what a change there makes of both.
use Rattle.std.proofs.Common.{◌≡◌, ℕ, zero, suc, ◌<◌, ◌≤◌, Bool, true, false, not, Option, Some, List, [], ◌∷◌, ◌++◌, length, take}
use Rattle.std.proofs.Common.{drop, refl, sym, ap, ◌∙◌}
use Rattle.std.proofs.Common.{None, ◌+◌, ◌⊎◌, inl, inr, cond, subst, arith, get_or, position, lt-ltb}
use Rattle.std.specs.List.{position_or_len}
use Rattle.std.proofs.lemmas.Bool.{cases_lt}
use Rattle.std.proofs.lemmas.List.Quantifiers.{position-Some}
use Rattle.std.proofs.Math.ListN.{set}
use Rattle.std.proofs.lemmas.Bool.{false≢true}
use Rattle.std.proofs.lemmas.List.{get_or-set_same, length-set}
use Rattle.cover_problem.specs.Problem.{ProblemValue}
use Rattle.x_steps.specs.StateValue.{StateValue}
use Rattle.x_steps.specs.Rank.{rank}
use Rattle.x_branches.specs.declared.branch.Branch.{Branch}
use Rattle.x_branches.specs.Branch.{first_of, end_of}
use Rattle.x_branches.specs.Cut.{CutPath, cut_state}
use Rattle.x_branches.proofs.StageLemmas.{comes_rank}
use Rattle.lab_book.specs.Tile.{TileValue, IsTile, is_closed, is_waiting}
use Rattle.lab_book.specs.Tiling.{AreTiles, IsTiling, tile_at, no_tile}
use Rattle.lab_book.specs.Book.{first_waiting}
use Rattle.lab_book.proofs.TilingLemmas.{tile_in, tiling_set}
use Rattle.lab_book_laws.specs.AlikeBooks.{anonymous_tile, open_part}
use Rattle.lab_book_laws.specs.AlikeCalls.{Correspond}
use Rattle.lab_book_laws.proofs.FilterLemmas.{set_parts}
use Rattle.lab_book_laws.proofs.SeenLemmas.{NonePass, parts_same, none_before, seen_found, seen_rises, seen_append, seen_more, seen_less}
use Rattle.lab_book_laws.proofs.SeenLemmas.{seen_at, seen_with}
use Rattle.lab_book_laws.proofs.StatusLemmas.{is_open_tile, stands_seen, seen_stands, same_closed, waiting_seen, waiting_open}

-- ---- where tiles begin

module _ (p : ProblemValue) where
  here_up : (lo : Option CutPath) (t : TileValue) (hi : Option CutPath) → t.branch.lo ≡ lo → IsTile p t → t.branch.hi ≡ hi
      → rank p (first_of lo) < rank p (end_of hi)
  here_up lo t hi a i b =
      subst (λ (x : Option CutPath × Option CutPath). rank p (first_of x.0) < rank p (end_of x.1)) (λ j. (a j, b j))
      (comes_rank p (first_of t.branch.lo) (end_of t.branch.hi) i.begins.fits i.branch.order)

  low_up : (lo : Option CutPath) (first : StateValue) (ts : List TileValue) (hi : Option CutPath) (k : ℕ) → AreTiles p lo first ts hi
      → k < length ts → rank p (first_of lo) ≤ rank p (first_of (tile_at ts k).branch.lo)
  low_up lo first [] hi k a l = absurd a
  low_up lo first (t ∷ []) hi zero a l = let e = ap (λ (c : Option CutPath). rank p (first_of c)) a.0 in omega arith
  low_up lo first (t ∷ []) hi (suc k) a l = absurd (omega arith)
  low_up lo first (t ∷ u ∷ ts) hi zero a l = let e = ap (λ (c : Option CutPath). rank p (first_of c)) a.0 in omega arith
  low_up lo first (t ∷ u ∷ ts) hi (suc k) a l =
      let h = here_up lo t (Some a.3) a.0 a.2 a.4 in
      let r = low_up (Some a.3) (cut_state a.3.path) (u ∷ ts) hi k a.5 (omega arith) in omega arith

  -- a later tile begins later
  pub low_rises : (lo : Option CutPath) (first : StateValue) (ts : List TileValue) (hi : Option CutPath) (i k : ℕ)
      → AreTiles p lo first ts hi → i < k → k < length ts
      → rank p (first_of (tile_at ts i).branch.lo) < rank p (first_of (tile_at ts k).branch.lo)
  low_rises lo first [] hi i k a l m = absurd a
  low_rises lo first (t ∷ []) hi i k a l m = absurd (omega arith)
  low_rises lo first (t ∷ u ∷ ts) hi i zero a l m = absurd (omega arith)
  low_rises lo first (t ∷ u ∷ ts) hi zero (suc k) a l m =
      let e = ap (λ (c : Option CutPath). rank p (first_of c)) a.0 in
      let h = here_up lo t (Some a.3) a.0 a.2 a.4 in
      let r = low_up (Some a.3) (cut_state a.3.path) (u ∷ ts) hi k a.5 (omega arith) in omega arith
  low_rises lo first (t ∷ u ∷ ts) hi (suc i) (suc k) a l m =
      low_rises (Some a.3) (cut_state a.3.path) (u ∷ ts) hi i k a.5 (omega arith) (omega arith)

  -- so no two begin at the same cut
  pub one_cut : (lo : Option CutPath) (first : StateValue) (ts : List TileValue) (hi : Option CutPath) (i k : ℕ)
      → AreTiles p lo first ts hi → i < length ts → k < length ts → (tile_at ts i).branch.lo ≡ (tile_at ts k).branch.lo → i ≡ k
  one_cut lo first ts hi i k a l m e = by (cases_lt i k) (cases_lt k i)
    where
      same : rank p (first_of (tile_at ts i).branch.lo) ≡ rank p (first_of (tile_at ts k).branch.lo)
      same = ap (λ (c : Option CutPath). rank p (first_of c)) e

      by : (i < k) ⊎ (k ≤ i) → (k < i) ⊎ (i ≤ k) → i ≡ k
      by (inl u) v = let r = low_rises lo first ts hi i k a u m in let f = same in absurd (omega arith)
      by (inr u) (inl v) = let r = low_rises lo first ts hi k i a v l in let f = same in absurd (omega arith)
      by (inr u) (inr v) = omega arith

-- ---- what is seen of a tile

-- a tile that is seen as another one is a tile as that one is
pub tile_seen : (p : ProblemValue) (t u : TileValue) → anonymous_tile t ≡ anonymous_tile u → IsTile p t → IsTile p u
tile_seen p t u e i =
    let seen : IsTile p (anonymous_tile t) = record {
      branch = i.branch;
      begins = i.begins;
      joins = i.joins;
      within = i.within;
      stands = seen_stands t.status t (anonymous_tile t) refl refl refl i.stands;
    } in
    let other : IsTile p (anonymous_tile u) = subst (IsTile p) e seen in
    record {
      branch = other.branch;
      begins = other.begins;
      joins = other.joins;
      within = other.within;
      stands = stands_seen u.status (anonymous_tile u) u refl refl refl other.stands;
    }

-- ---- places that correspond

open_status : (b : Bool) → not b ≡ true → b ≡ false
open_status false e = refl
open_status true e = absurd (false≢true e)

-- of lists with the same open part, the first open tiles that pass a test are at places that correspond
pub places_meet : (test : TileValue → Bool) (ts us : List TileValue) (i j : ℕ) → open_part ts ≡ open_part us → i < length ts → j < length us
    → is_closed (tile_at ts i).status ≡ false → is_closed (tile_at us j).status ≡ false → test (anonymous_tile (tile_at ts i)) ≡ true
    → test (anonymous_tile (tile_at us j)) ≡ true → NonePass test (open_part (take i ts)) → NonePass test (open_part (take j us))
    → Correspond ts i us j
places_meet test ts us i j e l m o q a b n k =
    let parts =
    sym (seen_at is_open_tile anonymous_tile ts i no_tile l (ap not o))
    ∙ e
    ∙ seen_at is_open_tile anonymous_tile us j no_tile m (ap not q) in
    let same = parts_same test (open_part (take i ts)) (open_part (drop (suc i) ts)) (open_part (take j us)) (open_part (drop (suc j) us))
    (anonymous_tile (tile_at ts i)) (anonymous_tile (tile_at us j)) n k a b parts in
    record {
      within = l;
      also_within = m;
      not_closed = o;
      tile = same.1;
      before = same.0;
      behind = same.2;
    }

-- no open tile before a place passes a test
pub none_open_before : (test : TileValue → Bool) (ts : List TileValue) (i : ℕ)
    → ((k : ℕ) → k < i → k < length ts → is_closed (tile_at ts k).status ≡ false → test (anonymous_tile (tile_at ts k)) ≡ false)
    → NonePass test (open_part (take i ts))
none_open_before test ts i h =
    none_before is_open_tile anonymous_tile test ts i no_tile (λ k l m o. h k l m (open_status (is_closed (tile_at ts k).status) o))

pub open_append : (ts us : List TileValue) → open_part (ts ++ us) ≡ open_part ts ++ open_part us
open_append ts us = seen_append is_open_tile anonymous_tile ts us

-- one tile that is seen as the other
pub one_seen : (t u : TileValue) → anonymous_tile t ≡ anonymous_tile u → open_part (t ∷ []) ≡ open_part (u ∷ [])
one_seen t u e = by (is_closed t.status) refl
  where
    by : (b : Bool) → is_closed t.status ≡ b → open_part (t ∷ []) ≡ open_part (u ∷ [])
    by true h =
        seen_less is_open_tile anonymous_tile t [] (ap not h)
        ∙ sym (seen_less is_open_tile anonymous_tile u [] (ap not (sym (same_closed t u e) ∙ h)))
    by false h =
        seen_more is_open_tile anonymous_tile t [] (ap not h)
        ∙ ap (λ (v : TileValue). v ∷ []) e
        ∙ sym (seen_more is_open_tile anonymous_tile u [] (ap not (sym (same_closed t u e) ∙ h)))

-- ---- each open tile has its place

-- of a list with the same open part
pub corresponds : (ts us : List TileValue) (i : ℕ) → open_part ts ≡ open_part us → i < length ts → is_closed (tile_at ts i).status ≡ false
    → (j : ℕ) × Correspond ts i us j
corresponds ts us i e l o =
    let p = seen_found is_open_tile anonymous_tile us no_tile (open_part (take i ts)) (open_part (drop (suc i) ts))
    (anonymous_tile (tile_at ts i)) (sym e ∙ seen_at is_open_tile anonymous_tile ts i no_tile l (ap not o)) in (
      p.0,
      record {
        within = l;
        also_within = p.1;
        not_closed = o;
        tile = sym p.3;
        before = sym p.4;
        behind = sym p.5;
      },
    )

pub also_open : (ts us : List TileValue) (i j : ℕ) → Correspond ts i us j → is_closed (tile_at us j).status ≡ false
also_open ts us i j s = sym (same_closed (tile_at ts i) (tile_at us j) s.tile) ∙ s.not_closed

-- before two different open tiles stand different open parts
same_place : (ts : List TileValue) (i k : ℕ) → i < length ts → k < length ts → is_closed (tile_at ts i).status ≡ false
    → is_closed (tile_at ts k).status ≡ false → open_part (take i ts) ≡ open_part (take k ts) → i ≡ k
same_place ts i k l m o q e = by (cases_lt i k) (cases_lt k i)
  where
    by : (i < k) ⊎ (k ≤ i) → (k < i) ⊎ (i ≤ k) → i ≡ k
    by (inl u) v =
        let r = seen_rises is_open_tile anonymous_tile ts i k no_tile u m (ap not o) in
        let f = ap (λ (xs : List TileValue). length xs) e in absurd (omega arith)
    by (inr u) (inl v) =
        let r = seen_rises is_open_tile anonymous_tile ts k i no_tile v l (ap not q) in
        let f = ap (λ (xs : List TileValue). length xs) e in absurd (omega arith)
    by (inr u) (inr v) = omega arith

-- so a place corresponds to one alone, either way
pub one_place : (ts us : List TileValue) (i j k : ℕ) → Correspond ts i us j → Correspond ts i us k → j ≡ k
one_place ts us i j k s r =
    same_place us j k s.also_within r.also_within (also_open ts us i j s) (also_open ts us i k r) (sym s.before ∙ r.before)

pub one_origin : (ts us : List TileValue) (i k j : ℕ) → Correspond ts i us j → Correspond ts k us j → i ≡ k
one_origin ts us i k j s r = same_place ts i k s.within r.within s.not_closed r.not_closed (s.before ∙ sym r.before)

-- the open tile that begins at the same cut
pub cut_corresponds : (ts us : List TileValue) (i j : ℕ) (q : ProblemValue) (c : Branch) (more : StateValue) → open_part ts ≡ open_part us
    → IsTiling q c more us → i < length ts → j < length us → is_closed (tile_at ts i).status ≡ false
    → (tile_at ts i).branch.lo ≡ (tile_at us j).branch.lo → Correspond ts i us j
cut_corresponds ts us i j q c more e t l m o same =
    let r = corresponds ts us i e l o in
    let begins = ap (λ (u : TileValue). u.branch.lo) r.1.tile in
    subst (Correspond ts i us) (one_cut q c.lo more us c.hi r.0 j t.tiles r.1.also_within m (sym begins ∙ same)) r.1

-- ---- the first that passes a test

first_within : {X : Type 0} (p : X → Bool) (xs : List X) (k : ℕ) (d : X) → k < length xs → p (get_or xs k d) ≡ true
    → position_or_len p xs ≤ k
first_within p [] k d l h = absurd (omega arith)
first_within p (x ∷ xs) zero d l h =
    let e : cond {A = ℕ} (not (p x)) (1 + position_or_len p xs) 0 ≡ 0 =
    ap {B = ℕ} (λ (b : Bool). cond (not b) (1 + position_or_len p xs) 0) h in omega arith
first_within p (x ∷ xs) (suc k) d l h = by (p x) (first_within p xs k d (omega arith) h)
  where
    by : (b : Bool) → position_or_len p xs ≤ k → cond (not b) (1 + position_or_len p xs) 0 ≤ suc k
    by true m = omega arith
    by false m = omega arith

-- one that passes is found
is_found : {X : Type 0} (p : X → Bool) (xs : List X) (k : ℕ) (d : X) → k < length xs → p (get_or xs k d) ≡ true → position p xs ≡ None → ⊥
is_found p xs k d l h e =
    let w = first_within p xs k d l h in
    let t = lt-ltb (position_or_len p xs) (length xs) (omega arith) in
    let f : Some (position_or_len p xs) ≡ None = sym (ap (λ (b : Bool). cond b (Some (position_or_len p xs)) None) t) ∙ e in absurd (cc)

-- the places that are found correspond, or none is found
abbrev pub Meet : List TileValue → List TileValue → Option ℕ → Option ℕ → Type 0
Meet ts us None None = Unit {0}
Meet ts us (Some i) (Some j) = Correspond ts i us j
Meet ts us _ _ = ⊥

-- of a test that open tiles alone pass, whatever their ids and leases
module _ (test : TileValue → Bool) (same : (t : TileValue) → test (anonymous_tile t) ≡ test t)
    (open_alone : (t : TileValue) → test t ≡ true → is_closed t.status ≡ false) where
  -- a tile that passes in one list has its place in the other
  passes_too : (ts us : List TileValue) (i : ℕ) → open_part ts ≡ open_part us → position test ts ≡ Some i → position test us ≡ None → ⊥
  passes_too ts us i e g h =
      let s = position-Some test ts i no_tile g in
      let c = corresponds ts us i e s.0 (open_alone (tile_at ts i) s.1) in
      is_found test us c.0 no_tile c.1.also_within (sym (same (tile_at us c.0)) ∙ sym (ap test c.1.tile) ∙ same (tile_at ts i) ∙ s.1) h

  none_earlier : (ts : List TileValue) (i : ℕ) → ((k : ℕ) → k < i → test (tile_at ts k) ≡ false) → NonePass test (open_part (take i ts))
  none_earlier ts i h = none_open_before test ts i (λ k l m o. same (tile_at ts k) ∙ h k l)

  pub first_meet : (ts us : List TileValue) → open_part ts ≡ open_part us → Meet ts us (position test ts) (position test us)
  first_meet ts us e = by (position test ts) (position test us) refl refl
    where
      by : (m n : Option ℕ) → position test ts ≡ m → position test us ≡ n → Meet ts us m n
      by None None g h = tt
      by (Some i) (Some j) g h =
          let s = position-Some test ts i no_tile g in
          let r = position-Some test us j no_tile h in
          places_meet test ts us i j e s.0 r.0 (open_alone (tile_at ts i) s.1) (open_alone (tile_at us j) r.1) (same (tile_at ts i) ∙ s.1)
          (same (tile_at us j) ∙ r.1) (none_earlier ts i s.2) (none_earlier us j r.2)
      by (Some i) None g h = passes_too ts us i e g h
      by None (Some j) g h = passes_too us ts j (sym e) h g

pub waiting_meet : (ts us : List TileValue) → open_part ts ≡ open_part us → Meet ts us (first_waiting ts) (first_waiting us)
waiting_meet ts us e =
    first_meet (λ (t : TileValue). is_waiting t.status) (λ t. waiting_seen t.status) (λ t. waiting_open t.status) ts us e

-- ---- what a change there makes

module _ (ts us : List TileValue) (i j : ℕ) (s : Correspond ts i us j) where
  -- other tiles come there
  pub parts_put : (xs ys : List TileValue) → open_part xs ≡ open_part ys
      → open_part (take i ts ++ xs ++ drop (suc i) ts) ≡ open_part (take j us ++ ys ++ drop (suc j) us)
  parts_put xs ys e =
      seen_with is_open_tile anonymous_tile ts xs i
      ∙ (λ k. s.before k ++ e k ++ s.behind k)
      ∙ sym (seen_with is_open_tile anonymous_tile us ys j)

  pub set_alike : (t u : TileValue) → anonymous_tile t ≡ anonymous_tile u → open_part (set ts i t) ≡ open_part (set us j u)
  set_alike t u e =
      ap open_part (set_parts ts i t s.within)
      ∙ parts_put (t ∷ []) (u ∷ []) (one_seen t u e)
      ∙ sym (ap open_part (set_parts us j u s.also_within))

  -- and the other list is a tiling still where the one is
  pub set_tiling : (p q : ProblemValue) (b c : Branch) (first more : StateValue) (t u : TileValue) → p ≡ q
      → anonymous_tile t ≡ anonymous_tile u
      → IsTiling q c more us → u.id ≡ (tile_at us j).id → u.branch ≡ (tile_at us j).branch → u.first ≡ (tile_at us j).first
      → IsTiling p b first (set ts i t) → IsTiling q c more (set us j u)
  set_tiling p q b c first more t u is e k f g h a =
      let long = length-set ts i t in
      let l = s.within in
      let here : IsTile p t = subst (IsTile p) (get_or-set_same ts i t no_tile s.within)
      (tile_in p b.lo first (set ts i t) b.hi i a.tiles (omega arith)) in
      tiling_set q c more us j u k s.also_within f g h (λ _. tile_seen q t u e (subst (λ (r : ProblemValue). IsTile r t) is here))
