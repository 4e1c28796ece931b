-- The searched book: it is a tiling, and whatever a pool makes of an alike book is alike to it.
use Rattle.std.proofs.Common.{◌≡◌, ℕ, zero, suc, Bool, true, false, cond, not, Option, Some, List, [], ◌∷◌, ◌++◌, length, map, filter}
use Rattle.std.proofs.Common.{refl, sym, ap, ◌∙◌}
use Rattle.std.proofs.Common.{subst, arith}
use Rattle.std.proofs.lemmas.List.{length-map}
use Rattle.std.proofs.lemmas.List.Elements.{All-nil, All-cons}
use Rattle.cover_problem.specs.Problem.{ProblemValue}
use Rattle.x_steps.specs.StateValue.{StateValue}
use Rattle.x_branches.specs.Cut.{CutPath, cut_state}
use Rattle.x_branches.specs.Stretch.{StretchValue, IsStretch}
use Rattle.lab_book.specs.declared.status.Status.{Status}
use Rattle.lab_book.specs.declared.status.Status.TheVariants.{Waiting, Held, Leased, Closed}
use Rattle.lab_book.specs.Tile.{TileValue, IsTile, Join, led_to, is_closed, is_waiting, is_held, is_leased, mark_of, tile_end}
use Rattle.lab_book.specs.Tiling.{AreTiles, IsTiling, tile_at}
use Rattle.lab_book.specs.Book.{BookValue, leased_in, posted_tile, closed}
use Rattle.lab_book.specs.Posted.{AllClosed}
use Rattle.lab_book.proofs.PostedLemmas.{first_closed, rest_closed}
use Rattle.lab_book.proofs.TileLemmas.{mark_push, end_fits, stretch_by}
use Rattle.lab_book_laws.specs.AlikeBooks.{anonymous_tile, open_tiles, held_tiles, AreAlikeBooks}
use Rattle.lab_book_laws.specs.Searched.{searched_tile, searched, IsSearched}
use Rattle.lab_book_laws.proofs.FilterLemmas.{kept, left_out, count_none}
use Rattle.lab_book_laws.proofs.StatusLemmas.{is_open_tile, is_held_tile, held_seen, held_open, waiting_not_held, else_closed}
use Rattle.lab_book_laws.proofs.CountLemmas.{of_open}

-- ---- what is left open

module _ (p : ProblemValue) where
  abbrev finished : TileValue → TileValue
  finished t = closed (posted_tile t (record { problem = p; from = mark_of t; to = tile_end t }))

  is_finished : (t : TileValue) → is_waiting t.status ≡ true → searched_tile p t ≡ finished t
  is_finished t e = ap (λ (b : Bool). cond b (finished t) t) e

  is_same : (t : TileValue) → is_waiting t.status ≡ false → searched_tile p t ≡ t
  is_same t e = ap (λ (b : Bool). cond b (finished t) t) e

  pub searched_open : (ts : List TileValue) → leased_in ts ≡ 0 → open_tiles (map (searched_tile p) ts) ≡ held_tiles ts
  searched_open [] n = refl
  searched_open (t ∷ ts) n =
      let m = count_none (λ (u : TileValue). is_leased u.status) t ts n in
      by (is_waiting t.status) (is_held_tile t) refl refl m.0 (searched_open ts m.1)
    where
      by : (b c : Bool) → is_waiting t.status ≡ b → is_held_tile t ≡ c → is_leased t.status ≡ false
          → open_tiles (map (searched_tile p) ts) ≡ held_tiles ts
          → open_tiles (map (searched_tile p) (t ∷ ts)) ≡ filter is_held_tile (t ∷ ts)
      by true c e f l r =
          ap (λ (u : TileValue). open_tiles (u ∷ map (searched_tile p) ts)) (is_finished t e)
          ∙ r
          ∙ sym (left_out is_held_tile t ts (waiting_not_held t.status e))
      by false true e f l r =
          ap (λ (u : TileValue). open_tiles (u ∷ map (searched_tile p) ts)) (is_same t e)
          ∙ kept is_open_tile t (map (searched_tile p) ts) (held_open t.status f)
          ∙ ap (λ (us : List TileValue). t ∷ us) r
          ∙ sym (kept is_held_tile t ts f)
      by false false e f l r =
          ap (λ (u : TileValue). open_tiles (u ∷ map (searched_tile p) ts)) (is_same t e)
          ∙ left_out is_open_tile t (map (searched_tile p) ts) (else_closed t.status e f l)
          ∙ r
          ∙ sym (left_out is_held_tile t ts f)

-- what a pool makes of one book is alike to the other, searched
pub pool_alike : (a b new : BookValue) → AreAlikeBooks a b → leased_in b.tiles ≡ 0 → IsSearched a new → AreAlikeBooks new (searched b)
pool_alike a b new k n s = record {
  problem = s.problem ∙ k.problem;
  branch = s.branch ∙ k.branch;
  first = s.first ∙ k.first;
  tiles =
      ap (map anonymous_tile) s.tiles
      ∙ of_open (λ (s : Status). is_held s) held_seen held_open a.tiles
      ∙ ap (filter is_held_tile) k.tiles
      ∙ sym (of_open (λ (s : Status). is_held s) held_seen held_open b.tiles)
      ∙ sym (ap (map anonymous_tile) (searched_open b.problem b.tiles n));
}

-- ---- a finished book

pub none_open : (ts : List TileValue) → AllClosed ts → open_tiles ts ≡ []
none_open [] a = refl
none_open (t ∷ ts) a =
    left_out is_open_tile t ts (ap (λ (s : Status). not (is_closed s)) (first_closed t ts a)) ∙ none_open ts (rest_closed t ts a)

-- and where none is open, all are closed
pub all_closed : (ts : List TileValue) → open_tiles ts ≡ [] → AllClosed ts
all_closed [] n = All-nil (λ (t : TileValue). t.status ≡ Closed)
all_closed (t ∷ ts) n = by t.status refl n (all_closed ts)
  where
    by : (s : Status) → t.status ≡ s → cond (not (is_closed s)) (t ∷ open_tiles ts) (open_tiles ts) ≡ [] → (open_tiles ts ≡ [] → AllClosed ts)
        → AllClosed (t ∷ ts)
    by Waiting e m r = absurd (cc)
    by Held e m r = absurd (cc)
    by (Leased w i) e m r = absurd (cc)
    by Closed e m r = All-cons (λ (u : TileValue). u.status ≡ Closed) t ts e (r m)

-- where no tile was held
pub finished_is_searched : (old new : BookValue) → new.problem ≡ old.problem → new.branch ≡ old.branch → new.first ≡ old.first
    → AllClosed new.tiles → held_tiles old.tiles ≡ [] → IsSearched old new
finished_is_searched old new p b f a n = record { problem = p; branch = b; first = f; tiles = none_open new.tiles a ∙ sym n }

-- ---- the searched book is a tiling

tail_join : (p : ProblemValue) (s : StateValue) (xs : List StretchValue) (e : StateValue) → Join p s xs → IsStretch p (led_to s xs) e
    → Join p s (xs ++ record { problem = p; from = led_to s xs; to = e } ∷ [])
tail_join p s [] e j h = (refl, refl, h, tt)
tail_join p s (x ∷ xs) e j h = (j.0, j.1, j.2, tail_join p x.to xs e j.3 h)

module _ (p : ProblemValue) where
  finished_is_tile : (t : TileValue) → IsTile p t → IsTile p (finished p t)
  finished_is_tile t i =
      let last = end_fits p (mark_of t) (tile_end t) i.within in
      let here : mark_of (finished p t) ≡ tile_end t =
      mark_push t.first t.stretches (record { problem = p; from = mark_of t; to = tile_end t }) in
      record {
        branch = i.branch;
        begins = i.begins;
        joins = tail_join p t.first t.stretches (tile_end t) i.joins i.within;
        within = subst (λ (s : StateValue). IsStretch p s (tile_end t)) (sym here)
            (stretch_by p (tile_end t) (tile_end t) last last (omega arith));
        stands = here;
      }

  searched_is_tile : (t : TileValue) → IsTile p t → IsTile p (searched_tile p t)
  searched_is_tile t i = by (is_waiting t.status) refl
    where
      by : (b : Bool) → is_waiting t.status ≡ b → IsTile p (searched_tile p t)
      by true e = subst (IsTile p) (sym (is_finished p t e)) (finished_is_tile t i)
      by false e = subst (IsTile p) (sym (is_same p t e)) i

  -- what is the same of both
  keeps : {X : Type 0} (part : TileValue → X) (t : TileValue) → part (finished p t) ≡ part t → part (searched_tile p t) ≡ part t
  keeps part t e = by (is_waiting t.status)
    where
      by : (b : Bool) → part (cond b (finished p t) t) ≡ part t
      by true = e
      by false = refl

  searched_tiles : (lo : Option CutPath) (first : StateValue) (ts : List TileValue) (hi : Option CutPath) → AreTiles p lo first ts hi
      → AreTiles p lo first (map (searched_tile p) ts) hi
  searched_tiles lo first [] hi a = absurd a
  searched_tiles lo first (t ∷ []) hi a = (
    keeps (λ (x : TileValue). x.branch.lo) t refl ∙ a.0,
    keeps (λ (x : TileValue). x.first) t refl ∙ a.1,
    searched_is_tile t a.2,
    keeps (λ (x : TileValue). x.branch.hi) t refl ∙ a.3,
  )
  searched_tiles lo first (t ∷ u ∷ ts) hi a = (
    keeps (λ (x : TileValue). x.branch.lo) t refl ∙ a.0,
    keeps (λ (x : TileValue). x.first) t refl ∙ a.1,
    searched_is_tile t a.2,
    a.3,
    keeps (λ (x : TileValue). x.branch.hi) t refl ∙ a.4,
    searched_tiles (Some a.3) (cut_state a.3.path) (u ∷ ts) hi a.5,
  )

pub searched_tiling : (b : BookValue) → IsTiling b.problem b.branch b.first b.tiles
    → IsTiling (searched b).problem (searched b).branch (searched b).first (searched b).tiles
searched_tiling b t = record {
  tiles = searched_tiles b.problem b.branch.lo b.first b.tiles b.branch.hi t.tiles;
  numbered = record {
    below = λ i l. rw (same i, long) (t.numbered.below i (let m = long in omega arith));
    once = λ i j l m e. t.numbered.once i j (let n = long in omega arith) (let n = long in omega arith) (sym (same i) ∙ e ∙ same j);
  };
}
  where
    long : length (map (searched_tile b.problem) b.tiles) ≡ length b.tiles
    long = length-map b.tiles (searched_tile b.problem)

    same : (i : ℕ) → (tile_at (map (searched_tile b.problem) b.tiles) i).id ≡ (tile_at b.tiles i).id
    same i = each b.tiles i
      where
        each : (ts : List TileValue) (i : ℕ) → (tile_at (map (searched_tile b.problem) ts) i).id ≡ (tile_at ts i).id
        each [] i = refl
        each (u ∷ ts) zero = keeps b.problem (λ (x : TileValue). x.id) u refl
        each (u ∷ ts) (suc i) = each ts i
