-- A pool's calls leave the held tiles of a book as they are, where none that is leased is asked to stop.
use Rattle.std.proofs.Common.{◌≡◌, ℕ, suc, ◌+◌, ◌<◌, ◌==◌, ◌&&◌, not, Bool, true, false, cond, Option, Some, None, List, [], ◌∷◌, ◌++◌}
use Rattle.std.proofs.Common.{length, take, drop, filter, refl, sym, ap, ap₂, ◌∙◌, arith}
use Rattle.std.proofs.Math.ListN.{set}
use Rattle.std.proofs.lemmas.Bool.{false≢true}
use Rattle.std.proofs.lemmas.List.Elements.{All-head, All-tail}
use Rattle.std.proofs.lemmas.List.Quantifiers.{position-Some}
use Rattle.x_branches.specs.Cut.{CutPath}
use Rattle.lab_book.specs.declared.status.Status.{Status}
use Rattle.lab_book.specs.declared.status.Status.TheVariants as status
use Rattle.lab_history.specs.declared.grant.Grant.{Grant}
use Rattle.lab_history.specs.declared.fault.BookFault.{BookFault}
use Rattle.lab_history.specs.declared.entry.Call.{Call}
use Rattle.lab_history.specs.declared.entry.Call.TheVariants as call
use Rattle.lab_history.specs.declared.entry.Entry.{Entry}
use Rattle.lab_book.specs.Tile.{TileValue, is_waiting, is_held, is_leased, is_closed, is_lease, freed_status}
use Rattle.lab_book.specs.Tiling.{tile_at, no_tile}
use Rattle.lab_book.specs.Book.{BookValue, Outcome, outcome, book_step, replayed, found, checked, unless, made_at, tile_place}
use Rattle.lab_book.specs.Book.{first_waiting, lent, lent_any, posted, split, retracted, settled, freed, closed, head_tile, tail_tile}
use Rattle.lab_book.specs.Book.{waiting_in, leased_in, status_fault, lease_fault, stretch_fault, cut_fault, retract_fault, end_fault}
use Rattle.lab_book.specs.Book.{else_fault}
use Rattle.lab_book_laws.specs.AlikeBooks.{open_tiles, held_tiles}
use Rattle.lab_book_laws.specs.Searched.{IsSearched, is_pool_call, ArePoolCalls}
use Rattle.lab_book_laws.proofs.FilterLemmas.{left_out, count_none, none_at, same_put, same_set}
use Rattle.lab_book_laws.proofs.StatusLemmas.{is_held_tile, waiting_not_held}

-- ---- the two tests

-- whether a tile is leased, and asked to stop
abbrev pub stopped : TileValue → Bool
stopped t = is_leased t.status && t.stop

-- what is true of tiles before and after a call
pub record Stays (ts us : List TileValue) : Type 0 where
  pub held_are : filter is_held_tile us ≡ filter is_held_tile ts
  pub none_stopped : filter stopped us ≡ []

module _ (ts : List TileValue) (quiet : filter stopped ts ≡ []) where
  nothing : Stays ts ts
  nothing = record { held_are = refl; none_stopped = quiet }

  set_stays : (i : ℕ) (u : TileValue) → i < length ts → is_held_tile (tile_at ts i) ≡ false → is_held_tile u ≡ false → stopped u ≡ false
      → Stays ts (set ts i u)
  set_stays i u l a b c = record {
    held_are = same_set is_held_tile ts i u no_tile l a b;
    none_stopped = same_set stopped ts i u no_tile l (none_at stopped ts i no_tile quiet l) c ∙ quiet;
  }

  put_stays : (i : ℕ) (h r : TileValue) → i < length ts → is_held_tile (tile_at ts i) ≡ false → is_held_tile h ≡ false
      → is_held_tile r ≡ false → stopped h ≡ false → stopped r ≡ false → Stays ts (take i ts ++ (h ∷ r ∷ []) ++ drop (i + 1) ts)
  put_stays i h r l a b c d e =
      let n : i + 1 ≡ suc i = omega arith in
      rw n (record {
        held_are = same_put is_held_tile ts (h ∷ r ∷ []) i no_tile l a (left_out is_held_tile h (r ∷ []) b ∙ left_out is_held_tile r [] c);
        none_stopped =
            same_put stopped ts (h ∷ r ∷ []) i no_tile l (none_at stopped ts i no_tile quiet l)
            (left_out stopped h (r ∷ []) d ∙ left_out stopped r [] e)
            ∙ quiet;
      })

-- ---- what is made at the place that is found

-- what is true of the tiles stays true, where it is true of what is made
pub made_leaves : (Holds : List TileValue → Type 0) (ts : List TileValue) → Holds ts → (change : ℕ → Outcome) (id : ℕ) (check : TileValue → Option BookFault)
    → ((i : ℕ) → i < length ts → check (tile_at ts i) ≡ None → Holds (change i).tiles)
    → Holds (made_at ts change (found ts id check)).tiles
made_leaves Holds ts here change id check h = by (tile_place id ts) refl
  where
    at : (i : ℕ) (d : Option BookFault) → (d ≡ None → Holds (change i).tiles) → Holds (made_at ts change (unless i d)).tiles
    at i None h = h refl
    at i (Some f) h = here

    by : (place : Option ℕ) → tile_place id ts ≡ place → Holds (made_at ts change (checked ts check place)).tiles
    by None e = here
    by (Some i) e =
        let s = position-Some (λ (t : TileValue). t.id == id) ts i no_tile e in at i (check (tile_at ts i)) (h i s.0)

-- ---- what a check tells

test_passed : (test : Bool) (f : BookFault) (next : Option BookFault) → else_fault test f next ≡ None → test ≡ true
test_passed true f next e = refl
test_passed false f next e = absurd (cc)

pub leased_is : (s : Status) (g : Grant) → is_lease s g ≡ true → (is_held s ≡ false) × (is_leased s ≡ true)
leased_is (status.Leased w i) g e = (refl, refl)
leased_is _ g e = absurd (false≢true e)

-- a leased tile isn't stopped: no stop was asked for
not_asked : (t : TileValue) → stopped t ≡ false → is_leased t.status ≡ true → t.stop ≡ false
not_asked t e l = sym (ap (λ (b : Bool). b && t.stop) l) ∙ e

freed_not_held : (b : Bool) → b ≡ false → is_held (freed_status b) ≡ false
freed_not_held true e = absurd (false≢true (sym e))
freed_not_held false e = refl

freed_not_stopped : (b c : Bool) → (is_leased (freed_status b) && c) ≡ false
freed_not_stopped true c = refl
freed_not_stopped false c = refl

-- ---- each call

module _ (b : BookValue) (w : ℕ) (quiet : filter stopped b.tiles ≡ []) where
  abbrev at : ℕ → TileValue
  at i = tile_at b.tiles i

  lent_stays : (i : ℕ) → i < length b.tiles → is_waiting (at i).status ≡ true → Stays b.tiles (lent b w i).tiles
  lent_stays i l e = set_stays b.tiles quiet i _ l (waiting_not_held (at i).status e) refl refl

  module _ (g : Grant) where
    own_stays : (i : ℕ) (u : TileValue) (next : Option BookFault) → i < length b.tiles → lease_fault g (at i) next ≡ None
        → (is_leased (at i).status ≡ true → (at i).stop ≡ false → (is_held_tile u ≡ false) × (stopped u ≡ false))
        → Stays b.tiles (set b.tiles i u)
    own_stays i u next l n h =
        let p = leased_is (at i).status g (test_passed _ _ _ n) in
        let q = h p.1 (not_asked (at i) (none_at stopped b.tiles i no_tile quiet l) p.1) in
        set_stays b.tiles quiet i u l p.0 q.0 q.1

    -- a change that leaves how the tile stands
    kept_stays : (i : ℕ) (u : TileValue) (next : Option BookFault) → i < length b.tiles → lease_fault g (at i) next ≡ None
        → u.status ≡ (at i).status → u.stop ≡ (at i).stop → Stays b.tiles (set b.tiles i u)
    kept_stays i u next l n e s =
        own_stays i u next l n (λ p q. (
          ap is_held e ∙ (leased_is (at i).status g (test_passed _ _ _ n)).0,
          ap₂ (λ (x : Status) (y : Bool). is_leased x && y) e s ∙ none_at stopped b.tiles i no_tile quiet l,
        ))

  pub call_stays : (c : Call) → is_pool_call c ≡ true → Stays b.tiles (outcome b w c).tiles
  unfolding outcome
  call_stays (call.Lease id) p = made_leaves (Stays b.tiles) b.tiles (nothing b.tiles quiet) (lent b w) id (λ (t : TileValue). status_fault (is_waiting t.status) t)
      (λ i l n. lent_stays i l (test_passed _ _ _ n))
  call_stays call.LeaseAny p = by (first_waiting b.tiles) refl
    where
      by : (r : Option ℕ) → first_waiting b.tiles ≡ r → Stays b.tiles (lent_any b w r).tiles
      by None e = nothing b.tiles quiet
      by (Some i) e = let s = position-Some (λ (t : TileValue). is_waiting t.status) b.tiles i no_tile e in lent_stays i s.0 s.1
  call_stays (call.Post g from to same) p =
      made_leaves (Stays b.tiles) b.tiles (nothing b.tiles quiet) (posted b from to) g.id (λ (t : TileValue). lease_fault g t (stretch_fault b.problem from to same t))
      (λ i l n. kept_stays g i _ _ l n refl refl)
  call_stays (call.Split g path same) p =
      let cut : CutPath = record { problem = b.problem; path = path } in
      made_leaves (Stays b.tiles) b.tiles (nothing b.tiles quiet) (split b path) g.id (λ (t : TileValue). lease_fault g t (cut_fault b.problem path same t))
      (λ i l n.
      let q = leased_is (at i).status g (test_passed _ _ _ n) in
      put_stays b.tiles quiet i (head_tile (at i) cut) (tail_tile (length b.tiles) (at i) cut) l q.0 q.0 refl
      (none_at stopped b.tiles i no_tile quiet l) refl)
  call_stays (call.Retract g) p =
      made_leaves (Stays b.tiles) b.tiles (nothing b.tiles quiet) (retracted b) g.id (λ (t : TileValue). lease_fault g t (retract_fault t))
      (λ i l n. kept_stays g i _ _ l n refl refl)
  call_stays (call.Park g) p =
      made_leaves (Stays b.tiles) b.tiles (nothing b.tiles quiet) (settled b freed) g.id (λ (t : TileValue). lease_fault g t None)
      (λ i l n. own_stays g i _ _ l n (λ q s. (freed_not_held (at i).stop s, freed_not_stopped (at i).stop (at i).stop)))
  call_stays (call.Abandon g) p =
      made_leaves (Stays b.tiles) b.tiles (nothing b.tiles quiet) (settled b freed) g.id (λ (t : TileValue). lease_fault g t None)
      (λ i l n. own_stays g i _ _ l n (λ q s. (freed_not_held (at i).stop s, freed_not_stopped (at i).stop (at i).stop)))
  call_stays (call.Close g) p =
      made_leaves (Stays b.tiles) b.tiles (nothing b.tiles quiet) (settled b closed) g.id (λ (t : TileValue). lease_fault g t (end_fault t))
      (λ i l n. own_stays g i _ _ l n (λ q s. (refl, refl)))
  call_stays _ p = absurd (false≢true p)

-- ---- all of a pool's calls

pub replay_stays : (b : BookValue) (es : List Entry) → ArePoolCalls es → filter stopped b.tiles ≡ []
    → held_tiles (replayed b es).tiles ≡ held_tiles b.tiles
replay_stays b [] a q = refl
replay_stays b (e ∷ es) a q =
    let s = call_stays b e.worker q e.call (All-head (λ (d : Entry). is_pool_call d.call ≡ true) e es a) in
    replay_stays (book_step b e.worker e.call) es (All-tail (λ (d : Entry). is_pool_call d.call ≡ true) e es a) s.none_stopped ∙ s.held_are

-- ---- a book of a pool's calls, at which no tile waits or is leased any more

-- where no tile is leased, none is stopped
none_stopped : (ts : List TileValue) → leased_in ts ≡ 0 → filter stopped ts ≡ []
none_stopped [] n = refl
none_stopped (t ∷ ts) n =
    let m = count_none (λ (u : TileValue). is_leased u.status) t ts n in
    left_out stopped t ts (ap (λ (b : Bool). b && t.stop) m.0) ∙ none_stopped ts m.1

-- where none waits or is leased, the open ones are the held ones
pub open_held : (ts : List TileValue) → waiting_in ts ≡ 0 → leased_in ts ≡ 0 → open_tiles ts ≡ held_tiles ts
open_held [] w n = refl
open_held (t ∷ ts) w n =
    let v = count_none (λ (u : TileValue). is_waiting u.status) t ts w in
    let m = count_none (λ (u : TileValue). is_leased u.status) t ts n in
    one t.status v.0 m.0 (open_held ts v.1 m.1)
  where
    one : (s : Status) → is_waiting s ≡ false → is_leased s ≡ false → open_tiles ts ≡ held_tiles ts
        → cond (not (is_closed s)) (t ∷ open_tiles ts) (open_tiles ts) ≡ cond (is_held s) (t ∷ held_tiles ts) (held_tiles ts)
    one status.Waiting e f r = absurd (false≢true (sym e))
    one status.Held e f r = ap (λ (xs : List TileValue). t ∷ xs) r
    one (status.Leased w i) e f r = absurd (false≢true (sym f))
    one status.Closed e f r = r

-- a replay is of the same branch of the same run
record IsOf (old new : BookValue) : Type 0 where
  problem : new.problem ≡ old.problem
  branch : new.branch ≡ old.branch
  first : new.first ≡ old.first

replay_of : (b : BookValue) (es : List Entry) → IsOf b (replayed b es)
replay_of b [] = record { problem = refl; branch = refl; first = refl }
replay_of b (e ∷ es) =
    let r = replay_of (book_step b e.worker e.call) es in record { problem = r.problem; branch = r.branch; first = r.first }

pub searched_by : (old : BookValue) (es : List Entry) → leased_in old.tiles ≡ 0 → ArePoolCalls es → waiting_in (replayed old es).tiles ≡ 0
    → leased_in (replayed old es).tiles ≡ 0 → IsSearched old (replayed old es)
searched_by old es n a w l =
    let o = replay_of old es in
    record {
      problem = o.problem;
      branch = o.branch;
      first = o.first;
      tiles = open_held (replayed old es).tiles w l ∙ replay_stays old es a (none_stopped old.tiles n);
    }
