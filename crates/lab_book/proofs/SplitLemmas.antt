-- A tile is split at a cut between its mark and its end: the tiles are a tiling still, and the book is what the call makes of it.
use Rattle.std.proofs.Common.{◌≡◌, ℕ, zero, suc, ◌+◌, ◌-◌, ◌<◌, Bool, true, false, Option, Some, None, List, [], ◌∷◌, ◌++◌, length, take}
use Rattle.std.proofs.Common.{drop, refl, sym, ap, ◌∙◌, subst, inr, arith, Ordering, Less}
use Rattle.std.specs.Prelude.{◌↔◌}
use Rattle.std.proofs.lemmas.Bool.{false≢true}
use Rattle.cover_problem.specs.Problem.{ProblemValue, is_same}
use Rattle.cover_problem.proofs.ProblemLemmas.{is_same_decides}
use Rattle.x_steps.specs.StateValue.{StateValue}
use Rattle.x_steps.specs.Steps.{Fits}
use Rattle.x_steps.specs.Rank.{rank}
use Rattle.x_branches.specs.declared.branch.Branch.{Branch}
use Rattle.x_branches.specs.Branch.{first_of}
use Rattle.x_branches.specs.Cut.{CutPath, IsCut, cut_state}
use Rattle.x_branches.specs.RunOrder.{ComesBefore, comes_before}
use Rattle.x_branches.proofs.CutLemmas.{cut_fits, test_is_order}
use Rattle.x_branches.proofs.StageLemmas.{comes_rank, rank_comes}
use Rattle.lab_book.specs.declared.status.Status.{Status}
use Rattle.lab_book.specs.declared.status.Status.TheVariants as status
use Rattle.lab_history.specs.declared.fault.BookFault.TheVariants.{NotAfterMark, BeyondEnd}
use Rattle.lab_history.specs.declared.entry.Call.{Call}
use Rattle.lab_history.specs.declared.entry.Reply.TheVariants as reply
use Rattle.lab_book.specs.Tile.{TileValue, IsTile, Stands, is_leased, mark_of, tile_end}
use Rattle.lab_book.specs.Tiling.{AreTiles, IsTiling, AreNumbered, tile_at}
use Rattle.lab_history.specs.History.{HistoryValue}
use Rattle.lab_book.specs.Book.{KeepsBook, outcome, head_tile, tail_tile, split_tiles, split, leased_in, cut_fault, else_fault}
use Rattle.lab_book.specs.Calls.{Doubted}
use Rattle.lab_book.proofs.TileLemmas.{stretch_by, end_fits, end_after, led_rank}
use Rattle.lab_book.proofs.TilingLemmas.{tile_in}
use Rattle.lab_book.proofs.InsertLemmas.{two_parts, count_two}
use Rattle.lab_book.proofs.BookLemmas.{kept_by}
use Rattle.lab_book.proofs.StepLemmas.{with_history, entries_are, room_is}

-- ---- the two tiles

-- what a cut that nothing stands against tells
fine_parts : (p : ProblemValue) (path : List ℕ) (t : TileValue) → cut_fault p path true t ≡ None
    → (comes_before p (mark_of t) (cut_state path) ≡ true) × (comes_before p (cut_state path) (tile_end t) ≡ true)
fine_parts p path t = by (comes_before p (mark_of t) (cut_state path)) (comes_before p (cut_state path) (tile_end t))
  where
    by : (a b : Bool) → else_fault a NotAfterMark (else_fault b BeyondEnd None) ≡ None → (a ≡ true) × (b ≡ true)
    by true true h = (refl, refl)
    by true false h = absurd (cc)
    by false b h = absurd (cc)

module _ (p : ProblemValue) (t : TileValue) (path : List ℕ) (id : ℕ) (i : IsTile p t) (leased : is_leased t.status ≡ true)
    (cut : IsCut p path) (fine : cut_fault p path true t ≡ None) where
  here : Fits p (cut_state path)
  here = cut_fits p path cut

  mark_fits : Fits p (mark_of t)
  mark_fits = i.within.fits

  last_fits : Fits p (tile_end t)
  last_fits = end_fits p (mark_of t) (tile_end t) i.within

  after_mark : ComesBefore p (mark_of t) (cut_state path)
  after_mark = (test_is_order p (mark_of t) (cut_state path) mark_fits here).0 (fine_parts p path t fine).0

  before_end : ComesBefore p (cut_state path) (tile_end t)
  before_end = (test_is_order p (cut_state path) (tile_end t) here last_fits).0 (fine_parts p path t fine).1

  mark_up : rank p (mark_of t) < rank p (cut_state path)
  mark_up = comes_rank p (mark_of t) (cut_state path) mark_fits after_mark

  end_up : rank p (cut_state path) < rank p (tile_end t)
  end_up = comes_rank p (cut_state path) (tile_end t) here before_end

  low_up : rank p (first_of t.branch.lo) < rank p (cut_state path)
  low_up =
      let a = end_after p (first_of t.branch.lo) t.first i.begins in
      let b = led_rank p t.first t.stretches i.joins (end_fits p (first_of t.branch.lo) t.first i.begins) in
      let c = mark_up in omega arith

  head_stands : Stands t.status (head_tile t (record { problem = p; path = path }))
  head_stands = stands t.status leased
    where
      stands : (s : Status) → is_leased s ≡ true → Stands s (head_tile t (record { problem = p; path = path }))
      stands status.Waiting e = absurd (false≢true e)
      stands status.Held e = absurd (false≢true e)
      stands (status.Leased w i) e = tt
      stands status.Closed e = absurd (false≢true e)

  pub head_is_tile : IsTile p (head_tile t (record { problem = p; path = path }))
  head_is_tile = record {
    branch = record {
      low = i.branch.low;
      high = refl;
      order = rank_comes p (first_of t.branch.lo) (cut_state path) i.begins.fits here low_up;
    };
    begins = i.begins;
    joins = i.joins;
    within = stretch_by p (mark_of t) (cut_state path) mark_fits here (let l = mark_up in omega arith);
    stands = head_stands;
  }

  pub tail_is_tile : IsTile p (tail_tile id t (record { problem = p; path = path }))
  tail_is_tile = record {
    branch = record { low = refl; high = i.branch.high; order = before_end };
    begins = stretch_by p (cut_state path) (cut_state path) here here (omega arith);
    joins = tt;
    within = stretch_by p (cut_state path) (tile_end t) here last_fits (let l = end_up in omega arith);
    stands = refl;
  }

-- ---- the tiling

-- a tile may be replaced by two that stand for it
pub tiles_split : (p : ProblemValue) (lo : Option CutPath) (first : StateValue) (ts : List TileValue) (hi : Option CutPath) (i id : ℕ)
    (cut : CutPath) → AreTiles p lo first ts hi → i < length ts
    → IsTile p (head_tile (tile_at ts i) cut) → IsTile p (tail_tile id (tile_at ts i) cut)
    → AreTiles p lo first (take i ts ++ split_tiles (tile_at ts i) id cut ++ drop (suc i) ts) hi
tiles_split p lo first [] hi i id cut a l h r = absurd a
tiles_split p lo first (t ∷ []) hi zero id cut a l h r = (a.0, a.1, h, cut, refl, (refl, refl, r, a.3))
tiles_split p lo first (t ∷ []) hi (suc i) id cut a l h r = absurd (omega arith)
tiles_split p lo first (t ∷ u ∷ ts) hi zero id cut a l h r = (a.0, a.1, h, cut, refl, (refl, refl, r, a.3, a.4, a.5))
tiles_split p lo first (t ∷ u ∷ ts) hi (suc zero) id cut a l h r =
    (a.0, a.1, a.2, a.3, a.4, tiles_split p (Some a.3) (cut_state a.3.path) (u ∷ ts) hi zero id cut a.5 (omega arith) h r)
tiles_split p lo first (t ∷ u ∷ ts) hi (suc (suc i)) id cut a l h r =
    (a.0, a.1, a.2, a.3, a.4, tiles_split p (Some a.3) (cut_state a.3.path) (u ∷ ts) hi (suc i) id cut a.5 (omega arith) h r)

-- ---- the book

module _ (p : ProblemValue) (b : Branch) (s : StateValue) (ts : List TileValue) (old mid new : HistoryValue)
    (keeps : KeepsBook (with_history p b s ts old.entries) old.kept) (w : ℕ) (c : Call) (i : ℕ) (within : i < length ts) where
  pub split_keeps : (cut : CutPath) (id : ℕ) (after : List TileValue)
      → outcome (with_history p b s ts old.entries) w c ≡ split (with_history p b s ts old.entries) cut.path i
      → is_leased (tile_at ts i).status ≡ true → cut.problem ≡ p → IsCut cut.problem cut.path
      → cut_fault p cut.path true (tile_at ts i) ≡ None
      → mid ≡ record old { kept = old.kept + 1 } → after ≡ take i ts ++ split_tiles (tile_at ts i) (length ts) cut ++ drop (i + 1) ts
      → AreNumbered after → id ≡ length ts
      → new ≡ record { entries = mid.entries ++ record { worker = w; call = c; reply = reply.Split id } ∷ []; kept = mid.kept - 1 }
      → KeepsBook (with_history p b s after new.entries) new.kept
  split_keeps cut id after o leased ep is fine k t numbered ei a =
      let room = room_is old mid new _ 1 k a (omega arith) in
      let m = keeps.room in
      let ec : cut ≡ record { problem = p; path = cut.path } = λ j. record { problem = ep j; path = cut.path } in
      let t2 : after ≡ take i ts ++ split_tiles (tile_at ts i) (length ts) (record { problem = p; path = cut.path }) ++ drop (i + 1) ts = t
      ∙ ap (λ (x : CutPath). take i ts ++ split_tiles (tile_at ts i) (length ts) x ++ drop (i + 1) ts) ec in
      let here = tile_in p b.lo s ts b.hi i keeps.sound.tiling.tiles within in
      let cut_is : IsCut p cut.path = subst (λ (q : ProblemValue). IsCut q cut.path) ep is in
      let head = head_is_tile p (tile_at ts i) cut.path (length ts) here leased cut_is fine in
      let tail = tail_is_tile p (tile_at ts i) cut.path (length ts) here leased cut_is fine in
      let n : i + 1 ≡ suc i = omega arith in
      let tiles : AreTiles p b.lo s (take i ts ++ split_tiles (tile_at ts i) (length ts) (record { problem = p; path = cut.path })
      ++ drop (i + 1) ts) b.hi =
      rw n (tiles_split p b.lo s ts b.hi i (length ts) (record { problem = p; path = cut.path }) keeps.sound.tiling.tiles within head tail)
      in
      let two = two_parts ts i (head_tile (tile_at ts i) (record { problem = p; path = cut.path }))
      (tail_tile (length ts) (tile_at ts i) (record { problem = p; path = cut.path })) within in
      let count = count_two (λ (t : TileValue). is_leased t.status) ts i
      (head_tile (tile_at ts i) (record { problem = p; path = cut.path }))
      (tail_tile (length ts) (tile_at ts i) (record { problem = p; path = cut.path })) within refl in
      let lent = ap leased_in (t2 ∙ sym two) in
      kept_by _ w c (reply.Split id) (split (with_history p b s ts old.entries) cut.path i) after new.entries o (ap reply.Split ei) t2
      (entries_are old mid new _ 1 k a (omega arith)) old.kept new.kept keeps
      (record { tiles = tiles; numbered = subst AreNumbered t2 numbered }) (omega arith)

-- ---- what stands against a split

pub split_same : (p q : ProblemValue) (path : List ℕ) (same : Bool) (t : TileValue) → same ≡ is_same q p → cut_fault p path same t ≡ None
    → (same ≡ true) × (q ≡ p)
split_same p q path true t e h = (refl, (is_same_decides q p).0 (sym e))
split_same p q path false t e h = absurd (cc)

-- a cut of a problem that is the same fits it
pub cut_same_fits : (p q : ProblemValue) (same : Bool) (path : List ℕ) → same ≡ is_same q p → same ≡ true → IsCut q path
    → Fits p (cut_state path)
cut_same_fits p q same path e h c = cut_fits p path (subst (λ (r : ProblemValue). IsCut r path) ((is_same_decides q p).0 (sym e ∙ h)) c)

-- a tile's mark is one of the run
pub marks_fit : (p : ProblemValue) (b : Branch) (s : StateValue) (ts : List TileValue) (i : ℕ) → IsTiling p b s ts → i < length ts
    → Fits p (mark_of (tile_at ts i))
marks_fit p b s ts i t l = (tile_in p b.lo s ts b.hi i t.tiles l).within.fits

less_is : (p : ProblemValue) (s t : StateValue) (o : Ordering) → Fits p s → Fits p t → (o ≡ Less) ↔ ComesBefore p s t → o ≡ Less
    → comes_before p s t ≡ true
less_is p s t o f g h l = (test_is_order p s t f g).1 (h.0 l)

less_not : (p : ProblemValue) (s t : StateValue) (o : Ordering) → Fits p s → Fits p t → (o ≡ Less) ↔ ComesBefore p s t → (o ≡ Less → ⊥)
    → comes_before p s t ≡ false
less_not p s t o f g h n = by (comes_before p s t) refl
  where
    by : (b : Bool) → comes_before p s t ≡ b → b ≡ false
    by true e = absurd (n (h.1 ((test_is_order p s t f g).0 e)))
    by false e = refl

module _ (p : ProblemValue) (path : List ℕ) (same : Bool) (t u : TileValue) (is : same ≡ true) (tile : u ≡ t) (m a : StateValue)
    (o : Ordering) (mark : m ≡ mark_of u) (at : a ≡ cut_state path) (mark_ok : Fits p (mark_of t)) (cut_ok : Fits p (cut_state path))
    (order : Fits p m → Fits p a → (o ≡ Less) ↔ ComesBefore p m a) where
  ordered : (o ≡ Less) ↔ ComesBefore p (mark_of t) (cut_state path)
  ordered =
      let h : m ≡ mark_of t = mark ∙ ap mark_of tile in
      rw (h, at) at (order (rw h mark_ok) (rw at cut_ok))

  pub before_doubt : (o ≡ Less → ⊥) → Doubted (Some NotAfterMark) (cut_fault p path same t)
  before_doubt l = rw (is, less_not p (mark_of t) (cut_state path) o mark_ok cut_ok ordered l) (inr refl)

  module _ (e : StateValue) (q : Ordering) (end : e ≡ tile_end u) (end_ok : Fits p (tile_end t))
      (next : Fits p a → Fits p e → (q ≡ Less) ↔ ComesBefore p a e) (l : o ≡ Less) where
    next_ordered : (q ≡ Less) ↔ ComesBefore p (cut_state path) (tile_end t)
    next_ordered =
        let h : e ≡ tile_end t = end ∙ ap tile_end tile in
        rw (h, at) at (next (rw at cut_ok) (rw h end_ok))

    pub past_doubt : (q ≡ Less → ⊥) → Doubted (Some BeyondEnd) (cut_fault p path same t)
    past_doubt n = rw (
      is,
      less_is p (mark_of t) (cut_state path) o mark_ok cut_ok ordered l,
      less_not p (cut_state path) (tile_end t) q cut_ok end_ok next_ordered n,
    ) (inr refl)

    pub between_doubt : q ≡ Less → Doubted None (cut_fault p path same t)
    between_doubt n = rw (
      is,
      less_is p (mark_of t) (cut_state path) o mark_ok cut_ok ordered l,
      less_is p (cut_state path) (tile_end t) q cut_ok end_ok next_ordered n,
    ) (inr refl)
