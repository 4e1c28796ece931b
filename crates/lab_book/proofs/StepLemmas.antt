-- What a book keeps when a call is entered.
use Rattle.std.proofs.Common.{◌≡◌, ℕ, ◌+◌, ◌-◌, ◌<◌, ◌⊎◌, Bool, true, false, not, cond, Option, Some, None, List, [], ◌∷◌, ◌++◌}
use Rattle.std.proofs.Common.{length, take, refl, sym, ap, ◌∙◌, subst, inl, inr, arith}
use Rattle.std.specs.Prelude.{IfSome}
use Rattle.std.proofs.Math.ListN.{set}
use Rattle.std.proofs.lemmas.Bool.{false≢true}
use Rattle.std.proofs.lemmas.List.{get_or-set_same}
use Rattle.std.proofs.lemmas.List.Sums.{sum_by-set}
use Rattle.std.proofs.lemmas.List.Quantifiers.{position-Some}
use Rattle.cover_problem.specs.Problem.{ProblemValue}
use Rattle.x_steps.specs.declared.state.Label.TheVariants.{X1, Done}
use Rattle.x_steps.specs.StateValue.{StateValue, start, done}
use Rattle.x_steps.specs.Steps.{Fits}
use Rattle.x_steps.proofs.RunLemmas.{start_fits, done_fits, start_first}
use Rattle.x_branches.specs.declared.branch.Branch.{Branch}
use Rattle.x_branches.specs.Cut.{CutPath, IsCut}
use Rattle.x_branches.specs.Branch.{first_of, end_of}
use Rattle.x_branches.specs.RunOrder.{comes_before}
use Rattle.x_branches.specs.Stretch.{StretchValue, IsStretch}
use Rattle.x_branches.specs.Runner.{IsOf}
use Rattle.x_branches.specs.Refusals.{CanStart}
use Rattle.x_branches.proofs.CutLemmas.{cut_fits}
use Rattle.x_branches.proofs.StageLemmas.{rank_comes}
use Rattle.x_branches.proofs.RunnerLemmas.{not_before, before_not, other_before}
use Rattle.lab_book.specs.declared.status.Status.{Status}
use Rattle.lab_book.specs.declared.status.Status.TheVariants as status
use Rattle.lab_history.specs.declared.fault.BookFault.{BookFault}
use Rattle.lab_history.specs.declared.fault.BookFault.TheVariants.{OutOfMemory, StaleLease, BeyondEnd}
use Rattle.lab_history.specs.declared.entry.Call.{Call}
use Rattle.lab_history.specs.declared.entry.Reply.{Reply}
use Rattle.lab_history.specs.declared.entry.Reply.TheVariants as reply
use Rattle.lab_history.specs.declared.entry.Entry.{Entry}
use Rattle.lab_book.specs.States.{same_state}
use Rattle.lab_book.specs.Tile.{TileValue, IsTile, Stands, is_waiting, is_leased, is_closed, is_free, asked_status, mark_of, tile_end}
use Rattle.lab_book.specs.Tiling.{IsTiling, no_tile, tile_at}
use Rattle.lab_history.specs.History.{HistoryValue}
use Rattle.lab_book.specs.Book.{BookValue, outcome, whole_tile, new_book, leased_in, waiting_in, cut_path, lent, lent_tile}
use Rattle.lab_book.specs.Book.{posted, posted_tile, settled, refused, stretch_fault, else_fault, first_waiting, KeepsBook}
use Rattle.lab_book.specs.Book.{Outcome, stretches_to, put_back, last_stretch, retracted}
use Rattle.lab_book.specs.Calls.{Made}
use Rattle.lab_book.proofs.TileLemmas.{stretch_by, posted_is_tile, settled_is_tile, tile_can_start, same_state_is}
use Rattle.lab_book.proofs.TileLemmas.{last_problem}
use Rattle.lab_book.proofs.TilingLemmas.{tile_in, tiling_set}
use Rattle.lab_book.proofs.BookLemmas.{made_by, kept_by}

-- a book in its parts
abbrev pub with_history : ProblemValue → Branch → StateValue → List TileValue → List Entry → BookValue
with_history p b s ts h = record { problem = p; branch = b; first = s; tiles = ts; history = h }

-- ---- a new book

pub first_fits : (p : ProblemValue) (lo : Option CutPath) → IsOf p lo → IfSome lo (λ (c : CutPath). IsCut c.problem c.path)
    → Fits p (first_of lo)
first_fits p None o c = start_fits p
first_fits p (Some cut) o c = cut_fits p cut.path (subst (λ (q : ProblemValue). IsCut q cut.path) o c)

pub last_fits : (p : ProblemValue) (hi : Option CutPath) → IsOf p hi → IfSome hi (λ (c : CutPath). IsCut c.problem c.path)
    → Fits p (end_of hi)
last_fits p None o c = done_fits p
last_fits p (Some cut) o c = cut_fits p cut.path (subst (λ (q : ProblemValue). IsCut q cut.path) o c)

whole_is_tile : (p : ProblemValue) (b : Branch) (s : StateValue) → CanStart p b s → Fits p (first_of b.lo) → Fits p (end_of b.hi)
    → IsTile p (whole_tile b s)
whole_is_tile p b s c f g = record {
  branch = c.branch;
  begins = stretch_by p (first_of b.lo) s f c.fits (not_before p s (first_of b.lo) c.fits f c.within.begun);
  joins = tt;
  within = stretch_by p s (end_of b.hi) c.fits g (not_before p (end_of b.hi) s g c.fits c.within.not_past);
  stands = refl;
}

whole_keeps : (p : ProblemValue) (b : Branch) (s : StateValue) → CanStart p b s → Fits p (first_of b.lo) → Fits p (end_of b.hi)
    → KeepsBook (new_book p b s) 0
whole_keeps p b s c f g = record {
  sound = record {
    tiling = record {
      tiles = (refl, refl, whole_is_tile p b s c f g, refl);
      numbered = record { below = one; once = λ i j k l e. omega arith };
    };
    replay = refl;
  };
  room = refl;
}
  where
    one : (i : ℕ) → i < 1 → (tile_at (whole_tile b s ∷ []) i).id < 1
    one i l = let e : i ≡ 0 = omega arith in rw e (omega arith)

-- the same where its parts were copied
pub opened_keeps : (p : ProblemValue) (b whole : Branch) (s first : StateValue) (ts : List TileValue) (h : HistoryValue) → CanStart p b s
    → IfSome b.lo (λ (c : CutPath). IsCut c.problem c.path) → IfSome b.hi (λ (c : CutPath). IsCut c.problem c.path)
    → whole ≡ b → first ≡ s → ts ≡ whole_tile b s ∷ [] → h ≡ record { entries = []; kept = 0 }
    → KeepsBook (with_history p whole first ts h.entries) h.kept
opened_keeps p b whole s first ts h c lo hi eb es et eh =
    rw (eb, es, et, eh) (whole_keeps p b s c (first_fits p b.lo c.branch.low lo) (last_fits p b.hi c.branch.high hi))

pub whole_run : (p : ProblemValue) → CanStart p (record { lo = None; hi = None }) start
whole_run p =
    let l = other_before p start done (start_fits p) (done_fits p) (start_first p done (done_fits p))
    (λ e. let h : X1 ≡ Done = ap (λ (s : StateValue). s.label) e in absurd (cc)) in
    record {
      fits = start_fits p;
      branch = record { low = tt; high = tt; order = rank_comes p start done (start_fits p) (done_fits p) l };
      within = record {
        begun = before_not p start start (start_fits p) (omega arith);
        not_past = before_not p done start (done_fits p) (start_first p done (done_fits p));
      };
    }

-- ---- entries

module _ (old mid new : HistoryValue) (e : Entry) (n : ℕ) (kept : mid ≡ record old { kept = old.kept + n })
    (added : new ≡ record { entries = mid.entries ++ e ∷ []; kept = mid.kept - 1 }) (some : 0 < old.kept + n) where
  pub entries_are : new.entries ≡ old.entries ++ e ∷ []
  entries_are = ap (λ (h : HistoryValue). h.entries) added ∙ ap (λ (h : HistoryValue). h.entries ++ e ∷ []) kept

  pub room_is : new.kept + 1 ≡ old.kept + n
  room_is =
      let a = ap (λ (h : HistoryValue). h.kept) kept in
      let b = ap (λ (h : HistoryValue). h.kept) added in omega arith

module _ (p : ProblemValue) (b : Branch) (s : StateValue) (ts : List TileValue) (old mid new : HistoryValue)
    (keeps : KeepsBook (with_history p b s ts old.entries) old.kept) (w : ℕ) (c : Call) where
  -- a refusal is entered
  pub refuse_keeps : (f copy : BookFault) → (f ≡ OutOfMemory) ⊎ (outcome (with_history p b s ts old.entries) w c ≡ refused ts f)
      → (f ≡ OutOfMemory → ⊥) → copy ≡ f → mid ≡ record old { kept = old.kept + 1 }
      → new ≡ record { entries = mid.entries ++ record { worker = w; call = c; reply = reply.Refused copy } ∷ []; kept = mid.kept - 1 }
      → KeepsBook (with_history p b s ts new.entries) new.kept
  refuse_keeps f copy (inl o) h e k a = absurd (h o)
  refuse_keeps f copy (inr o) h e k a =
      let r = room_is old mid new _ 1 k a (omega arith) in
      let m = keeps.room in
      kept_by _ w c (reply.Refused copy) (refused ts f) ts new.entries o (ap reply.Refused e) refl
      (entries_are old mid new _ 1 k a (omega arith)) old.kept new.kept keeps keeps.sound.tiling (omega arith)

  -- that none waits is entered
  pub none_keeps : outcome (with_history p b s ts old.entries) w c ≡ record { reply = reply.NoneWaits; tiles = ts }
      → mid ≡ record old { kept = old.kept + 1 }
      → new ≡ record { entries = mid.entries ++ record { worker = w; call = c; reply = reply.NoneWaits } ∷ []; kept = mid.kept - 1 }
      → KeepsBook (with_history p b s ts new.entries) new.kept
  none_keeps o k a =
      let r = room_is old mid new _ 1 k a (omega arith) in
      let m = keeps.room in
      kept_by _ w c reply.NoneWaits (record { reply = reply.NoneWaits; tiles = ts }) ts new.entries o refl refl
      (entries_are old mid new _ 1 k a (omega arith)) old.kept new.kept keeps keeps.sound.tiling (omega arith)

  pub none_made : outcome (with_history p b s ts old.entries) w c ≡ record { reply = reply.NoneWaits; tiles = ts }
      → mid ≡ record old { kept = old.kept + 1 }
      → new ≡ record { entries = mid.entries ++ record { worker = w; call = c; reply = reply.NoneWaits } ∷ []; kept = mid.kept - 1 }
      → Made (with_history p b s ts old.entries) (with_history p b s ts new.entries) w c reply.NoneWaits
  none_made o k a = made_by _ w c reply.NoneWaits (record { reply = reply.NoneWaits; tiles = ts }) ts new.entries o refl refl
      (entries_are old mid new _ 1 k a (omega arith))

  module _ (i : ℕ) (within : i < length ts) where
    leased_set : (u : TileValue) → leased_in (set ts i u) + cond (is_leased (tile_at ts i).status) 1 0
        ≡ leased_in ts + cond (is_leased u.status) 1 0
    leased_set u = sum_by-set (λ (t : TileValue). cond (is_leased t.status) 1 0) ts i u no_tile within

    lent_is : (u : TileValue) → is_leased u.status ≡ true → is_leased (tile_at ts i).status ≡ false
        → leased_in (set ts i u) ≡ leased_in ts + 1
    lent_is u e f =
        let l = leased_set u in
        let g : cond {A = ℕ} (is_leased (tile_at ts i).status) 1 0 ≡ 0 = ap {B = ℕ} (λ b. cond b 1 0) f in
        let h : cond {A = ℕ} (is_leased u.status) 1 0 ≡ 1 = ap {B = ℕ} (λ b. cond b 1 0) e in omega arith

    ended_is : (u : TileValue) → is_leased u.status ≡ false → is_leased (tile_at ts i).status ≡ true
        → leased_in (set ts i u) + 1 ≡ leased_in ts
    ended_is u e f =
        let l = leased_set u in
        let g : cond {A = ℕ} (is_leased (tile_at ts i).status) 1 0 ≡ 1 = ap {B = ℕ} (λ b. cond b 1 0) f in
        let h : cond {A = ℕ} (is_leased u.status) 1 0 ≡ 0 = ap {B = ℕ} (λ b. cond b 1 0) e in omega arith

    same_is : (u : TileValue) → u.status ≡ (tile_at ts i).status → leased_in (set ts i u) ≡ leased_in ts
    same_is u e =
        let l = leased_set u in
        let g : cond {A = ℕ} (is_leased u.status) 1 0
        ≡ cond {A = ℕ} (is_leased (tile_at ts i).status) 1 0 = ap {B = ℕ} (λ s. cond (is_leased s) 1 0) e in omega arith

    -- a tile is leased
    pub lend_keeps : (index : ℕ) (r : Reply) (after : List TileValue)
        → outcome (with_history p b s ts old.entries) w c ≡ lent (with_history p b s ts old.entries) w i
        → is_leased (tile_at ts i).status ≡ false → mid ≡ record old { kept = old.kept + 2 } → index ≡ length mid.entries
        → after ≡ set ts i (record (tile_at ts i) { status = status.Leased w index; stop = false })
        → r ≡ (lent (with_history p b s ts old.entries) w i).reply
        → new ≡ record { entries = mid.entries ++ record { worker = w; call = c; reply = r } ∷ []; kept = mid.kept - 1 }
        → KeepsBook (with_history p b s after new.entries) new.kept
    lend_keeps index r after o free k len t e a =
        let r1 = room_is old mid new _ 2 k a (omega arith) in
        let m = keeps.room in
        let here : index ≡ length old.entries = len ∙ ap (λ (h : HistoryValue). length h.entries) k in
        let u = lent_tile (tile_at ts i) w (length old.entries) in
        let t2 : after ≡ set ts i (lent_tile (tile_at ts i) w (length old.entries)) = t ∙ rw here refl in
        let l = lent_is (lent_tile (tile_at ts i) w (length old.entries)) refl free in
        let l2 = ap leased_in t2 in
        kept_by _ w c r (lent (with_history p b s ts old.entries) w i) after new.entries o e t2
        (entries_are old mid new _ 2 k a (omega arith)) old.kept new.kept keeps
        (tiling_set p b s ts i (lent_tile (tile_at ts i) w (length old.entries)) keeps.sound.tiling within refl refl refl
        (λ h. settled_is_tile p (tile_at ts i) (status.Leased w (length old.entries)) false h tt)) (omega arith)

    -- a lease ends
    pub settle_keeps : (st : Status) (stop : Bool) (after : List TileValue)
        → outcome (with_history p b s ts old.entries) w c ≡ settled (with_history p b s ts old.entries) (λ t. record t { status = st }) i
        → is_leased (tile_at ts i).status ≡ true → is_leased st ≡ false → Stands st (tile_at ts i) → stop ≡ (tile_at ts i).stop
        → after ≡ set ts i (record (tile_at ts i) { status = st; stop = stop })
        → new ≡ record { entries = old.entries ++ record { worker = w; call = c; reply = reply.Done } ∷ []; kept = old.kept - 1 }
        → KeepsBook (with_history p b s after new.entries) new.kept
    settle_keeps st stop after o leased ends stands es t a =
        let m = keeps.room in
        let t2 : after ≡ set ts i (record (tile_at ts i) { status = st }) = t ∙ rw es refl in
        let l = ended_is (record (tile_at ts i) { status = st }) ends leased in
        let l2 = ap leased_in t2 in
        let n = ap (λ (h : HistoryValue). h.kept) a in
        kept_by _ w c reply.Done (settled (with_history p b s ts old.entries) (λ t. record t { status = st }) i) after new.entries o refl t2
        (ap (λ (h : HistoryValue). h.entries) a) old.kept new.kept keeps
        (tiling_set p b s ts i (record (tile_at ts i) { status = st }) keeps.sound.tiling within refl refl refl
        (λ h. settled_is_tile p (tile_at ts i) st (tile_at ts i).stop h (stands_so st (tile_at ts i) stands))) (omega arith)
      where
        stands_so : (st : Status) (t : TileValue) → Stands st t → Stands st (record t { status = st })
        stands_so status.Waiting t h = h
        stands_so status.Held t h = h
        stands_so (status.Leased w i) t h = tt
        stands_so status.Closed t h = h

    -- a tile changes, and is leased still or isn't
    pub change_keeps : (u : TileValue) (r : Reply) (o : Outcome) (after : List TileValue)
        → outcome (with_history p b s ts old.entries) w c ≡ o → r ≡ o.reply → o.tiles ≡ set ts i u → after ≡ set ts i u
        → u.id ≡ (tile_at ts i).id → u.branch ≡ (tile_at ts i).branch → u.first ≡ (tile_at ts i).first
        → is_leased u.status ≡ is_leased (tile_at ts i).status → (IsTile p (tile_at ts i) → IsTile p u)
        → mid ≡ record old { kept = old.kept + 1 }
        → new ≡ record { entries = mid.entries ++ record { worker = w; call = c; reply = r } ∷ []; kept = mid.kept - 1 }
        → KeepsBook (with_history p b s after new.entries) new.kept
    change_keeps u r o after is er eo et ei eb ef el tile k a =
        let room = room_is old mid new _ 1 k a (omega arith) in
        let m = keeps.room in
        let l = leased_set u in
        let g : cond {A = ℕ} (is_leased u.status) 1 0
        ≡ cond {A = ℕ} (is_leased (tile_at ts i).status) 1 0 = ap {B = ℕ} (λ b. cond b 1 0) el in
        let n = ap leased_in et in
        kept_by _ w c r o after new.entries is er (et ∙ sym eo) (entries_are old mid new _ 1 k a (omega arith)) old.kept new.kept keeps
        (subst (IsTiling p b s) (sym eo) (tiling_set p b s ts i u keeps.sound.tiling within ei eb ef tile)) (omega arith)

    pub change_made : (u : TileValue) (r : Reply) (o : Outcome) (after : List TileValue)
        → outcome (with_history p b s ts old.entries) w c ≡ o → r ≡ o.reply → o.tiles ≡ set ts i u → after ≡ set ts i u
        → mid ≡ record old { kept = old.kept + 1 }
        → new ≡ record { entries = mid.entries ++ record { worker = w; call = c; reply = r } ∷ []; kept = mid.kept - 1 }
        → Made (with_history p b s ts old.entries) (with_history p b s after new.entries) w c r
    change_made u r o after is er eo et k a =
        made_by _ w c r o after new.entries is er (et ∙ sym eo) (entries_are old mid new _ 1 k a (omega arith))

    -- a stretch is posted
    pub post_keeps : (x : StretchValue) (stop : Bool) (n : ℕ) (after : List TileValue)
        → outcome (with_history p b s ts old.entries) w c ≡ posted (with_history p b s ts old.entries) x.from x.to i
        → is_leased (tile_at ts i).status ≡ true → x.problem ≡ p → IsStretch x.problem x.from x.to
        → stretch_fault p x.from x.to true (tile_at ts i) ≡ None
        → mid ≡ record old { kept = old.kept + 1 } → after ≡ set ts i (posted_tile (tile_at ts i) x) → stop ≡ (tile_at after i).stop
        → n ≡ waiting_in after
        → new ≡ record { entries = mid.entries ++ record { worker = w; call = c; reply = reply.Posted stop n } ∷ []; kept = mid.kept - 1 }
        → KeepsBook (with_history p b s after new.entries) new.kept
    post_keeps x stop n after o leased ep part fine k t es en a =
        let r = room_is old mid new _ 1 k a (omega arith) in
        let m = keeps.room in
        let ex : x ≡ record { problem = p; from = x.from; to = x.to } = λ j. record { problem = ep j; from = x.from; to = x.to } in
        let t2 : after ≡ set ts i (posted_tile (tile_at ts i) (record { problem = p; from = x.from; to = x.to })) = t
        ∙ ap (λ (y : StretchValue). set ts i (posted_tile (tile_at ts i) y)) ex in
        let stop2 : stop ≡ (tile_at ts i).stop = es ∙ ap (λ (us : List TileValue). (tile_at us i).stop) t
        ∙ ap (λ (u : TileValue). u.stop) (get_or-set_same ts i (posted_tile (tile_at ts i) x) no_tile within) in
        let n2 : n ≡ waiting_in (set ts i (posted_tile (tile_at ts i) (record { problem = p; from = x.from; to = x.to }))) = en
        ∙ ap waiting_in t2 in
        let l = same_is (posted_tile (tile_at ts i) (record { problem = p; from = x.from; to = x.to })) refl in
        let l2 = ap leased_in t2 in
        let passes = fine_parts (same_state x.from (mark_of (tile_at ts i))) (comes_before p (tile_end (tile_at ts i)) x.to)
        (StaleLease (mark_of (tile_at ts i))) fine in
        let begin = same_state_is x.from (mark_of (tile_at ts i)) passes.0 in
        kept_by _ w c (reply.Posted stop n) (posted (with_history p b s ts old.entries) x.from x.to i) after new.entries o
        (rw (stop2, n2) refl) t2 (entries_are old mid new _ 1 k a (omega arith)) old.kept new.kept keeps
        (tiling_set p b s ts i (posted_tile (tile_at ts i) (record { problem = p; from = x.from; to = x.to }))
        keeps.sound.tiling within refl refl refl
        (λ h. posted_is_tile p (tile_at ts i) (record { problem = p; from = x.from; to = x.to }) h leased refl
        (subst (λ (q : ProblemValue). IsStretch q x.from x.to) ep part) begin passes.1)) (omega arith)
      where
        fine_parts : (m e : Bool) (f : BookFault) → else_fault m f (else_fault (not e) BeyondEnd None) ≡ None → (m ≡ true) × (e ≡ false)
        fine_parts true false f h = (refl, refl)
        fine_parts true true f h = absurd (cc)
        fine_parts false e f h = absurd (cc)

-- ---- a search can start at a leased tile's mark

pub lent_can_start : (p : ProblemValue) (b : Branch) (s : StateValue) (ts : List TileValue) (i : ℕ) (branch : Branch) (mark : StateValue)
    → IsTiling p b s ts → i < length ts → branch ≡ (tile_at ts i).branch → mark ≡ mark_of (tile_at ts i) → CanStart p branch mark
lent_can_start p b s ts i branch mark t l eb em = rw (eb, em) (tile_can_start p (tile_at ts i) (tile_in p b.lo s ts b.hi i t.tiles l))

-- a tile that waits isn't leased
pub waiting_free : (ts : List TileValue) (i : ℕ) → Some i ≡ first_waiting ts → is_leased (tile_at ts i).status ≡ false
waiting_free ts i e = free (tile_at ts i).status (position-Some (λ (t : TileValue). is_waiting t.status) ts i no_tile (sym e)).1
  where
    free : (s : Status) → is_waiting s ≡ true → is_leased s ≡ false
    free status.Waiting h = refl
    free status.Held h = absurd (false≢true h)
    free (status.Leased w i) h = absurd (false≢true h)
    free status.Closed h = absurd (false≢true h)

-- ---- other changes of a tile

pub asked_is_tile : (p : ProblemValue) (t : TileValue) (s : Status) → s ≡ asked_status t.status → is_closed t.status ≡ false → IsTile p t
    → IsTile p (record t { status = s; stop = true })
asked_is_tile p t s e o i = settled_is_tile p t s true i (stands t.status s e o)
  where
    stands : (a s : Status) → s ≡ asked_status a → is_closed a ≡ false → Stands s (record t { status = s; stop = true })
    stands status.Waiting s e o = rw e refl
    stands status.Held s e o = rw e refl
    stands (status.Leased w i) s e o = rw e tt
    stands status.Closed s e o = absurd (false≢true (sym o))

pub asked_leased : (a s : Status) → s ≡ asked_status a → is_leased s ≡ is_leased a
asked_leased status.Waiting s e = rw e refl
asked_leased _ s e = rw e refl

pub leased_open : (s : Status) → is_leased s ≡ true → is_closed s ≡ false
leased_open status.Closed h = absurd (false≢true h)
leased_open _ h = refl

pub free_open : (s : Status) → is_free s ≡ true → is_closed s ≡ false
free_open (status.Leased w i) h = absurd (false≢true h)
free_open status.Closed h = absurd (false≢true h)
free_open _ h = refl

-- the tile that goes back, by how many stretches it keeps
pub back_is : (t : TileValue) (s : StateValue) (n : ℕ) → stretches_to s t.first t.stretches ≡ Some (take n t.stretches)
    → put_back s t ≡ record t { stretches = take n t.stretches }
back_is t s n e = rw e refl

-- ---- what is taken out

-- the reply is told by the last stretch
pub retracted_reply : (b : BookValue) (i : ℕ) (x : StretchValue) (from to : StateValue) → last_stretch (tile_at b.tiles i).stretches ≡ Some x
    → from ≡ x.from → to ≡ x.to → reply.Retracted from to ≡ (retracted b i).reply
retracted_reply b i x from to e f g = rw (e, f, g) refl

pub retracted_problem : (p : ProblemValue) (b : Branch) (s : StateValue) (ts : List TileValue) (i : ℕ) (x : StretchValue)
    → IsTiling p b s ts → i < length ts → last_stretch (tile_at ts i).stretches ≡ Some x → x.problem ≡ p
retracted_problem p b s ts i x t l e = last_problem p (tile_at ts i).first (tile_at ts i).stretches x
    (tile_in p b.lo s ts b.hi i t.tiles l).joins e

pub told_same : (old new : BookValue) (w : ℕ) (c : Call) (r t : Reply) → Made old new w c r → r ≡ t → Made old new w c t
told_same old new w c r t m e = subst (Made old new w c) e m
