-- The same call of two alike books, at the places of the same open tile: both are made alike, or both are refused alike.
use Rattle.std.proofs.Common.{◌≡◌, ℕ, zero, suc, ◌+◌, ◌<◌, ◌==◌, ◌⊎◌, inl, inr, Bool, true, false, not, Option, Some, None, Result}
use Rattle.std.proofs.Common.{List, [], ◌∷◌, ◌++◌, length, take, drop, refl, sym, ap, ap₂, ◌∙◌, subst, arith, eq-eqb, is_some, unwrap_or}
use Rattle.std.proofs.Math.ListN.{set}
use Rattle.std.proofs.lemmas.Bool.{ne_eqb}
use Rattle.std.proofs.lemmas.Bool.Decides.{eqb_tells}
use Rattle.std.proofs.lemmas.List.{get_or-set_same, get_or-set_other}
use Rattle.cover_problem.specs.Problem.{ProblemValue}
use Rattle.x_steps.specs.StateValue.{StateValue}
use Rattle.x_branches.specs.Cut.{CutPath}
use Rattle.lab_book.specs.declared.status.Status.{Status}
use Rattle.lab_history.specs.declared.grant.Grant.{Grant}
use Rattle.lab_history.specs.declared.fault.BookFault.{BookFault}
use Rattle.lab_history.specs.declared.fault.BookFault.TheVariants.{NotWaiting, NotAMark, StaleLease}
use Rattle.lab_history.specs.declared.entry.Call.{Call}
use Rattle.lab_history.specs.declared.entry.Call.TheVariants as call
use Rattle.lab_history.specs.declared.entry.Reply.{Reply}
use Rattle.lab_history.specs.declared.entry.Reply.TheVariants as reply
use Rattle.lab_book.specs.Tile.{TileValue, IsTile, is_closed, is_waiting, is_held, freed_status, mark_of}
use Rattle.lab_book.specs.Tiling.{AreTiles, AreNumbered, IsTiling, tile_at, no_tile}
use Rattle.lab_book.specs.Book.{BookValue, Outcome, outcome, waiting_in, first_waiting, found, checked, unless, made_at, else_fault}
use Rattle.lab_book.specs.Book.{status_fault, lease_fault, stretch_fault, cut_fault, retract_fault, end_fault, mark_fault, stretches_to}
use Rattle.lab_book.specs.Book.{last_stretch, cut_path, lent, lent_any, lent_tile, posted, posted_tile, split, split_tiles, head_tile}
use Rattle.lab_book.specs.Book.{tail_tile}
use Rattle.lab_book.specs.Book.{retracted, retracted_tile, settled, freed, closed, put_back, asked_to_stop}
use Rattle.lab_book.proofs.IndexLemmas.{position_at}
use Rattle.lab_book_laws.specs.AlikeBooks.{anonymous_status, anonymous_tile, open_part, AreAlikeBooks}
use Rattle.lab_book_laws.specs.AlikeCalls.{Correspond, NameSameTile, addressed, anonymous_reply, AreAlikeOutcomes}
use Rattle.lab_book_laws.proofs.StatusLemmas.{closed_seen, waiting_seen, held_seen, free_seen, asked_seen}
use Rattle.lab_book_laws.proofs.CountLemmas.{waiting_alike}
use Rattle.lab_book_laws.proofs.PlaceLemmas.{tile_seen, set_alike, set_tiling, parts_put, one_seen, open_append, one_place, one_origin}
use Rattle.lab_book_laws.proofs.PlaceLemmas.{Meet, waiting_meet}
use Rattle.lab_book_laws.proofs.SplitLemmas.{split_tiling, both_tiles}

-- the only tile with an id is found by it
found_by : (ts : List TileValue) (k : ℕ) (id : ℕ) (check : TileValue → Option BookFault) → AreNumbered ts → k < length ts
    → id ≡ (tile_at ts k).id → found ts id check ≡ unless k (check (tile_at ts k))
found_by ts k id check n l e =
    ap (λ (x : ℕ). found ts x check) e
    ∙ ap (checked ts check)
    (position_at (λ (t : TileValue). t.id == (tile_at ts k).id) ts k no_tile l
    (λ j b. ne_eqb (tile_at ts j).id (tile_at ts k).id (λ h. let s = n.once j k (omega arith) l h in omega arith))
    (eq-eqb (tile_at ts k).id (tile_at ts k).id refl))

-- a tile that was put at a place stands there
at_put : (ts us vs : List TileValue) (i : ℕ) (t : TileValue) → i < length ts → tile_at (take i ts ++ (t ∷ us) ++ vs) i ≡ t
at_put [] us vs i t l = absurd (omega arith)
at_put (u ∷ ts) us vs zero t l = refl
at_put (u ∷ ts) us vs (suc i) t l = at_put ts us vs i t (omega arith)

module _ (a b : BookValue) (k : AreAlikeBooks a b) (ta : IsTiling a.problem a.branch a.first a.tiles)
    (tb : IsTiling b.problem b.branch b.first b.tiles) (v w : ℕ) where
  -- ---- a change at places that correspond

  module _ (i j : ℕ) (s : Correspond a.tiles i b.tiles j) where
    abbrev one : TileValue
    one = tile_at a.tiles i

    abbrev other : TileValue
    other = tile_at b.tiles j

    -- the same outcome, and the same tile at the two places then
    abbrev Same : Outcome → Outcome → Type 0
    Same o q = AreAlikeOutcomes a b o q × (anonymous_tile (tile_at o.tiles i) ≡ anonymous_tile (tile_at q.tiles j))

    put : (t u : TileValue) (x y : Reply) → anonymous_reply x ≡ anonymous_reply y → anonymous_tile t ≡ anonymous_tile u → u.id ≡ other.id
        → u.branch ≡ other.branch → u.first ≡ other.first
        → Same (record { reply = x; tiles = set a.tiles i t }) (record { reply = y; tiles = set b.tiles j u })
    put t u x y r e f g h = (
      record {
        tiles = set_alike a.tiles b.tiles i j s t u e;
        reply = r;
        tiling = set_tiling a.tiles b.tiles i j s a.problem b.problem a.branch b.branch a.first b.first t u k.problem e tb f g h;
      },
      ap anonymous_tile (get_or-set_same a.tiles i t no_tile s.within)
          ∙ e
          ∙ sym (ap anonymous_tile (get_or-set_same b.tiles j u no_tile s.also_within)),
    )

    -- as many tiles wait then
    waits : (t u : TileValue) → anonymous_tile t ≡ anonymous_tile u → waiting_in (set a.tiles i t) ≡ waiting_in (set b.tiles j u)
    waits t u e = waiting_alike (set a.tiles i t) (set b.tiles j u) (set_alike a.tiles b.tiles i j s t u e)

    lent_seen : anonymous_tile (lent_tile one v (length a.history)) ≡ anonymous_tile (lent_tile other w (length b.history))
    lent_seen = ap (λ (t : TileValue). lent_tile t 0 0) s.tile

    lent_alike : Same (lent a v i) (lent b w j)
    lent_alike =
        put (lent_tile one v (length a.history)) (lent_tile other w (length b.history)) _ _
        (λ n. reply.Leased (record { id = 0; worker = 0; index = 0 }) (cut_path (s.tile n).branch.lo) (cut_path (s.tile n).branch.hi)
        (mark_of (s.tile n)) (waits (lent_tile one v (length a.history)) (lent_tile other w (length b.history)) lent_seen n)) lent_seen
        refl refl refl

    posted_alike : (from to : StateValue) → Same (posted a from to i) (posted b from to j)
    posted_alike from to =
        let t = posted_tile one (record { problem = a.problem; from = from; to = to }) in
        let u = posted_tile other (record { problem = b.problem; from = from; to = to }) in
        let e : anonymous_tile t ≡ anonymous_tile u =
        λ n. posted_tile (s.tile n) (record { problem = k.problem n; from = from; to = to }) in
        put t u _ _ (λ n. reply.Posted (s.tile n).stop (waits t u e n)) e refl refl refl

    retracted_alike : Same (retracted a i) (retracted b j)
    retracted_alike =
        put (retracted_tile one) (retracted_tile other) _ _ (λ n. back (k.problem n) (s.tile n)) (ap retracted_tile s.tile) refl refl refl
      where
        back : ProblemValue → TileValue → Reply
        back p t =
            let x = unwrap_or (last_stretch t.stretches) (record { problem = p; from = t.first; to = t.first }) in reply.Retracted x.from x.to

    freed_alike : Same (settled a freed i) (settled b freed j)
    freed_alike = put (freed one) (freed other) _ _ refl
        (ap (λ (t : TileValue). record t { status = anonymous_status (freed_status t.stop) }) s.tile) refl refl refl

    closed_alike : Same (settled a closed i) (settled b closed j)
    closed_alike = put (closed one) (closed other) _ _ refl (ap closed s.tile) refl refl refl

    put_back_alike : (mark : StateValue) → Same (settled a (put_back mark) i) (settled b (put_back mark) j)
    put_back_alike mark = put (put_back mark one) (put_back mark other) _ _ refl (ap (put_back mark) s.tile) refl refl refl

    asked_alike : Same (settled a asked_to_stop i) (settled b asked_to_stop j)
    asked_alike =
        put (asked_to_stop one) (asked_to_stop other) _ _ refl (asked one ∙ ap asked_to_stop s.tile ∙ sym (asked other)) refl refl refl
      where
        asked : (t : TileValue) → anonymous_tile (asked_to_stop t) ≡ asked_to_stop (anonymous_tile t)
        asked t = ap (λ (x : Status). record t { id = 0; status = x; stop = true }) (sym (asked_seen t.status))

    -- ---- a split

    module _ (path : List ℕ) where
      abbrev cut : CutPath
      cut = record { problem = a.problem; path = path }

      abbrev also_cut : CutPath
      also_cut = record { problem = b.problem; path = path }

      heads : anonymous_tile (head_tile one cut) ≡ anonymous_tile (head_tile other also_cut)
      heads = λ n. head_tile (s.tile n) (record { problem = k.problem n; path = path })

      tails : anonymous_tile (tail_tile (length a.tiles) one cut) ≡ anonymous_tile (tail_tile (length b.tiles) other also_cut)
      tails = λ n. tail_tile 0 (s.tile n) (record { problem = k.problem n; path = path })

      at_suc : (ts : List TileValue) (m : ℕ) (xs : List TileValue)
          → open_part (take m ts ++ xs ++ drop (m + 1) ts) ≡ open_part (take m ts ++ xs ++ drop (suc m) ts)
      at_suc ts m xs = let e : m + 1 ≡ suc m = omega arith in ap (λ (n : ℕ). open_part (take m ts ++ xs ++ drop n ts)) e

      both : open_part (split_tiles one (length a.tiles) cut) ≡ open_part (split_tiles other (length b.tiles) also_cut)
      both =
          open_append (head_tile one cut ∷ []) (tail_tile (length a.tiles) one cut ∷ [])
          ∙ ap₂ (λ (xs ys : List TileValue). xs ++ ys) (one_seen (head_tile one cut) (head_tile other also_cut) heads)
          (one_seen (tail_tile (length a.tiles) one cut) (tail_tile (length b.tiles) other also_cut) tails)
          ∙ sym (open_append (head_tile other also_cut ∷ []) (tail_tile (length b.tiles) other also_cut ∷ []))

      split_again : IsTiling a.problem a.branch a.first (split a path i).tiles → IsTiling b.problem b.branch b.first (split b path j).tiles
      split_again t =
          let e : i + 1 ≡ suc i = omega arith in
          let tiles = subst (λ (n : ℕ). AreTiles a.problem a.branch.lo a.first
          (take i a.tiles ++ split_tiles one (length a.tiles) cut ++ drop n a.tiles) a.branch.hi) e t.tiles in
          let p = both_tiles a.problem a.branch.lo a.first a.tiles a.branch.hi i (head_tile one cut) (tail_tile (length a.tiles) one cut)
          s.within tiles in
          split_tiling b.problem b.branch b.first b.tiles j also_cut tb s.also_within
          (tile_seen b.problem (head_tile one cut) (head_tile other also_cut) heads
          (subst (λ (q : ProblemValue). IsTile q (head_tile one cut)) k.problem p.0))
          (tile_seen b.problem (tail_tile (length a.tiles) one cut) (tail_tile (length b.tiles) other also_cut) tails
          (subst (λ (q : ProblemValue). IsTile q (tail_tile (length a.tiles) one cut)) k.problem p.1))

      split_alike : Same (split a path i) (split b path j)
      split_alike = (
        record {
          tiles =
              at_suc a.tiles i (split_tiles one (length a.tiles) cut)
              ∙ parts_put a.tiles b.tiles i j s (split_tiles one (length a.tiles) cut) (split_tiles other (length b.tiles) also_cut) both
              ∙ sym (at_suc b.tiles j (split_tiles other (length b.tiles) also_cut));
          reply = refl;
          tiling = split_again;
        },
        ap anonymous_tile
            (at_put a.tiles (tail_tile (length a.tiles) one cut ∷ []) (drop (i + 1) a.tiles) i (head_tile one cut) s.within)
            ∙ heads
            ∙ sym (ap anonymous_tile
            (at_put b.tiles (tail_tile (length b.tiles) other also_cut ∷ []) (drop (j + 1) b.tiles) j
            (head_tile other also_cut) s.also_within)),
      )

    -- ---- the first waiting tile is leased, at places of its own

    elsewhere : (m n : ℕ) (r : Correspond a.tiles m b.tiles n) (t u : TileValue) → anonymous_tile t ≡ anonymous_tile u
        → anonymous_tile (tile_at (set a.tiles m t) i) ≡ anonymous_tile (tile_at (set b.tiles n u) j)
    elsewhere m n r t u e = by (eqb_tells i m) (eqb_tells j n)
      where
        by : (((i == m) ≡ true) × (i ≡ m)) ⊎ (((i == m) ≡ false) × (i ≡ m → ⊥))
            → (((j == n) ≡ true) × (j ≡ n)) ⊎ (((j == n) ≡ false) × (j ≡ n → ⊥))
            → anonymous_tile (tile_at (set a.tiles m t) i) ≡ anonymous_tile (tile_at (set b.tiles n u) j)
        by (inl f) (inl g) =
            ap (λ (x : ℕ). anonymous_tile (tile_at (set a.tiles m t) x)) f.1
            ∙ ap anonymous_tile (get_or-set_same a.tiles m t no_tile r.within)
            ∙ e
            ∙ sym (ap anonymous_tile (get_or-set_same b.tiles n u no_tile r.also_within))
            ∙ sym (ap (λ (x : ℕ). anonymous_tile (tile_at (set b.tiles n u) x)) g.1)
        by (inl f) (inr g) =
            absurd (g.1 (one_place a.tiles b.tiles i j n s (subst (λ (x : ℕ). Correspond a.tiles x b.tiles n) (sym f.1) r)))
        by (inr f) (inl g) =
            absurd (f.1 (one_origin a.tiles b.tiles i m j s (subst (λ (x : ℕ). Correspond a.tiles m b.tiles x) (sym g.1) r)))
        by (inr f) (inr g) =
            ap anonymous_tile (get_or-set_other a.tiles m i t no_tile f.1)
            ∙ s.tile
            ∙ sym (ap anonymous_tile (get_or-set_other b.tiles n j u no_tile g.1))

  pub lease_any_alike : AreAlikeOutcomes a b (outcome a v call.LeaseAny) (outcome b w call.LeaseAny)
  unfolding outcome
  lease_any_alike = by (first_waiting a.tiles) (first_waiting b.tiles) (waiting_meet a.tiles b.tiles k.tiles)
    where
      by : (m n : Option ℕ) → Meet a.tiles b.tiles m n → AreAlikeOutcomes a b (lent_any a v m) (lent_any b w n)
      by None None r = record { tiles = k.tiles; reply = refl; tiling = λ _. tb }
      by (Some m) (Some n) r = (lent_alike m n r).0
      by None (Some n) r = absurd r
      by (Some m) None r = absurd r

  module _ (i j : ℕ) (g h : Grant) (names : NameSameTile a i g b j h) where
    abbrev s : Correspond a.tiles i b.tiles j
    s = names.places

    abbrev t : TileValue
    t = tile_at a.tiles i

    abbrev u : TileValue
    u = tile_at b.tiles j

    any_tile : anonymous_tile (tile_at (lent_any a v (first_waiting a.tiles)).tiles i)
        ≡ anonymous_tile (tile_at (lent_any b w (first_waiting b.tiles)).tiles j)
    any_tile = by (first_waiting a.tiles) (first_waiting b.tiles) (waiting_meet a.tiles b.tiles k.tiles)
      where
        by : (m n : Option ℕ) → Meet a.tiles b.tiles m n
            → anonymous_tile (tile_at (lent_any a v m).tiles i) ≡ anonymous_tile (tile_at (lent_any b w n).tiles j)
        by None None r = s.tile
        by (Some m) (Some n) r = elsewhere i j s m n r _ _ (lent_seen m n r)
        by None (Some n) r = absurd r
        by (Some m) None r = absurd r

    -- ---- both are made, or both are refused

    by_found : (change turn : ℕ → Outcome) (check test : TileValue → Option BookFault) → check t ≡ test u → Same i j s (change i) (turn j)
        → Same i j s (made_at a.tiles change (found a.tiles g.id check)) (made_at b.tiles turn (found b.tiles h.id test))
    by_found change turn check test e m =
        subst (λ (x : Result ℕ BookFault × Result ℕ BookFault). Same i j s (made_at a.tiles change x.0) (made_at b.tiles turn x.1))
        (λ n. (
          sym (found_by a.tiles i g.id check ta.numbered s.within names.id) n,
          sym (found_by b.tiles j h.id test tb.numbered s.also_within names.also_id) n,
        ))
        (subst (λ (x : Option BookFault). Same i j s (made_at a.tiles change (unless i (check t))) (made_at b.tiles turn (unless j x))) e
        (by (check t)))
      where
        by : (d : Option BookFault) → Same i j s (made_at a.tiles change (unless i d)) (made_at b.tiles turn (unless j d))
        by None = m
        by (Some f) = (record { tiles = k.tiles; reply = refl; tiling = λ _. tb }, s.tile)

    -- by a test of how the tile stands
    by_status : (change turn : ℕ → Outcome) (stands : Status → Bool) → ((x : Status) → stands (anonymous_status x) ≡ stands x)
        → Same i j s (change i) (turn j)
        → Same i j s (made_at a.tiles change (found a.tiles g.id (λ (x : TileValue). status_fault (stands x.status) x)))
        (made_at b.tiles turn (found b.tiles h.id (λ (x : TileValue). status_fault (stands x.status) x)))
    by_status change turn stands seen m =
        by_found change turn (λ (x : TileValue). status_fault (stands x.status) x) (λ (x : TileValue). status_fault (stands x.status) x)
        (ap (λ (x : Bool). else_fault x NotWaiting None)
        (sym (seen t.status) ∙ ap (λ (x : TileValue). stands x.status) s.tile ∙ seen u.status)) m

    -- by the lease, and what else is asked
    by_lease : (change turn : ℕ → Outcome) (next then : TileValue → Option BookFault) → next t ≡ then u → Same i j s (change i) (turn j)
        → Same i j s (made_at a.tiles change (found a.tiles g.id (λ (x : TileValue). lease_fault g x (next x))))
        (made_at b.tiles turn (found b.tiles h.id (λ (x : TileValue). lease_fault h x (then x))))
    by_lease change turn next then e m =
        by_found change turn (λ (x : TileValue). lease_fault g x (next x)) (λ (x : TileValue). lease_fault h x (then x))
        (λ n. else_fault (names.current n) (StaleLease (mark_of (s.tile n))) (e n)) m

    pub call_alike : (c : Call) → Same i j s (outcome a v (addressed g c)) (outcome b w (addressed h c))
    unfolding outcome
    call_alike (call.Lease id) = by_status (lent a v) (lent b w) is_waiting waiting_seen (lent_alike i j s)
    call_alike call.LeaseAny = (lease_any_alike, any_tile)
    call_alike (call.TakeHeld id) = by_status (lent a v) (lent b w) is_held held_seen (lent_alike i j s)
    call_alike (call.Post l from to same) =
        by_lease (posted a from to) (posted b from to) (stretch_fault a.problem from to same) (stretch_fault b.problem from to same)
        (λ n. stretch_fault (k.problem n) from to same (s.tile n)) (posted_alike i j s from to)
    call_alike (call.Split l path same) =
        by_lease (split a path) (split b path) (cut_fault a.problem path same) (cut_fault b.problem path same)
        (λ n. cut_fault (k.problem n) path same (s.tile n)) (split_alike i j s path)
    call_alike (call.Retract l) =
        by_lease (retracted a) (retracted b) retract_fault retract_fault (ap retract_fault s.tile) (retracted_alike i j s)
    call_alike (call.Close l) =
        by_lease (settled a closed) (settled b closed) end_fault end_fault (ap end_fault s.tile) (closed_alike i j s)
    call_alike (call.PutBack id mark) =
        by_found (settled a (put_back mark)) (settled b (put_back mark)) (mark_fault mark) (mark_fault mark)
        (freely t ∙ ap (mark_fault mark) s.tile ∙ sym (freely u)) (put_back_alike i j s mark)
      where
        freely : (x : TileValue) → mark_fault mark x ≡ mark_fault mark (anonymous_tile x)
        freely x = ap (λ (y : Bool). else_fault y NotWaiting (else_fault (is_some (stretches_to mark x.first x.stretches)) NotAMark None))
            (sym (free_seen x.status))
    call_alike (call.RequestStop id) = by_status (settled a asked_to_stop) (settled b asked_to_stop) (λ (x : Status). not (is_closed x))
        (λ x. ap not (closed_seen x)) (asked_alike i j s)
    call_alike _ = by_lease (settled a freed) (settled b freed) (λ _. None) (λ _. None) refl (freed_alike i j s)
