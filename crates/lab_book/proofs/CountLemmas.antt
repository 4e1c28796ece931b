-- Each posted stretch has an entry of its own in the history.
use Rattle.std.proofs.Common.{◌≡◌, ℕ, ◌+◌, ◌-◌, ◌<◌, ◌≤◌, ◌⊎◌, Bool, true, false, Option, Some, None, Result, Ok, Err, List, [], ◌∷◌, ◌++◌}
use Rattle.std.proofs.Common.{length, take, drop, refl, ap, inl, inr, arith, length-append}
use Rattle.std.specs.Prelude.{unwrap_or, if◌then◌else◌}
use Rattle.std.specs.List.{sum_by}
use Rattle.std.proofs.Math.ListN.{set}
use Rattle.std.proofs.lemmas.Bool.{cases_lt}
use Rattle.std.proofs.lemmas.List.{get_or_past, length-take-le, drop_all, set_past}
use Rattle.std.proofs.lemmas.List.Sums.{sum_by-set, sum_by-append, sum_by-take-drop, sum_by-take-le, sum_by-drop_more}
use Rattle.x_steps.specs.StateValue.{StateValue}
use Rattle.x_branches.specs.Cut.{CutPath}
use Rattle.x_branches.specs.Stretch.{StretchValue}
use Rattle.lab_history.specs.declared.fault.BookFault.{BookFault}
use Rattle.lab_history.specs.declared.entry.Call.{Call}
use Rattle.lab_history.specs.declared.entry.Call.TheVariants as call
use Rattle.lab_history.specs.declared.entry.Entry.{Entry}
use Rattle.lab_book.specs.Tile.{TileValue}
use Rattle.lab_book.specs.Tiling.{no_tile, tile_at}
use Rattle.lab_book.specs.Posted.{posted_count}
use Rattle.lab_book.specs.States.{same_state}
use Rattle.lab_book.specs.Book.{BookValue, Outcome, IsBook, outcome, book_step, new_book, replayed, made_at, lent, lent_any, posted, split}
use Rattle.lab_book.specs.Book.{split_tiles, retracted, settled, freed, closed, put_back, asked_to_stop, stretches_to, with_stretch}
use Rattle.lab_book.specs.Book.{first_waiting}

-- a tile with at most one stretch more in the place of one
count_set : (ts : List TileValue) (i : ℕ) (u : TileValue) → length u.stretches ≤ length (tile_at ts i).stretches + 1
    → posted_count (set ts i u) ≤ posted_count ts + 1
count_set ts i u m = step (cases_lt i (length ts))
  where
    step : (i < length ts) ⊎ (length ts ≤ i) → posted_count (set ts i u) ≤ posted_count ts + 1
    step (inl l) = let e = sum_by-set (λ (t : TileValue). length t.stretches) ts i u no_tile l in omega arith
    step (inr l) = let e = ap posted_count (set_past ts i u l) in omega arith

-- a tile in two, of which the second has none
count_parted : (ts : List TileValue) (i id : ℕ) (cut : CutPath)
    → posted_count (take i ts ++ split_tiles (tile_at ts i) id cut ++ drop (i + 1) ts) ≤ posted_count ts
count_parted ts i id cut =
    let a = sum_by-append (λ (t : TileValue). length t.stretches) (take i ts ++ split_tiles (tile_at ts i) id cut) (drop (i + 1) ts) in
    let b = sum_by-append (λ (t : TileValue). length t.stretches) (take i ts) (split_tiles (tile_at ts i) id cut) in
    let c = step (cases_lt i (length ts)) in
    omega arith
  where
    step : (i < length ts) ⊎ (length ts ≤ i)
        → sum_by (λ (t : TileValue). length t.stretches) (take i ts) + length (tile_at ts i).stretches + sum_by
        (λ (t : TileValue). length t.stretches) (drop (i + 1) ts) ≤ posted_count ts
    step (inl l) =
        let a = sum_by-take-drop (λ (t : TileValue). length t.stretches) ts i in
        let b = sum_by-drop_more (λ (t : TileValue). length t.stretches) ts i no_tile l in omega arith
    step (inr l) =
        let a = sum_by-take-le (λ (t : TileValue). length t.stretches) ts i in
        let b = ap (λ (t : TileValue). length t.stretches) (get_or_past ts i no_tile l) in
        let c = ap posted_count (drop_all (i + 1) ts (omega arith)) in omega arith

count_back : (s m : StateValue) (xs ys : List StretchValue) → stretches_to s m xs ≡ Some ys → length ys ≤ length xs
count_back s m [] ys e = here (same_state s m) e
  where
    here : (b : Bool) → (if b then Some [] else None) ≡ Some ys → length ys ≤ 0
    here true h = let n : [] ≡ ys = cc in let k = ap (length {A = StretchValue}) n in omega arith
    here false h = absurd (cc)
count_back s m (x ∷ xs) ys e = here (same_state s m) (stretches_to s x.to xs) (λ zs r. count_back s x.to xs zs r) refl e
  where
    here : (b : Bool) (rest : Option (List StretchValue))
        → ((zs : List StretchValue) → stretches_to s x.to xs ≡ Some zs → length zs ≤ length xs) → stretches_to s x.to xs ≡ rest
        → (if b then Some [] else with_stretch x rest) ≡ Some ys → length ys ≤ length (x ∷ xs)
    here true rest f r h = let n : [] ≡ ys = cc in let k = ap (length {A = StretchValue}) n in omega arith
    here false None f r h = absurd (cc)
    here false (Some zs) f r h =
        let n : x ∷ zs ≡ ys = cc in
        let k = ap (length {A = StretchValue}) n in
        let l = f zs r in omega arith

count_put_back : (s : StateValue) (t : TileValue) → length (put_back s t).stretches ≤ length t.stretches
count_put_back s t = here (stretches_to s t.first t.stretches) refl
  where
    here : (r : Option (List StretchValue)) → stretches_to s t.first t.stretches ≡ r → length (unwrap_or r t.stretches) ≤ length t.stretches
    here None e = omega arith
    here (Some ys) e = count_back s t.first t.stretches ys e

count_made : (ts : List TileValue) (change : ℕ → Outcome) (r : Result ℕ BookFault)
    → ((i : ℕ) → posted_count (change i).tiles ≤ posted_count ts + 1) → posted_count (made_at ts change r).tiles ≤ posted_count ts + 1
count_made ts change (Ok i) h = h i
count_made ts change (Err f) h = omega arith

module _ (b : BookValue) (w : ℕ) where
  count_lent : (i : ℕ) → posted_count (lent b w i).tiles ≤ posted_count b.tiles + 1
  count_lent i = count_set b.tiles i _ (omega arith)

  count_any : (place : Option ℕ) → posted_count (lent_any b w place).tiles ≤ posted_count b.tiles + 1
  count_any None = omega arith
  count_any (Some i) = count_lent i

  count_settled : (change : TileValue → TileValue) → ((t : TileValue) → length (change t).stretches ≤ length t.stretches) → (i : ℕ)
      → posted_count (settled b change i).tiles ≤ posted_count b.tiles + 1
  count_settled change h i = let l = h (tile_at b.tiles i) in count_set b.tiles i (change (tile_at b.tiles i)) (omega arith)

  count_posted : (from to : StateValue) (i : ℕ) → posted_count (posted b from to i).tiles ≤ posted_count b.tiles + 1
  count_posted from to i =
      let l = length-append (tile_at b.tiles i).stretches (record { problem = b.problem; from = from; to = to } ∷ []) in
      count_set b.tiles i _ (omega arith)

  count_retracted : (i : ℕ) → posted_count (retracted b i).tiles ≤ posted_count b.tiles + 1
  count_retracted i =
      let l = length-take-le (length (tile_at b.tiles i).stretches - 1) (tile_at b.tiles i).stretches (omega arith) in
      count_set b.tiles i _ (omega arith)

  count_split : (path : List ℕ) (i : ℕ) → posted_count (split b path i).tiles ≤ posted_count b.tiles + 1
  count_split path i = let l = count_parted b.tiles i (length b.tiles) (record { problem = b.problem; path = path }) in omega arith

-- a call adds at most one stretch
count_outcome : (b : BookValue) (w : ℕ) (c : Call) → posted_count (outcome b w c).tiles ≤ posted_count b.tiles + 1
unfolding outcome
count_outcome b w call.LeaseAny = count_any b w (first_waiting b.tiles)
count_outcome b w (call.Post g from to same) = count_made b.tiles (posted b from to) _ (count_posted b w from to)
count_outcome b w (call.Split g path same) = count_made b.tiles (split b path) _ (count_split b w path)
count_outcome b w (call.Retract g) = count_made b.tiles (retracted b) _ (count_retracted b w)
count_outcome b w (call.Park g) = count_made b.tiles (settled b freed) _ (count_settled b w freed (λ t. omega arith))
count_outcome b w (call.Abandon g) = count_made b.tiles (settled b freed) _ (count_settled b w freed (λ t. omega arith))
count_outcome b w (call.Close g) = count_made b.tiles (settled b closed) _ (count_settled b w closed (λ t. omega arith))
count_outcome b w (call.PutBack id s) = count_made b.tiles (settled b (put_back s)) _ (count_settled b w (put_back s) (count_put_back s))
count_outcome b w (call.RequestStop id) =
    count_made b.tiles (settled b asked_to_stop) _ (count_settled b w asked_to_stop (λ t. omega arith))
count_outcome b w _ = count_made b.tiles (lent b w) _ (count_lent b w)

count_replayed : (b : BookValue) (es : List Entry) → posted_count (replayed b es).tiles ≤ posted_count b.tiles + length es
count_replayed b [] = omega arith
count_replayed b (e ∷ es) =
    let a = count_replayed (book_step b e.worker e.call) es in
    let c = count_outcome b e.worker e.call in omega arith

-- so there are no more stretches than entries
pub count_book : (b : BookValue) → IsBook b → posted_count b.tiles ≤ length b.history
count_book b i =
    let e = ap (λ (x : BookValue). posted_count x.tiles) i.replay in
    let l = count_replayed (new_book b.problem b.branch b.first) b.history in omega arith
