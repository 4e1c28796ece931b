-- One more tile in a list of tiles: where each tile stands then, and what is kept beside them.
use Rattle.std.proofs.Common.{◌≡◌, ℕ, zero, suc, ◌+◌, ◌-◌, ◌<◌, ◌≤◌, ◌==◌, ◌⊎◌, Bool, true, false, cond, List, [], ◌∷◌, ◌++◌, length, take}
use Rattle.std.proofs.Common.{drop, refl, sym, ap, ◌∙◌, inl, inr, arith, lt-ltb, length-append}
use Rattle.std.specs.Prelude.{slice_index, count_by, nat_lt, if◌then◌else◌}
use Rattle.std.specs.List.{insert}
use Rattle.std.proofs.Math.ListN.{set}
use Rattle.std.proofs.lemmas.Bool.{cases_lt, le-ltb}
use Rattle.std.proofs.lemmas.Bool.Decides.{eqb_tells}
use Rattle.std.proofs.lemmas.List.{length-set, get_or_append_left, get_or-append_right, get_or-set_same, get_or-set_other}
use Rattle.std.proofs.lemmas.List.Edits.{length-insert, get_or-insert_below, get_or-insert_at, get_or-insert_above}
use Rattle.std.proofs.lemmas.List.Sums.{sum_by-set, sum_by-insert}
use Rattle.lab_book.specs.Tile.{TileValue, is_waiting}
use Rattle.lab_book.specs.Tiling.{AreNumbered, no_tile, tile_at}
use Rattle.lab_book.specs.Index.{AreLeast, WaitFrom}
use Rattle.lab_book.proofs.TilingLemmas.{ids_set}

-- a tile is put behind one that was changed
abbrev pub with_two : List TileValue → ℕ → TileValue → TileValue → List TileValue
with_two ts i h r = insert (set ts i h) (i + 1) r

pub two_parts : (ts : List TileValue) (i : ℕ) (h r : TileValue) → i < length ts
    → with_two ts i h r ≡ take i ts ++ (h ∷ r ∷ []) ++ drop (i + 1) ts
two_parts ts i h r l = let k : i + 1 ≡ suc i = omega arith in rw k (each ts i l)
  where
    each : (ts : List TileValue) (i : ℕ) → i < length ts
        → take (suc i) (set ts i h) ++ r ∷ drop (suc i) (set ts i h) ≡ take i ts ++ (h ∷ r ∷ []) ++ drop (suc i) ts
    each [] i l = absurd (omega arith)
    each (t ∷ ts) zero l = refl
    each (t ∷ ts) (suc i) l = ap (λ us. t ∷ us) (each ts i (omega arith))

-- ---- places

-- where a tile stands once one more stands behind the place i
abbrev pub moved_up : ℕ → ℕ → ℕ
moved_up i place = if nat_lt i place then place + 1 else place

moved_above : (i k : ℕ) → i < k → moved_up i k ≡ k + 1
moved_above i k l = let e = lt-ltb i k l in rw e refl

moved_below : (i k : ℕ) → k ≤ i → moved_up i k ≡ k
moved_below i k l = let e = le-ltb i k l in rw e refl

-- each place is the new one's, or where another tile has moved
pub record Moved (i j n : ℕ) : Type 0 where
  pub from : ℕ
  pub within : from < n
  pub to : j ≡ moved_up i from

pub moved_from : (i j n : ℕ) → i < n → j < n + 1 → (j ≡ i + 1) ⊎ Moved i j n
moved_from i j n l m = step (cases_lt i j) (cases_lt (i + 1) j)
  where
    step : (i < j) ⊎ (j ≤ i) → (i + 1 < j) ⊎ (j ≤ i + 1) → (j ≡ i + 1) ⊎ Moved i j n
    step (inr b) c = inr (record { from = j; within = omega arith; to = sym (moved_below i j b) })
    step (inl a) (inr c) = inl (omega arith)
    step (inl a) (inl c) = inr (record {
      from = j - 1;
      within = omega arith;
      to = let e = moved_above i (j - 1) (omega arith) in
          omega arith;
    })

moved_on : (i k : ℕ) → k ≤ moved_up i k
moved_on i k = step (cases_lt i k)
  where
    step : (i < k) ⊎ (k ≤ i) → k ≤ moved_up i k
    step (inl a) = let e = moved_above i k a in omega arith
    step (inr b) = let e = moved_below i k b in omega arith

module _ (ts : List TileValue) (i : ℕ) (h r : TileValue) (l : i < length ts) (same : h.id ≡ (tile_at ts i).id) where
  pub long : length (with_two ts i h r) ≡ length ts + 1
  long =
      let m = length-set ts i h in
      let n = length-insert (set ts i h) (i + 1) r (omega arith) in omega arith

  pub at_new : tile_at (with_two ts i h r) (i + 1) ≡ r
  at_new = let m = length-set ts i h in get_or-insert_at (set ts i h) (i + 1) r no_tile (omega arith)

  moved_read : (k : ℕ) → tile_at (with_two ts i h r) (moved_up i k) ≡ tile_at (set ts i h) k
  moved_read k = step (cases_lt i k)
    where
      step : (i < k) ⊎ (k ≤ i) → tile_at (with_two ts i h r) (moved_up i k) ≡ tile_at (set ts i h) k
      step (inl a) = let m = length-set ts i h in
          rw (moved_above i k a) (get_or-insert_above (set ts i h) (i + 1) r no_tile k (omega arith) (omega arith))
      step (inr b) = let m = length-set ts i h in
          rw (moved_below i k b) (get_or-insert_below (set ts i h) (i + 1) r no_tile k (omega arith) (omega arith))

  pub moved_id : (k : ℕ) → (tile_at (with_two ts i h r) (moved_up i k)).id ≡ (tile_at ts k).id
  moved_id k = ap (λ (t : TileValue). t.id) (moved_read k) ∙ ids_set ts i h l same k

  -- the new tile's id is the number of those before
  module _ (new : r.id ≡ length ts) (n : AreNumbered ts) where
    fresh : (j : ℕ) → j ≡ i + 1 → (tile_at (with_two ts i h r) j).id ≡ length ts
    fresh j e = ap (λ (k : ℕ). (tile_at (with_two ts i h r) k).id) e ∙ ap (λ (t : TileValue). t.id) at_new ∙ new

    old : (j : ℕ) (m : Moved i j (length ts)) → (tile_at (with_two ts i h r) j).id ≡ (tile_at ts m.from).id
    old j m = ap (λ (k : ℕ). (tile_at (with_two ts i h r) k).id) m.to ∙ moved_id m.from

    pub numbered_two : AreNumbered (with_two ts i h r)
    numbered_two =
        let m = long in
        record {
          below = λ j b. below j (moved_from i j (length ts) l (omega arith));
          once = λ j k b c e. once j k (moved_from i j (length ts) l (omega arith)) (moved_from i k (length ts) l (omega arith)) e;
        }
      where
        below : (j : ℕ) → (j ≡ i + 1) ⊎ Moved i j (length ts) → (tile_at (with_two ts i h r) j).id < length (with_two ts i h r)
        below j (inl e) = let m = long in let a = fresh j e in omega arith
        below j (inr d) = let m = long in let a = old j d in let b = n.below d.from d.within in omega arith

        once : (j k : ℕ) → (j ≡ i + 1) ⊎ Moved i j (length ts) → (k ≡ i + 1) ⊎ Moved i k (length ts)
            → (tile_at (with_two ts i h r) j).id ≡ (tile_at (with_two ts i h r) k).id → j ≡ k
        once j k (inl a) (inl b) e = omega arith
        once j k (inl a) (inr b) e = let c = fresh j a in let d = old k b in let f = n.below b.from b.within in absurd (omega arith)
        once j k (inr a) (inl b) e = let c = fresh k b in let d = old j a in let f = n.below a.from a.within in absurd (omega arith)
        once j k (inr a) (inr b) e =
            let f = n.once a.from b.from a.within b.within (sym (old j a) ∙ e ∙ old k b) in
            a.to ∙ ap (moved_up i) f ∙ sym b.to

    -- and it is looked for from its place on
    pub least_two : (places : List ℕ) → AreLeast places ts → AreLeast (places ++ (i + 1) ∷ []) (with_two ts i h r)
    least_two places a = record {
      long = let n = a.long in let m = length-append places ((i + 1) ∷ []) in let o = long in omega arith;
      least = λ j m. least j (moved_from i j (length ts) l (let n = long in omega arith));
    }
      where
        least : (j : ℕ) → (j ≡ i + 1) ⊎ Moved i j (length ts)
            → slice_index (places ++ (i + 1) ∷ []) (tile_at (with_two ts i h r) j).id ≤ j
        least j (inl e) =
            let m = a.long in
            let f = get_or-append_right places ((i + 1) ∷ []) (length ts) (length ts) 0 (omega arith) (omega arith) in
            let z : length ts - length ts ≡ 0 = omega arith in
            rw (fresh j e, f, z) (omega arith)
        least j (inr d) =
            let m = a.long in
            let b = n.below d.from d.within in
            let f = get_or_append_left places ((i + 1) ∷ []) 0 (tile_at ts d.from).id (omega arith) in
            let g = a.least d.from d.within in
            let o = moved_on i d.from in
            let p = d.to in
            rw (old j d, f) (omega arith)

  -- no tile before a place waits: the tiles up to the one that is parted stand where they stood
  pub waits_two : (from to : ℕ) → is_waiting h.status ≡ is_waiting (tile_at ts i).status → WaitFrom from ts → to ≤ from → to ≤ i + 1
      → WaitFrom to (with_two ts i h r)
  waits_two from to s w a b j m c =
      let n = length-set ts i h in
      ap (λ (t : TileValue). is_waiting t.status) (get_or-insert_below (set ts i h) (i + 1) r no_tile j (omega arith) (omega arith))
      ∙ waits_at j (eqb_tells j i) (w j (omega arith) (omega arith))
    where
      waits_at : (j : ℕ) → (((j == i) ≡ true) × (j ≡ i)) ⊎ (((j == i) ≡ false) × (j ≡ i → ⊥)) → is_waiting (tile_at ts j).status ≡ false
          → is_waiting (tile_at (set ts i h) j).status ≡ false
      waits_at j (inl e) x =
          rw e.1 (ap (λ (t : TileValue). is_waiting t.status) (get_or-set_same ts i h no_tile l) ∙ s
          ∙ ap (λ (k : ℕ). is_waiting (tile_at ts k).status) (sym e.1) ∙ x)
      waits_at j (inr e) x = ap (λ (t : TileValue). is_waiting t.status) (get_or-set_other ts i j h no_tile e.1) ∙ x

-- ---- how many tiles pass a test

pub count_two : (f : TileValue → Bool) (ts : List TileValue) (i : ℕ) (h r : TileValue) → i < length ts → f h ≡ f (tile_at ts i)
    → count_by f (with_two ts i h r) ≡ count_by f ts + cond (f r) 1 0
count_two f ts i h r l e =
    let a = sum_by-insert (λ (t : TileValue). cond (f t) 1 0) (set ts i h) (i + 1) r in
    let b = sum_by-set (λ (t : TileValue). cond (f t) 1 0) ts i h no_tile l in
    let c : cond {A = ℕ} (f h) 1 0 ≡ cond {A = ℕ} (f (tile_at ts i)) 1 0 = ap {B = ℕ} (λ b. cond b 1 0) e in omega arith
