-- What is kept of tiles: their numbers, where they are looked for, how many wait and are leased, and the totals of what was posted.
use Rattle.std.proofs.Common.{◌≡◌, ℕ, suc, ◌+◌, ◌-◌, ◌^◌, ◌<◌, ◌≤◌, ◌==◌, ◌⊎◌, Bool, true, false, cond, Some, None, List, [], ◌∷◌, ◌++◌, length, get_or}
use Rattle.std.proofs.Common.{take, drop, slice_get, refl, sym, ap, ◌∙◌, inl, inr, arith, lt-ltb, length-append}
use Rattle.std.specs.Prelude.{count_by}
use Rattle.std.specs.List.{position}
use Rattle.std.proofs.Math.ListN.{set}
use Rattle.std.proofs.lemmas.Bool.{cases_lt, le-ltb, ne_eqb, false≢true}
use Rattle.std.proofs.lemmas.Bool.Decides.{eqb_tells}
use Rattle.std.proofs.lemmas.List.{length-set, get_or_default, get_or-set_same, get_or-set_other}
use Rattle.std.proofs.lemmas.List.Quantifiers.{position-Some}
use Rattle.std.proofs.lemmas.List.Sums.{position_or_len_is, sum_by-set}
use Rattle.lab_book.specs.declared.status.Status.{Status}
use Rattle.lab_book.specs.Tile.{TileValue, is_waiting, is_leased}
use Rattle.lab_book.specs.Tiling.{AreNumbered, no_tile, tile_at}
use Rattle.x_branches.specs.Cut.{CutPath}
use Rattle.x_branches.specs.Stretch.{StretchValue, levels_of_stretch}
use Rattle.lab_book.specs.Book.{tile_place, first_waiting, waiting_in, posted_tile, head_tile, tail_tile}
use Rattle.lab_book.specs.Index.{AreLeast, WaitFrom, KeepsTiles}
use Rattle.lab_book.specs.Totals.{Measure, measured, measured_in, TotalsValue, total, AreTotals}
use Rattle.lab_book.proofs.InsertLemmas.{with_two, numbered_two, least_two, waits_two, count_two}
use Rattle.lab_book.proofs.TilingLemmas.{ids_set, numbered_set}
use Rattle.lab_book.proofs.TotalsLemmas.{totals_same, totals_posted, totals_kept, totals_reached, totals_two}

-- the first place that passes a test, where one does and none before it
pub position_at : {X : Type 0} (p : X → Bool) (xs : List X) (i : ℕ) (d : X) → i < length xs → ((k : ℕ) → k < i → p (get_or xs k d) ≡ false)
    → p (get_or xs i d) ≡ true → position p xs ≡ Some i
position_at p xs i d l before here =
    let e = position_or_len_is p xs i d (omega arith) before (λ _. here) in
    rw e (rw (lt-ltb i (length xs) l) refl)

pub position_none : {X : Type 0} (p : X → Bool) (xs : List X) (d : X) → ((k : ℕ) → k < length xs → p (get_or xs k d) ≡ false)
    → position p xs ≡ None
position_none p xs d each =
    let e = position_or_len_is p xs (length xs) d (omega arith) each (λ l. absurd (omega arith)) in
    rw e (rw (le-ltb (length xs) (length xs) (omega arith)) refl)

pub count_some : (f : TileValue → Bool) (ts : List TileValue) (i n : ℕ) → f no_tile ≡ false → i < length ts → n ≡ count_by f ts
    → f (tile_at ts i) ≡ true → 0 < n
count_some f ts i n none l e h =
    let s = sum_by-set (λ t. cond (f t) 1 0) ts i no_tile no_tile l in
    let g : cond {A = ℕ} (f (tile_at ts i)) 1 0 ≡ 1 = ap {B = ℕ} (λ b. cond b 1 0) h in
    let k : cond {A = ℕ} (f no_tile) 1 0 ≡ 0 = ap {B = ℕ} (λ b. cond b 1 0) none in
    omega arith

pub unplaced : (places : List ℕ) (ts : List TileValue) (id : ℕ) → AreNumbered ts → AreLeast places ts → length places ≤ id
    → None ≡ tile_place id ts
unplaced places ts id n a l =
    sym (position_none (λ (t : TileValue). t.id == id) ts no_tile
    (λ k b. ne_eqb (tile_at ts k).id id (λ e. let i = n.below k b in let m = a.long in omega arith)))

-- where no tile waits
pub none_waits : (ts : List TileValue) (waiting : ℕ) → waiting ≡ waiting_in ts → waiting ≡ 0 → None ≡ first_waiting ts
none_waits ts waiting e z =
    sym (position_none (λ (t : TileValue). is_waiting t.status) ts no_tile
    (λ k l. waits_not k l (is_waiting (tile_at ts k).status) refl))
  where
    waits_not : (k : ℕ) → k < length ts → (b : Bool) → is_waiting (tile_at ts k).status ≡ b → is_waiting (tile_at ts k).status ≡ false
    waits_not k l true h = let s = count_some (λ (t : TileValue). is_waiting t.status) ts k waiting refl l e h in absurd (omega arith)
    waits_not k l false h = h

-- from the first tile that waits on
pub waits_first : (ts : List TileValue) (i : ℕ) → Some i ≡ first_waiting ts → WaitFrom i ts
waits_first ts i e k l b = (position-Some (λ (t : TileValue). is_waiting t.status) ts i no_tile (sym e)).2 k b

least_set : (places : List ℕ) (ts : List TileValue) (i : ℕ) (u : TileValue) → AreLeast places ts → i < length ts
    → u.id ≡ (tile_at ts i).id → AreLeast places (set ts i u)
least_set places ts i u a l e =
    let long = length-set ts i u in
    let same = ids_set ts i u l e in
    record {
      long = a.long ∙ sym long;
      least = λ j k. rw (same j) (a.least j (let m = long in omega arith));
    }

waits_set : (ts : List TileValue) (i from to : ℕ) (u : TileValue) → i < length ts → WaitFrom from ts
    → ((k : ℕ) → k < to → (k < from) ⊎ ((k ≡ i) × (is_waiting u.status ≡ false))) → (is_waiting u.status ≡ true → to ≤ i)
    → WaitFrom to (set ts i u)
waits_set ts i from to u l w passed waits j m b =
    let n = length-set ts i u in waits_at j (omega arith) b (eqb_tells j i)
  where
    here : (j : ℕ) → j ≡ i → j < to → (b : Bool) → is_waiting u.status ≡ b → b ≡ false
    here j e c true h = let f = waits h in absurd (omega arith)
    here j e c false h = refl

    there : (j : ℕ) → j < length ts → (j ≡ i → ⊥) → (j < from) ⊎ ((j ≡ i) × (is_waiting u.status ≡ false)) → is_waiting (tile_at ts j).status ≡ false
    there j m o (inl c) = w j m c
    there j m o (inr c) = absurd (o c.0)

    waits_at : (j : ℕ) → j < length ts → j < to → (((j == i) ≡ true) × (j ≡ i)) ⊎ (((j == i) ≡ false) × (j ≡ i → ⊥))
        → is_waiting (tile_at (set ts i u) j).status ≡ false
    waits_at j m c (inl e) =
        rw e.1 (ap (λ (t : TileValue). is_waiting t.status) (get_or-set_same ts i u no_tile l) ∙ here j e.1 c (is_waiting u.status) refl)
    waits_at j m c (inr e) =
        ap (λ (t : TileValue). is_waiting t.status) (get_or-set_other ts i j u no_tile e.1) ∙ there j m e.1 (passed j c)

recount : (f : TileValue → Bool) (ts : List TileValue) (i n m : ℕ) (u : TileValue) → i < length ts → n ≡ count_by f ts
    → m + cond (f (tile_at ts i)) 1 0 ≡ n + cond (f u) 1 0 → m ≡ count_by f (set ts i u)
recount f ts i n m u l e h = let s = sum_by-set (λ t. cond (f t) 1 0) ts i u no_tile l in omega arith

pub keeps_set : (ts : List TileValue) (places : List ℕ) (from to waiting leased waits lent i : ℕ) (u : TileValue) (old new : TotalsValue)
    → KeepsTiles ts places from waiting leased old → i < length ts → u.id ≡ (tile_at ts i).id
    → ((k : ℕ) → k < to → (k < from) ⊎ ((k ≡ i) × (is_waiting u.status ≡ false))) → (is_waiting u.status ≡ true → to ≤ i)
    → waits + cond (is_waiting (tile_at ts i).status) 1 0 ≡ waiting + cond (is_waiting u.status) 1 0
    → lent + cond (is_leased (tile_at ts i).status) 1 0 ≡ leased + cond (is_leased u.status) 1 0
    → AreTotals (set ts i u) new → KeepsTiles (set ts i u) places to waits lent new
keeps_set ts places from to waiting leased waits lent i u old new k l e p q a b s = record {
  numbered = numbered_set ts i u k.numbered l e;
  index = least_set places ts i u k.index l e;
  waits_from = waits_set ts i from to u l k.waits_from p q;
  waiting_are = recount (λ t. is_waiting t.status) ts i waiting waits u l k.waiting_are a;
  leased_are = recount (λ t. is_leased t.status) ts i leased lent u l k.leased_are b;
  totals_are = s;
}

-- the same where the tiles before and after are read
pub keeps_settled : (ts : List TileValue) (places : List ℕ) (from to waiting leased waits lent i : ℕ) (t v u : TileValue) (s : Status)
    (stop a b c d : Bool) (totals : TotalsValue) → KeepsTiles ts places from waiting leased totals → i < length ts
    → t ≡ get_or ts i t → v ≡ get_or ts i v → u ≡ record v { status = s; stop = stop }
    → a ≡ is_waiting t.status → b ≡ is_waiting s → waits + cond a 1 0 ≡ waiting + cond b 1 0 → c ≡ is_leased t.status → d ≡ is_leased s
    → lent + cond c 1 0 ≡ leased + cond d 1 0
    → ((k : ℕ) → k < to → (k < from) ⊎ ((k ≡ i) × (is_waiting s ≡ false))) → (is_waiting s ≡ true → to ≤ i)
    → KeepsTiles (set ts i u) places to waits lent totals
keeps_settled ts places from to waiting leased waits lent i t v u s stop a b c d totals k l et ev eu ea eb ew ec ed el p q =
    let old : t ≡ tile_at ts i = et ∙ get_or_default ts i t no_tile l in
    let same : v ≡ tile_at ts i = ev ∙ get_or_default ts i v no_tile l in
    keeps_set ts places from to waiting leased waits lent i u totals totals k l
    (ap (λ (t : TileValue). t.id) eu ∙ ap (λ (t : TileValue). t.id) same)
    (rw eu p) (rw eu q) (rw (← old, eu, ← ea, ← eb) ew) (rw (← old, eu, ← ec, ← ed) el)
    (totals_same ts i u l totals k.totals_are (ap (λ (t : TileValue). t.stretches) eu ∙ ap (λ (t : TileValue). t.stretches) same))

-- a tile with the same id and status
pub keeps_same : (ts : List TileValue) (places : List ℕ) (from waiting leased i : ℕ) (t u : TileValue) (old_totals totals : TotalsValue)
    → KeepsTiles ts places from waiting leased old_totals → i < length ts → t ≡ get_or ts i t → u.id ≡ t.id → u.status ≡ t.status
    → AreTotals (set ts i u) totals → KeepsTiles (set ts i u) places from waiting leased totals
keeps_same ts places from waiting leased i t u old_totals totals k l e a b s =
    let old : t ≡ tile_at ts i = e ∙ get_or_default ts i t no_tile l in
    let same : u.status ≡ (tile_at ts i).status = b ∙ ap (λ (t : TileValue). t.status) old in
    keeps_set ts places from from waiting leased waiting leased i u old_totals totals k l (a ∙ ap (λ (t : TileValue). t.id) old) (λ j m. inl m)
    (λ w. behind (ap is_waiting (sym same) ∙ w) (cases_lt i from)) (rw same refl) (rw same refl) s
  where
    behind : is_waiting (tile_at ts i).status ≡ true → (i < from) ⊎ (from ≤ i) → from ≤ i
    behind w (inl m) = absurd (false≢true (sym (k.waits_from i l m) ∙ w))
    behind w (inr m) = m

-- two reads of a tile
pub same_read : (ts : List TileValue) (i : ℕ) (t u : TileValue) → i < length ts → t ≡ get_or ts i t → u ≡ get_or ts i u → t ≡ u
same_read ts i t u l e f = e ∙ get_or_default ts i t u l ∙ sym f

-- a tile keeps its first stretches alone
pub keeps_first : (ts : List TileValue) (places : List ℕ) (from waiting leased i count : ℕ) (t u v : TileValue) (xs : List StretchValue)
    (old new : TotalsValue) → KeepsTiles ts places from waiting leased old → i < length ts → v ≡ get_or ts i v → xs ≡ v.stretches
    → ((m : Measure) → total new m + measured_in m (drop count xs) ≡ total old m) → length new.levels ≡ length old.levels
    → t ≡ get_or ts i t → u.id ≡ t.id → u.status ≡ t.status → u.stretches ≡ take count t.stretches
    → KeepsTiles (set ts i u) places from waiting leased new
keeps_first ts places from waiting leased i count t u v xs old new k l ev ex taken levels et a b e =
    let same : t ≡ tile_at ts i = et ∙ get_or_default ts i t no_tile l in
    let here : xs ≡ (tile_at ts i).stretches = ex ∙ ap (λ (t : TileValue). t.stretches) (ev ∙ get_or_default ts i v no_tile l) in
    keeps_same ts places from waiting leased i t u old new k l et a b
    (totals_kept ts i u l old new count k.totals_are (rw here at taken) levels (e ∙ ap (λ (t : TileValue). take count t.stretches) same))

-- the stretch that is read last is the one that was posted
pub last_is : (ts : List TileValue) (i n : ℕ) (t u v : TileValue) (x y : StretchValue) (xs : List StretchValue) → i < length ts
    → u ≡ posted_tile t x → v ≡ get_or (set ts i u) i v → xs ≡ v.stretches → n ≡ length xs → slice_get xs (n - 1) ≡ Some y → y ≡ x
last_is ts i n t u v x y xs l eu ev ex en ey =
    let same : xs ≡ t.stretches ++ x ∷ [] =
    ex ∙ ap (λ (t : TileValue). t.stretches) (ev ∙ get_or-set_same ts i u v l) ∙ ap (λ (t : TileValue). t.stretches) eu in
    let told : Some y ≡ Some x = sym ey ∙ (λ j. slice_get (same j) ((en ∙ ap length same) j - 1)) ∙ last_get t.stretches x in cc
  where
    last_get : (ys : List StretchValue) (z : StretchValue) → slice_get (ys ++ z ∷ []) (length (ys ++ z ∷ []) - 1) ≡ Some z
    last_get [] z = refl
    last_get (w ∷ ys) z =
        let m : length ((w ∷ ys) ++ z ∷ []) - 1 ≡ suc (length (ys ++ z ∷ []) - 1) = omega (arith, length-append ys (z ∷ [])) in
        rw m (last_get ys z)

-- a stretch is posted to a tile, and its numbers are added to the totals
pub keeps_posted_totals : (ts : List TileValue) (places : List ℕ) (from waiting leased i : ℕ) (t u : TileValue) (x y : StretchValue)
    (old reached new : TotalsValue) → KeepsTiles ts places from waiting leased old → i < length ts → t ≡ get_or ts i t → u ≡ posted_tile t x
    → y ≡ x → ((m : Measure) → total reached m ≡ total old m) → length old.levels ≤ length reached.levels
    → ((m : Measure) → total new m ≡ total reached m + measured m y) → length new.levels ≡ length reached.levels
    → ((m : Measure) → measured m y < 2 ^ 64) → length (levels_of_stretch y) ≤ length reached.levels
    → KeepsTiles (set ts i u) places from waiting leased new
keeps_posted_totals ts places from waiting leased i t u x y old reached new k l et eu ey same longer added levels small long =
    let here : t ≡ tile_at ts i = et ∙ get_or_default ts i t no_tile l in
    keeps_same ts places from waiting leased i t u old new k l et (ap (λ (t : TileValue). t.id) eu) (ap (λ (t : TileValue). t.status) eu)
    (totals_posted ts i u l old reached new y k.totals_are same longer added levels small long
    (ap (λ (t : TileValue). t.stretches) eu ∙ (λ j. (here j).stretches ++ sym ey j ∷ [])))

-- room was made for totals, and the tile is as it was
pub keeps_reached : (ts : List TileValue) (places : List ℕ) (from waiting leased i : ℕ) (t u : TileValue) (old new : TotalsValue)
    → KeepsTiles ts places from waiting leased old → i < length ts → t ≡ get_or ts i t → u ≡ t
    → ((m : Measure) → total new m ≡ total old m) → length old.levels ≤ length new.levels
    → KeepsTiles (set ts i u) places from waiting leased new
keeps_reached ts places from waiting leased i t u old new k l et eu same longer =
    let here : t ≡ tile_at ts i = et ∙ get_or_default ts i t no_tile l in
    keeps_same ts places from waiting leased i t u old new k l et (ap (λ (t : TileValue). t.id) eu) (ap (λ (t : TileValue). t.status) eu)
    (totals_same ts i u l new (totals_reached ts old new k.totals_are same longer) (ap (λ (t : TileValue). t.stretches) (eu ∙ here)))

-- a tile is parted in two, and the second waits
pub keeps_split : (ts us : List TileValue) (places moved : List ℕ) (from to waiting leased i n : ℕ) (t u r : TileValue) (cut : CutPath)
    (totals : TotalsValue) → KeepsTiles ts places from waiting leased totals → i < length ts
    → t ≡ get_or ts i t → u ≡ head_tile t cut → n ≡ length ts → r ≡ tail_tile n t cut → us ≡ with_two ts i u r
    → moved ≡ places ++ (i + 1) ∷ [] → to ≤ from → to ≤ i + 1
    → KeepsTiles us moved to (waiting + 1) leased totals
keeps_split ts us places moved from to waiting leased i n t u r cut totals k l et eu en er es em low near =
    let old : t ≡ tile_at ts i = et ∙ get_or_default ts i t no_tile l in
    let id : u.id ≡ (tile_at ts i).id = ap (λ (t : TileValue). t.id) eu ∙ ap (λ (t : TileValue). t.id) old in
    let same : u.status ≡ (tile_at ts i).status = ap (λ (t : TileValue). t.status) eu ∙ ap (λ (t : TileValue). t.status) old in
    let new : r.id ≡ length ts = ap (λ (t : TileValue). t.id) er ∙ en in
    let free = ap (λ (t : TileValue). t.status) er in
    let a = count_two (λ (t : TileValue). is_waiting t.status) ts i u r l (ap is_waiting same) in
    let b = count_two (λ (t : TileValue). is_leased t.status) ts i u r l (ap is_leased same) in
    let c : cond {A = ℕ} (is_waiting r.status) 1 0 ≡ 1 = ap {B = ℕ} (λ s. cond (is_waiting s) 1 0) free in
    let d : cond {A = ℕ} (is_leased r.status) 1 0 ≡ 0 = ap {B = ℕ} (λ s. cond (is_leased s) 1 0) free in
    let e = k.waiting_are in
    let f = k.leased_are in
    rw (es, em) (record {
      numbered = numbered_two ts i u r l id new k.numbered;
      index = least_two ts i u r l id new k.numbered places k.index;
      waits_from = waits_two ts i u r l id from to (ap is_waiting same) k.waits_from low near;
      waiting_are = omega arith;
      leased_are = omega arith;
      totals_are = totals_two ts i u r totals l k.totals_are (ap (λ (t : TileValue). t.stretches) eu ∙ ap (λ (t : TileValue). t.stretches) old)
          (ap (λ (t : TileValue). t.stretches) er);
    })
