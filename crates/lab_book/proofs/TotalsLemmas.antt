-- The totals of what tiles posted, as a tile changes, and what a book tells by them.
use Rattle.std.proofs.Common.{◌≡◌, ℕ, zero, suc, ◌+◌, ◌*◌, ◌^◌, ◌<◌, ◌≤◌, ◌⊎◌, ◌-◌, Some, slice_get, List, [], ◌∷◌, ◌++◌, length, take, drop, map, get_or, refl, sym, ap, ap₂, ◌∙◌}
use Rattle.std.proofs.Common.{subst, inl, inr, arith}
use Rattle.std.specs.Prelude.{All}
use Rattle.std.specs.List.{sum_by}
use Rattle.std.proofs.Math.ListN.{set}
use Rattle.std.proofs.lemmas.Bool.{cases_lt}
use Rattle.std.proofs.lemmas.List.{length-map, get_or_past, get_or_default, drop_all}
use Rattle.std.proofs.lemmas.List.Concat.{length-flat_map}
use Rattle.std.proofs.lemmas.List.Elements.{All-set, All-push, All-take, All-drop, All-append}
use Rattle.std.proofs.lemmas.List.Sums.{sum_by-cons, sum_by-set, sum_by_push, sum_by-take-drop, sum_by-drop_more, sum_by-insert, sum_by-le}
use Rattle.shared_words.specs.Lists.{numbers}
use Rattle.cover_problem.specs.Problem.{ProblemValue}
use Rattle.cover_problem.proofs.NumberLemmas.{length-numbers}
use Rattle.x_steps.specs.Run.{level_count, states_between, visits_between}
use Rattle.x_steps.specs.Levels.{without_last_zeros, before_counts}
use Rattle.x_steps.proofs.BetweenLemmas.{counts_at}
use Rattle.x_branches.specs.declared.branch.Branch.{Branch}
use Rattle.x_branches.specs.Stretch.{StretchValue, levels_of_stretch}
use Rattle.x_branches.proofs.PostingLemmas.{counts_fit}
use Rattle.x_steps.specs.StateValue.{StateValue}
use Rattle.lab_book.specs.Tile.{TileValue}
use Rattle.lab_book.specs.Tiling.{IsTiling, no_tile, tile_at}
use Rattle.lab_book.specs.Posted.{posted_count, posted_level, posted_levels, posted_visits, stretch_level, stretch_visits}
use Rattle.lab_book.specs.Totals.{Measure, of_visits, of_level, measured, measured_in, measured_of, TotalsValue, total, IsSmall, AreTotals}
use Rattle.lab_book.proofs.TileLemmas.{at_place}
use Rattle.lab_book.proofs.TilingLemmas.{tile_in}
use Rattle.lab_book.proofs.InsertLemmas.{with_two, two_parts}
use Rattle.lab_book.proofs.SumLemmas.{count_at, joined_levels}

-- ---- a tile changes

-- what is small stays so where more totals are kept
small_still : (n m : ℕ) (xs : List StretchValue) → n ≤ m → All (IsSmall n) xs → All (IsSmall m) xs
small_still n m xs l a k d b = let s = a k d b in record { small = s.small; long = let f = s.long in omega arith }

module _ (ts : List TileValue) (i : ℕ) (u : TileValue) (within : i < length ts) where
  measured_set : (m : Measure) → measured_of m (set ts i u) + measured_in m (tile_at ts i).stretches ≡ measured_of m ts + measured_in m u.stretches
  measured_set m = sum_by-set (λ (t : TileValue). measured_in m t.stretches) ts i u no_tile within

  -- it has the same stretches
  pub totals_same : (totals : TotalsValue) → AreTotals ts totals → u.stretches ≡ (tile_at ts i).stretches → AreTotals (set ts i u) totals
  totals_same totals a e = record {
    small = All-set (λ (t : TileValue). All (IsSmall (length totals.levels)) t.stretches) ts i u
        (subst (All (IsSmall (length totals.levels))) (sym e) (a.small i no_tile within)) a.small;
    sums = λ m. let s = a.sums m in let b = measured_set m in let c = ap (measured_in m) e in omega arith;
  }

  -- it has one more
  pub totals_posted : (old reached new : TotalsValue) (x : StretchValue) → AreTotals ts old
      → ((m : Measure) → total reached m ≡ total old m) → length old.levels ≤ length reached.levels
      → ((m : Measure) → total new m ≡ total reached m + measured m x) → length new.levels ≡ length reached.levels
      → ((m : Measure) → measured m x < 2 ^ 64) → length (levels_of_stretch x) ≤ length reached.levels
      → u.stretches ≡ (tile_at ts i).stretches ++ x ∷ [] → AreTotals (set ts i u) new
  totals_posted old reached new x a same longer added levels small long e = record {
    small = All-set (λ (t : TileValue). All (IsSmall (length new.levels)) t.stretches) ts i u
        (subst (All (IsSmall (length new.levels))) (sym e)
        (All-push (IsSmall (length new.levels)) (tile_at ts i).stretches x (still _ (a.small i no_tile within))
        (record { small = small; long = omega arith })))
        (λ k d l. still _ (a.small k d l));
    sums = λ m.
        let s = a.sums m in let r = same m in let n = added m in let b = measured_set m in
        let c = ap (measured_in m) e ∙ sum_by_push (measured m) (tile_at ts i).stretches x in omega arith;
  }
    where
      still : (xs : List StretchValue) → All (IsSmall (length old.levels)) xs → All (IsSmall (length new.levels)) xs
      still xs = small_still (length old.levels) (length new.levels) xs (omega arith)

  -- it has the first ones alone
  pub totals_kept : (old new : TotalsValue) (count : ℕ) → AreTotals ts old
      → ((m : Measure) → total new m + measured_in m (drop count (tile_at ts i).stretches) ≡ total old m) → length new.levels ≡ length old.levels
      → u.stretches ≡ take count (tile_at ts i).stretches → AreTotals (set ts i u) new
  totals_kept old new count a taken levels e = record {
    small = All-set (λ (t : TileValue). All (IsSmall (length new.levels)) t.stretches) ts i u
        (subst (All (IsSmall (length new.levels))) (sym e)
        (All-take (IsSmall (length new.levels)) count (tile_at ts i).stretches (still _ (a.small i no_tile within))))
        (λ k d l. still _ (a.small k d l));
    sums = λ m.
        let s = a.sums m in let n = taken m in let b = measured_set m in
        let c = ap (measured_in m) e in let d = sum_by-take-drop (measured m) (tile_at ts i).stretches count in omega arith;
  }
    where
      still : (xs : List StretchValue) → All (IsSmall (length old.levels)) xs → All (IsSmall (length new.levels)) xs
      still xs = small_still (length old.levels) (length new.levels) xs (omega arith)

-- room was made for more levels
pub totals_reached : (ts : List TileValue) (old new : TotalsValue) → AreTotals ts old → ((m : Measure) → total new m ≡ total old m)
    → length old.levels ≤ length new.levels → AreTotals ts new
totals_reached ts old new a same longer = record {
  small = λ k d l. small_still (length old.levels) (length new.levels) _ longer (a.small k d l);
  sums = λ m. same m ∙ a.sums m;
}

-- ---- stretches are taken away, the last one first

-- what the stretches have is taken from a place on
pub record AreTakenFrom (xs : List StretchValue) (place : ℕ) (old new : TotalsValue) : Type 0 where
  pub within : place ≤ length xs
  pub taken : (m : Measure) → total new m + measured_in m (drop place xs) ≡ total old m
  pub levels : length new.levels ≡ length old.levels

pub taken_from_end : (xs : List StretchValue) (place : ℕ) (old : TotalsValue) → place ≡ length xs → AreTakenFrom xs place old old
taken_from_end xs place old e = record {
  within = omega arith;
  taken = λ m. let d = ap (measured_in m) (drop_all place xs (omega arith)) in omega arith;
  levels = refl;
}

module _ (xs : List StretchValue) (place : ℕ) (old mid : TotalsValue) (x : StretchValue) (a : AreTakenFrom xs place old mid) (some : 0 < place)
    (e : slice_get xs (place - 1) ≡ Some x) where
  here : (m : Measure) → measured_in m (drop (place - 1) xs) ≡ measured m x + measured_in m (drop place xs)
  here m =
      let p = at_place xs (place - 1) x e in
      let f : place - 1 + 1 ≡ place = omega arith in
      sum_by-drop_more (measured m) xs (place - 1) x p.0 ∙ ap₂ (λ (a b : ℕ). a + b) (ap (measured m) (sym p.1))
      (ap (λ (k : ℕ). measured_in m (drop k xs)) f)

  -- the next one can be taken
  pub taken_can : ((m : Measure) → measured_in m xs ≤ total old m) → (m : Measure) → measured m x ≤ total mid m
  taken_can h m =
      let t = a.taken m in let l = h m in let s = sum_by-take-drop (measured m) xs (place - 1) in let d = here m in omega arith

  pub taken_long : All (λ (x : StretchValue). length (levels_of_stretch x) ≤ length old.levels) xs
      → length (levels_of_stretch x) ≤ length mid.levels
  taken_long h =
      let p = at_place xs (place - 1) x e in
      let f = ap (λ (y : StretchValue). length (levels_of_stretch y)) p.1 in
      let g = h (place - 1) x p.0 in let b = a.levels in omega arith

  pub taken_on : (new : TotalsValue) → ((m : Measure) → total new m + measured m x ≡ total mid m) → length new.levels ≡ length mid.levels
      → AreTakenFrom xs (place - 1) old new
  taken_on new t l = record {
    within = let w = a.within in omega arith;
    taken = λ m. let b = a.taken m in let c = t m in let d = here m in omega arith;
    levels = l ∙ a.levels;
  }

-- ---- a tile in two

-- a tile is parted in two, and the second has no stretch
pub totals_two : (ts : List TileValue) (i : ℕ) (h r : TileValue) (totals : TotalsValue) → i < length ts → AreTotals ts totals
    → h.stretches ≡ (tile_at ts i).stretches → r.stretches ≡ [] → AreTotals (with_two ts i h r) totals
totals_two ts i h r totals l a e f = record {
  small = subst Small (sym (two_parts ts i h r l))
      (All-append OfTile (take i ts ++ (h ∷ r ∷ [])) (drop (i + 1) ts)
      (All-append OfTile (take i ts) (h ∷ r ∷ []) (All-take OfTile i ts a.small) both) (All-drop OfTile (i + 1) ts a.small));
  sums = λ m.
      let s = a.sums m in let b = measured_set ts i h l m in
      let c = ap (measured_in m) e in let g = ap (measured_in m) f in
      let d = sum_by-insert (λ (t : TileValue). measured_in m t.stretches) (set ts i h) (i + 1) r in omega arith;
}
  where
    OfTile : TileValue → Type 0
    OfTile t = All (IsSmall (length totals.levels)) t.stretches

    Small : List TileValue → Type 0
    Small us = All OfTile us

    both : All OfTile (h ∷ r ∷ [])
    both zero d k = subst (All (IsSmall (length totals.levels))) (sym e) (a.small i no_tile l)
    both (suc zero) d k = subst (All (IsSmall (length totals.levels))) (sym f) (λ j x o. absurd (omega arith))
    both (suc (suc n)) d k = absurd (omega arith)

-- what is counted in 64 bits of each stretch can be added up in 128
pub totals_bound : (ts : List TileValue) (totals : TotalsValue) → AreTotals ts totals → (m : Measure)
    → total totals m ≤ 18446744073709551615 * posted_count ts
totals_bound ts totals a m = let s = a.sums m in let b = bound ts a.small in omega arith
  where
    bound : (us : List TileValue) → All (λ (t : TileValue). All (IsSmall (length totals.levels)) t.stretches) us
        → measured_of m us ≤ 18446744073709551615 * posted_count us
    bound [] s = omega arith
    bound (t ∷ us) s =
        let f = sum_by-cons (λ (u : TileValue). measured_in m u.stretches) t us in
        let g = sum_by-cons (λ (u : TileValue). length u.stretches) t us in
        let h = sum_by-le (measured m) 18446744073709551615 t.stretches (λ k d l. let b = (s 0 t (omega arith) k d l).small m in omega arith) in
        let r = bound us (λ k d l. s (suc k) d (omega arith)) in omega arith

-- ---- what a book tells

module _ (ts : List TileValue) (totals : TotalsValue) (a : AreTotals ts totals) where
  pub visited_is : totals.visited ≡ length (posted_visits ts)
  visited_is =
      a.sums of_visits
      ∙ ap (λ (f : TileValue → ℕ). sum_by f ts)
      (λ j t. sym (length-flat_map (λ (x : StretchValue). visits_between x.problem x.from x.to) t.stretches) j)
      ∙ sym (length-flat_map (λ (t : TileValue). stretch_visits t.stretches) ts)

-- sums of what is the same for each
sum_same : {X : Type 0} (f g : X → ℕ) (xs : List X) → All (λ x. f x ≡ g x) xs → sum_by f xs ≡ sum_by g xs
sum_same f g [] a = refl
sum_same f g (x ∷ xs) a =
    let h = a 0 x (omega arith) in let r = sum_same f g xs (λ k d l. a (suc k) d (omega arith)) in
    let b = sum_by-cons f x xs in let c = sum_by-cons g x xs in omega arith

-- lists with the same number at each place, and 0 behind their ends
same_without_zeros : (xs ys : List ℕ) → ((k : ℕ) → get_or xs k 0 ≡ get_or ys k 0) → without_last_zeros xs ≡ without_last_zeros ys
unfolding without_last_zeros
same_without_zeros [] [] h = refl
same_without_zeros [] (y ∷ ys) h =
    sym (ap₂ before_counts (sym (h 0)) (sym (same_without_zeros [] ys (λ k. h (suc k)))))
same_without_zeros (x ∷ xs) [] h = ap₂ before_counts (h 0) (same_without_zeros xs [] (λ k. h (suc k)))
same_without_zeros (x ∷ xs) (y ∷ ys) h = ap₂ before_counts (h 0) (same_without_zeros xs ys (λ k. h (suc k)))

module _ (p : ProblemValue) (b : Branch) (first : StateValue) (ts : List TileValue) (t : IsTiling p b first ts) where
  joined : All (λ (u : TileValue). All (λ (x : StretchValue). length x.problem.names + 1 ≡ length p.names + 1) u.stretches) ts
  joined k d l =
      subst (λ (u : TileValue). All (λ (x : StretchValue). length x.problem.names + 1 ≡ length p.names + 1) u.stretches)
      (sym (get_or_default ts k d no_tile l))
      (joined_levels p (tile_at ts k) (length p.names + 1) (tile_in p b.lo first ts b.hi k t.tiles l) refl)

  level_within : (level : ℕ) → level < length p.names + 1 → measured_of (of_level level) ts ≡ posted_level ts level
  level_within level l = sum_same (λ (u : TileValue). measured_in (of_level level) u.stretches) (λ (u : TileValue). stretch_level u.stretches level) ts
      (λ k d m. sum_same (measured (of_level level)) (λ (x : StretchValue). level_count (states_between x.problem x.from x.to) level) _
      (λ i x o. count_at _ _ _ _ level refl (let e = joined k d m i x o in omega arith)))

  level_behind : (level : ℕ) → length p.names + 1 ≤ level → measured_of (of_level level) ts ≡ 0
  level_behind level l = sum_same (λ (u : TileValue). measured_in (of_level level) u.stretches) (λ u. 0) ts
      (λ k d m. sum_same (measured (of_level level)) (λ x. 0) _ (λ i x o. behind (get_or (get_or ts k d).stretches i x) (joined k d m i x o)) ∙ no_sum (get_or ts k d).stretches)
      ∙ no_sum ts
    where
      no_sum : {X : Type 0} (xs : List X) → sum_by (λ x. 0) xs ≡ 0
      no_sum [] = refl
      no_sum (x ∷ xs) = let a = sum_by-cons (λ y. 0) x xs in let r = no_sum xs in omega arith

      behind : (x : StretchValue) → length x.problem.names + 1 ≡ length p.names + 1 → measured (of_level level) x ≡ 0
      behind x e = get_or_past (levels_of_stretch x) level 0 (let f = counts_fit x.problem x.from x.to (levels_of_stretch x) refl in omega arith)

  pub levels_are : (levels : List ℕ) → ((level : ℕ) → get_or levels level 0 ≡ measured_of (of_level level) ts)
      → without_last_zeros levels ≡ posted_levels p ts
  levels_are levels h =
      same_without_zeros levels (map (posted_level ts) (numbers (length p.names + 1) 0)) (λ level. told level (cases_lt level (length p.names + 1)))
    where
      told : (level : ℕ) → (level < length p.names + 1) ⊎ (length p.names + 1 ≤ level)
          → get_or levels level 0 ≡ get_or (map (posted_level ts) (numbers (length p.names + 1) 0)) level 0
      told level (inl l) = h level ∙ level_within level l ∙ sym (counts_at (posted_level ts) (length p.names + 1) level 0 l)
      told level (inr l) =
          let n = length-map (numbers (length p.names + 1) 0) (posted_level ts) in let m = length-numbers (length p.names + 1) 0 in
          h level ∙ level_behind level l ∙ sym (get_or_past (map (posted_level ts) (numbers (length p.names + 1) 0)) level 0 (omega arith))
