-- What stands against a call, by the tests that are made of the tile that its lease names.
use Rattle.std.proofs.Common.{◌≡◌, ℕ, ◌<◌, ◌⊎◌, ◌==◌, Bool, true, false, Option, Some, None, List, [], ◌∷◌}
use Rattle.std.proofs.Common.{length, refl, sym, ap, ◌∙◌, subst, inl, inr, arith, Ordering, Less, Result, Ok, Err}
use Rattle.std.specs.Prelude.{◌↔◌, IsTrue}
use Rattle.std.proofs.lemmas.Bool.{false≢true}
use Rattle.cover_problem.specs.Problem.{ProblemValue, is_same}
use Rattle.cover_problem.proofs.ProblemLemmas.{is_same_decides}
use Rattle.x_steps.specs.StateValue.{StateValue}
use Rattle.x_steps.specs.Steps.{Fits}
use Rattle.x_branches.specs.declared.branch.Branch.{Branch}
use Rattle.x_branches.specs.RunOrder.{ComesBefore, comes_before}
use Rattle.x_branches.specs.Stretch.{StretchValue, IsStretch}
use Rattle.x_branches.proofs.CutLemmas.{test_is_order}
use Rattle.lab_history.specs.declared.ending.Ending.{Ending}
use Rattle.lab_history.specs.declared.ending.Ending.TheVariants as ending
use Rattle.lab_history.specs.Ending.{is_at_mark}
use Rattle.lab_history.specs.declared.fault.BookFault.{BookFault}
use Rattle.lab_history.specs.declared.fault.BookFault.TheVariants.{OutOfMemory, StaleLease, BeyondEnd, NotAtEnd}
use Rattle.lab_book.specs.States.{same_state}
use Rattle.lab_book.specs.Tile.{TileValue, mark_of, tile_end}
use Rattle.lab_book.specs.Tiling.{IsTiling, tile_at}
use Rattle.lab_book.specs.Book.{stretch_fault, ending_fault}
use Rattle.lab_book.specs.Book.{retract_fault, unless}
use Rattle.lab_book.specs.Calls.{Doubted, Judged}
use Rattle.lab_book.proofs.TileLemmas.{end_fits, tested}
use Rattle.lab_book.proofs.TileLemmas.{last_some}
use Rattle.lab_book.proofs.TilingLemmas.{tile_in}

-- ---- what is found of a leased tile

-- and that nothing stands against a tile that was found
pub judged_fine : (i : ℕ) (s : Result ℕ BookFault) (d : Option BookFault) → s ≡ unless i d → Doubted None d → Judged (Ok i) s
judged_fine i s d e (inl a) = absurd (cc)
judged_fine i s d e (inr a) = inr (ap (unless i) a ∙ sym e)

-- a tile's end, and a stretch's
pub ends_fit : (p : ProblemValue) (b : Branch) (s : StateValue) (ts : List TileValue) (i : ℕ) → IsTiling p b s ts → i < length ts
    → Fits p (tile_end (tile_at ts i))
ends_fit p b s ts i t l = let k = tile_in p b.lo s ts b.hi i t.tiles l in
    end_fits p (mark_of (tile_at ts i)) (tile_end (tile_at ts i)) k.within

-- ---- what stands against a post

-- a post that nothing stands against is of the problem
pub post_same : (p q : ProblemValue) (same : Bool) (from to : StateValue) (t : TileValue) → same ≡ is_same q p
    → stretch_fault p from to same t ≡ None → (same ≡ true) × (q ≡ p)
post_same p q true from to t e h = (refl, (is_same_decides q p).0 (sym e))
post_same p q false from to t e h = absurd (cc)

pub same_fits : (p q : ProblemValue) (same : Bool) (from to : StateValue) → same ≡ is_same q p → same ≡ true → IsStretch q from to
    → Fits p to
same_fits p q same from to e h s = subst (λ (r : ProblemValue). Fits r to) ((is_same_decides q p).0 (sym e ∙ h)) (end_fits q from to s)

module _ (p : ProblemValue) (from to : StateValue) (same : Bool) (t u : TileValue) (is : same ≡ true) (tile : u ≡ t) (a m : StateValue)
    (test : Bool) (tells : IsTrue test ↔ (a ≡ m)) (first : a ≡ from) (mark : m ≡ mark_of u) where
  same_test : same_state from (mark_of t) ≡ test
  same_test = rw (← first, ← tile, ← mark) (tested test a m tells)

  pub stale_doubt : (r : BookFault) → test ≡ false → (r ≡ OutOfMemory) ⊎ (r ≡ StaleLease (mark_of u))
      → Doubted (Some r) (stretch_fault p from to same t)
  stale_doubt r e d = rw (is, same_test, e) (told d)
    where
      told : (r ≡ OutOfMemory) ⊎ (r ≡ StaleLease (mark_of u)) → Doubted (Some r) (Some (StaleLease (mark_of t)))
      told (inl o) = inl (ap Some o)
      told (inr o) = inr (ap Some (o ∙ ap (λ (u : TileValue). StaleLease (mark_of u)) tile))

  module _ (e x : StateValue) (o : Ordering) (end : e ≡ tile_end u) (last : x ≡ to) (fits : Fits p (tile_end t)) (last_fits : Fits p to)
      (order : Fits p e → Fits p x → (o ≡ Less) ↔ ComesBefore p e x) where
    ordered : (o ≡ Less) ↔ ComesBefore p (tile_end t) to
    ordered =
        let h : e ≡ tile_end t = end ∙ ap tile_end tile in
        rw (h, last) at (order (rw h fits) (rw last last_fits))

    pub beyond_doubt : test ≡ true → o ≡ Less → Doubted (Some BeyondEnd) (stretch_fault p from to same t)
    beyond_doubt h l = rw (is, same_test, h, (test_is_order p (tile_end t) to fits last_fits).1 (ordered.0 l)) (inr refl)

    pub fine_doubt : test ≡ true → (o ≡ Less → ⊥) → Doubted None (stretch_fault p from to same t)
    fine_doubt h l = rw (is, same_test, h, off (comes_before p (tile_end t) to) refl) (inr refl)
      where
        off : (b : Bool) → comes_before p (tile_end t) to ≡ b → comes_before p (tile_end t) to ≡ false
        off true k = absurd (l (ordered.1 ((test_is_order p (tile_end t) to fits last_fits).0 k)))
        off false k = k

-- ---- what stands against an end of a lease

-- what doesn't leave a tile at its mark closes it
closes : (e : Ending) → is_at_mark e ≡ false → e ≡ ending.Close
closes ending.Park h = absurd (false≢true (sym h))
closes ending.Abandon h = absurd (false≢true (sym h))
closes ending.Close h = refl

module _ (t u : TileValue) (tile : u ≡ t) (a e : StateValue) (test : Bool) (tells : IsTrue test ↔ (a ≡ e)) (mark : a ≡ mark_of u)
    (end : e ≡ tile_end u) (how : Ending) (off : is_at_mark how ≡ false) where
  end_test : same_state (mark_of t) (tile_end t) ≡ test
  end_test = rw (← tile, ← mark, ← end) (tested test a e tells)

  pub end_fine : test ≡ true → None ≡ ending_fault how t
  end_fine h = rw (closes how off, end_test, h) refl

  pub end_doubt : test ≡ false → Some NotAtEnd ≡ ending_fault how t
  end_doubt h = rw (closes how off, end_test, h) refl

-- ---- what stands against taking out

-- nothing stands against taking out where there is a stretch
pub retract_fine : (t : TileValue) → 0 < length t.stretches → Doubted None (retract_fault t)
retract_fine t l = rw (last_some t.stretches l) (inr refl)

pub not_empty : (xs ys : List StretchValue) (empty : Bool) → xs ≡ ys → IsTrue empty ↔ (xs ≡ []) → empty ≡ false → 0 < length ys
not_empty [] ys empty e h f = absurd (false≢true (sym f ∙ h.1 refl))
not_empty (x ∷ xs) ys empty e h f = let l = ap (length {A = StretchValue}) e in omega arith
