-- Marks of tiles, the test of states, and what posting a stretch keeps.
use Rattle.std.proofs.Common.{◌≡◌, ℕ, zero, suc, ◌-◌, ◌<◌, ◌≤◌, ◌==◌, Bool, true, false, ◌&&◌, Some, None, List, [], ◌∷◌, ◌++◌, length}
use Rattle.std.proofs.Common.{take, get_or, slice_get, refl, sym, ap, ◌∙◌, subst, arith, eq-eqb, eqb-true, bytes_eq, ◌+◌}
use Rattle.std.specs.Prelude.{◌↔◌, IsTrue, is_some, if◌then◌else◌}
use Rattle.std.specs.Cmp.Lexicographic.{bytes_decides}
use Rattle.std.proofs.lemmas.Bool.{and_parts, and_from, false≢true, false_from_ne_true}
use Rattle.std.proofs.lemmas.List.{take_more}
use Rattle.std.proofs.lemmas.Option.{slice_get_within, get_or_from_slice_get}
use Rattle.cover_problem.specs.Problem.{ProblemValue}
use Rattle.x_steps.specs.declared.state.Label.{Label}
use Rattle.x_steps.specs.declared.state.Label.TheVariants.{X1, X2, X3, X4, X5, X6, X7, X8, Done}
use Rattle.x_steps.specs.declared.state.Cursor.{Cursor}
use Rattle.x_steps.specs.declared.state.Cursor.TheVariants as cursor
use Rattle.x_steps.specs.declared.state.Cursor.TheVariants.{At, Past}
use Rattle.x_steps.specs.StateValue.{StateValue}
use Rattle.x_steps.specs.Steps.{Fits}
use Rattle.x_steps.specs.Rank.{rank}
use Rattle.x_steps.proofs.RunLemmas.{leads_to}
use Rattle.x_steps.proofs.StretchLemmas.{reached_fits, reached_rank}
use Rattle.x_branches.specs.declared.branch.Branch.{Branch}
use Rattle.x_branches.specs.Branch.{first_of}
use Rattle.x_branches.specs.RunOrder.{comes_before}
use Rattle.x_branches.specs.Stretch.{StretchValue, IsStretch}
use Rattle.x_branches.specs.Refusals.{CanStart}
use Rattle.x_branches.proofs.CutLemmas.{test_is_order}
use Rattle.x_branches.proofs.RunnerLemmas.{not_before, before_not}
use Rattle.x_codes.specs.StateCode.{label_number}
use Rattle.lab_book.specs.States.{cursor_number, same_state}
use Rattle.lab_book.specs.Tile.{TileValue, KeepsTile, led_to, mark_of, tile_end, Join, Stands, IsTile, is_leased, is_closed}
use Rattle.lab_book.specs.Book.{last_stretch, stretches_to}
use Rattle.lab_book.specs.declared.status.Status.{Status}
use Rattle.lab_book.specs.declared.status.Status.TheVariants.{Waiting, Held, Leased, Closed}

-- ---- marks

pub mark_push : (s : StateValue) (xs : List StretchValue) (x : StretchValue) → led_to s (xs ++ x ∷ []) ≡ x.to
mark_push s [] x = refl
mark_push s (y ∷ ys) x = mark_push y.to ys x

-- what is kept beside a tile, where a stretch was posted
pub keeps_posted : (b : Branch) (first end mark old : StateValue) (xs ys : List StretchValue) (x : StretchValue)
    → KeepsTile b first xs end old → ys ≡ xs ++ x ∷ [] → mark ≡ x.to → KeepsTile b first ys end mark
keeps_posted b first end mark old xs ys x k e f = record {
  end_is = k.end_is;
  mark_is = f ∙ sym (mark_push first xs x) ∙ ap (led_to first) (sym e);
}

-- ---- the test of two states

label_at : ℕ → Label
label_at n = if n == 1 then X1 else (if n == 2 then X2 else
    (if n == 3 then X3 else (if n == 4 then X4 else
    (if n == 5 then X5 else (if n == 6 then X6 else (if n == 7 then X7 else (if n == 8 then X8 else Done)))))))

label_back : (l : Label) → label_at (label_number l) ≡ l
unfolding label_at
label_back X1 = refl
label_back _ = refl

one_label : (l m : Label) → label_number l ≡ label_number m → l ≡ m
one_label l m e = sym (label_back l) ∙ ap label_at e ∙ label_back m

one_cursor : (k l : Cursor) → cursor_number k ≡ cursor_number l → k ≡ l
one_cursor cursor.None cursor.None e = refl
one_cursor cursor.None Past e = absurd (omega arith)
one_cursor cursor.None (At o) e = absurd (omega arith)
one_cursor Past cursor.None e = absurd (omega arith)
one_cursor Past Past e = refl
one_cursor Past (At o) e = absurd (omega arith)
one_cursor (At o) cursor.None e = absurd (omega arith)
one_cursor (At o) Past e = absurd (omega arith)
one_cursor (At o) (At q) e = let h : o ≡ q = omega arith in ap At h

same_parts : (s t : StateValue) → s.label ≡ t.label → s.path ≡ t.path → s.cursor ≡ t.cursor → s ≡ t
same_parts s t a b c = λ i. record { label = a i; path = b i; cursor = c i }

pub same_state_is : (s t : StateValue) → same_state s t ≡ true → s ≡ t
unfolding same_state
same_state_is s t h =
    let a = and_parts ((label_number s.label == label_number t.label) && bytes_eq s.path t.path)
    (cursor_number s.cursor == cursor_number t.cursor) h in
    let b = and_parts (label_number s.label == label_number t.label) (bytes_eq s.path t.path) a.0 in
    same_parts s t (one_label _ _ (eqb-true (label_number s.label) (label_number t.label) b.0)) ((bytes_decides s.path t.path).0 b.1)
    (one_cursor _ _ (eqb-true (cursor_number s.cursor) (cursor_number t.cursor) a.1))

pub is_same_state : (s t : StateValue) → s ≡ t → same_state s t ≡ true
unfolding same_state
is_same_state s t e =
    and_from _ _ (and_from _ _ (eq-eqb (label_number s.label) (label_number t.label) (ap (λ (u : StateValue). label_number u.label) e))
    ((bytes_decides s.path t.path).1 (ap (λ (u : StateValue). u.path) e)))
    (eq-eqb (cursor_number s.cursor) (cursor_number t.cursor) (ap (λ (u : StateValue). cursor_number u.cursor) e))

-- a test that tells whether two states are the same is that test
pub tested : (test : Bool) (s t : StateValue) → IsTrue test ↔ (s ≡ t) → same_state s t ≡ test
tested true s t h = is_same_state s t (h.0 refl)
tested false s t h = false_from_ne_true (same_state s t) (λ e. false≢true (h.1 (same_state_is s t e)))

-- ---- stretches

pub stretch_by : (p : ProblemValue) (s t : StateValue) → Fits p s → Fits p t → rank p s ≤ rank p t → IsStretch p s t
stretch_by p s t f g l = record { fits = f; reaches = leads_to p s t f g l }

pub end_fits : (p : ProblemValue) (s t : StateValue) → IsStretch p s t → Fits p t
end_fits p s t x = reached_fits p s t _ x.fits x.reaches

pub end_after : (p : ProblemValue) (s t : StateValue) → IsStretch p s t → rank p s ≤ rank p t
end_after p s t x = reached_rank p s t _ x.fits x.reaches

join_push : (p : ProblemValue) (s : StateValue) (xs : List StretchValue) (x : StretchValue) → Join p s xs → x.problem ≡ p
    → x.from ≡ led_to s xs → IsStretch p (led_to s xs) x.to → Join p s (xs ++ x ∷ [])
join_push p s [] x j a b c = (a, b, c, tt)
join_push p s (y ∷ ys) x j a b c = (j.0, j.1, j.2, join_push p y.to ys x j.3 a b c)

-- where a test of order fails, the other state doesn't come later
not_past : (p : ProblemValue) (s t : StateValue) → Fits p s → Fits p t → comes_before p s t ≡ false → rank p t ≤ rank p s
not_past p s t f g h = not_before p s t f g (λ b. false≢true (sym h ∙ (test_is_order p s t f g).1 b))

-- ---- tiles

not_closed : (s : Status) → is_leased s ≡ true → (t : TileValue) → Stands s t
not_closed (Leased w i) e t = tt
not_closed _ e t = absurd (false≢true e)

-- a leased tile to which a stretch is posted that begins at its mark and doesn't end after it
pub posted_is_tile : (p : ProblemValue) (t : TileValue) (x : StretchValue) → IsTile p t → is_leased t.status ≡ true → x.problem ≡ p
    → IsStretch x.problem x.from x.to → x.from ≡ mark_of t → comes_before p (tile_end t) x.to ≡ false
    → IsTile p (record t { stretches = t.stretches ++ x ∷ [] })
posted_is_tile p t x i l e s m h =
    let part : IsStretch p (mark_of t) x.to = subst (λ (q : ProblemValue × StateValue). IsStretch q.0 q.1 x.to) (λ j. (e j, m j)) s in
    let here = end_fits p (mark_of t) x.to part in
    let last = end_fits p (mark_of t) (tile_end t) i.within in
    let up = not_past p (tile_end t) x.to last here h in
    record {
      branch = i.branch;
      begins = i.begins;
      joins = join_push p t.first t.stretches x i.joins e m part;
      within = subst (λ (s : StateValue). IsStretch p s (tile_end t)) (sym (mark_push t.first t.stretches x))
          (stretch_by p x.to (tile_end t) here last up);
      stands = not_closed t.status l _;
    }

-- a tile that stands otherwise
pub settled_is_tile : (p : ProblemValue) (t : TileValue) (s : Status) (stop : Bool) → IsTile p t
    → Stands s (record t { status = s; stop = stop }) → IsTile p (record t { status = s; stop = stop })
settled_is_tile p t s stop i h = record { branch = i.branch; begins = i.begins; joins = i.joins; within = i.within; stands = h }

-- a search can start at a tile's mark, within its branch
pub tile_can_start : (p : ProblemValue) (t : TileValue) → IsTile p t → CanStart p t.branch (mark_of t)
tile_can_start p t i =
    let first = end_after p (first_of t.branch.lo) t.first i.begins in
    let after = joined t.first t.stretches i.joins (end_fits p _ t.first i.begins) in
    let last = end_after p (mark_of t) (tile_end t) i.within in
    record {
      fits = i.within.fits;
      branch = i.branch;
      within = record {
        begun = before_not p (mark_of t) (first_of t.branch.lo) i.within.fits (omega arith);
        not_past = before_not p (tile_end t) (mark_of t) (end_fits p (mark_of t) (tile_end t) i.within) last;
      };
    }
  where
    joined : (s : StateValue) (xs : List StretchValue) → Join p s xs → Fits p s → rank p s ≤ rank p (led_to s xs)
    joined s [] j f = omega arith
    joined s (x ∷ xs) j f =
        let a = end_after p s x.to j.2 in
        let b = joined x.to xs j.3 (end_fits p s x.to j.2) in omega arith

-- ---- fewer stretches

pub last_place : (xs : List StretchValue) (x : StretchValue) → 0 < length xs → x ≡ get_or xs (length xs - 1) x → last_stretch xs ≡ Some x
last_place xs x l e = by xs (length xs - 1) (omega arith) e
  where
    by : (ys : List StretchValue) (n : ℕ) → suc n ≡ length ys → x ≡ get_or ys n x → last_stretch ys ≡ Some x
    by [] n l e = absurd (omega arith)
    by (y ∷ []) zero l e = ap Some (sym e)
    by (y ∷ []) (suc n) l e = absurd (omega arith)
    by (y ∷ z ∷ zs) zero l e = absurd (omega arith)
    by (y ∷ z ∷ zs) (suc n) l e = rw (by (z ∷ zs) n (omega arith) e) refl

-- the last of stretches that join is the problem's
pub last_problem : (p : ProblemValue) (s : StateValue) (xs : List StretchValue) (x : StretchValue) → Join p s xs → last_stretch xs ≡ Some x
    → x.problem ≡ p
last_problem p s [] x j e = absurd (cc)
last_problem p s (y ∷ []) x j e = let h : y ≡ x = cc in rw (← h) j.0
last_problem p s (y ∷ z ∷ zs) x j e = last_problem p y.to (z ∷ zs) x j.3 e

-- a list that isn't empty has a last element
pub last_some : (xs : List StretchValue) → 0 < length xs → is_some (last_stretch xs) ≡ true
last_some [] l = absurd (omega arith)
last_some (x ∷ xs) l = refl

join_take : (p : ProblemValue) (s : StateValue) (xs : List StretchValue) (n : ℕ) → Join p s xs → Join p s (take n xs)
join_take p s [] zero j = tt
join_take p s [] (suc n) j = tt
join_take p s (x ∷ xs) zero j = tt
join_take p s (x ∷ xs) (suc n) j = (j.0, j.1, j.2, join_take p x.to xs n j.3)

pub led_rank : (p : ProblemValue) (s : StateValue) (xs : List StretchValue) → Join p s xs → Fits p s → rank p s ≤ rank p (led_to s xs)
led_rank p s [] j f = omega arith
led_rank p s (x ∷ xs) j f =
    let a = end_after p s x.to j.2 in
    let b = led_rank p x.to xs j.3 (end_fits p s x.to j.2) in omega arith

pub part_fits : (p : ProblemValue) (s : StateValue) (xs : List StretchValue) (n : ℕ) → Join p s xs → Fits p s
    → Fits p (led_to s (take n xs))
part_fits p s [] zero j f = f
part_fits p s [] (suc n) j f = f
part_fits p s (x ∷ xs) zero j f = f
part_fits p s (x ∷ xs) (suc n) j f = part_fits p x.to xs n j.3 (end_fits p s x.to j.2)

part_rank : (p : ProblemValue) (s : StateValue) (xs : List StretchValue) (n : ℕ) → Join p s xs → Fits p s
    → rank p (led_to s (take n xs)) ≤ rank p (led_to s xs)
part_rank p s [] zero j f = omega arith
part_rank p s [] (suc n) j f = omega arith
part_rank p s (x ∷ xs) zero j f = led_rank p s (x ∷ xs) j f
part_rank p s (x ∷ xs) (suc n) j f = part_rank p x.to xs n j.3 (end_fits p s x.to j.2)

-- an open tile with its first stretches alone
pub part_is_tile : (p : ProblemValue) (t : TileValue) (n : ℕ) → IsTile p t → is_closed t.status ≡ false
    → IsTile p (record t { stretches = take n t.stretches })
part_is_tile p t n i o =
    let f = end_fits p (first_of t.branch.lo) t.first i.begins in
    let r = part_rank p t.first t.stretches n i.joins f in
    let e = end_after p (mark_of t) (tile_end t) i.within in
    record {
      branch = i.branch;
      begins = i.begins;
      joins = join_take p t.first t.stretches n i.joins;
      within = stretch_by p (led_to t.first (take n t.stretches)) (tile_end t) (part_fits p t.first t.stretches n i.joins f)
          (end_fits p (mark_of t) (tile_end t) i.within) (omega arith);
      stands = stands_so t.status o i.stands;
    }
  where
    stands_so : (s : Status) → is_closed s ≡ false → Stands s t → Stands s (record t { stretches = take n t.stretches })
    stands_so Waiting o h = h
    stands_so Held o h = h
    stands_so (Leased w i) o h = tt
    stands_so Closed o h = absurd (false≢true (sym o))

-- ---- the first mark that is a state

pub mark_found : (s m : StateValue) (xs : List StretchValue) (n : ℕ) → n ≤ length xs
    → ((k : ℕ) → k < n → same_state s (led_to m (take k xs)) ≡ false) → same_state s (led_to m (take n xs)) ≡ true
    → stretches_to s m xs ≡ Some (take n xs)
mark_found s m [] zero l before here = rw here refl
mark_found s m [] (suc n) l before here = absurd (omega arith)
mark_found s m (x ∷ xs) zero l before here = rw here refl
mark_found s m (x ∷ xs) (suc n) l before here =
    rw (before 0 (omega arith), mark_found s x.to xs n (omega arith) (λ k b. before (suc k) (omega arith)) here) refl

pub mark_missed : (s m : StateValue) (xs : List StretchValue) → ((k : ℕ) → k ≤ length xs → same_state s (led_to m (take k xs)) ≡ false)
    → stretches_to s m xs ≡ None
mark_missed s m [] each = rw (each 0 (omega arith)) refl
mark_missed s m (x ∷ xs) each =
    rw (each 0 (omega arith), mark_missed s x.to xs (λ k b. each (suc k) (omega arith))) refl

-- the stretch at a place
pub at_place : (xs : List StretchValue) (i : ℕ) (x : StretchValue) → slice_get xs i ≡ Some x → (i < length xs) × (x ≡ get_or xs i x)
at_place xs i x e = (slice_get_within xs i x e, sym (get_or_from_slice_get xs i x x e))

-- where the stretches up to a place lead
pub led_more : (s : StateValue) (xs : List StretchValue) (i : ℕ) (x : StretchValue) → i < length xs → x ≡ get_or xs i x
    → led_to s (take (i + 1) xs) ≡ x.to
led_more s xs i x l e = ap (led_to s) (take_more xs i x l) ∙ mark_push s (take i xs) (get_or xs i x)
    ∙ ap (λ (y : StretchValue). y.to) (sym e)
