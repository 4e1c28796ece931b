-- Marks that are equal stand beside each other, and the search for the first that is a state, from the last one on.
use Rattle.std.proofs.Common.{◌≡◌, ℕ, zero, suc, ◌+◌, ◌<◌, ◌≤◌, ◌⊎◌, inl, inr, Bool, true, false, Option, Some, None, List, [], ◌∷◌}
use Rattle.std.proofs.Common.{length, take, slice_get, refl, sym, ap, ◌∙◌, arith}
use Rattle.std.specs.Prelude.{is_some, IfSome, option_map}
use Rattle.std.proofs.lemmas.Bool.{false≢true, false_from_ne_true, cases_lt}
use Rattle.cover_problem.specs.Problem.{ProblemValue}
use Rattle.x_steps.specs.StateValue.{StateValue}
use Rattle.x_steps.specs.Steps.{Fits}
use Rattle.x_steps.specs.Rank.{rank}
use Rattle.x_steps.proofs.RunLemmas.{rank_once}
use Rattle.x_branches.specs.Branch.{first_of}
use Rattle.x_branches.specs.Stretch.{StretchValue}
use Rattle.lab_book.specs.States.{same_state}
use Rattle.lab_book.specs.Tile.{TileValue, led_to, Join, EqualMarksMeet, IsTile}
use Rattle.lab_book.specs.Book.{stretches_to}
use Rattle.lab_book.proofs.TileLemmas.{same_state_is, is_same_state, end_fits, end_after, part_fits}
use Rattle.lab_book.proofs.TileLemmas.{at_place, led_more, mark_found, mark_missed}

-- ---- equal marks

-- a mark doesn't come after a later one
marks_rise : (p : ProblemValue) (s : StateValue) (xs : List StretchValue) (i j : ℕ) → Join p s xs → Fits p s → i ≤ j
    → rank p (led_to s (take i xs)) ≤ rank p (led_to s (take j xs))
marks_rise p s [] zero zero h f l = omega arith
marks_rise p s [] zero (suc j) h f l = omega arith
marks_rise p s [] (suc i) zero h f l = absurd (omega arith)
marks_rise p s [] (suc i) (suc j) h f l = omega arith
marks_rise p s (x ∷ xs) zero zero h f l = omega arith
marks_rise p s (x ∷ xs) zero (suc j) h f l =
    let a = end_after p s x.to h.2 in
    let b = marks_rise p x.to xs zero j h.3 (end_fits p s x.to h.2) (omega arith) in omega arith
marks_rise p s (x ∷ xs) (suc i) zero h f l = absurd (omega arith)
marks_rise p s (x ∷ xs) (suc i) (suc j) h f l = marks_rise p x.to xs i j h.3 (end_fits p s x.to h.2) (omega arith)

-- stretches that join lead to marks of which equal ones stand beside each other
pub equal_marks_meet : (p : ProblemValue) (s : StateValue) (xs : List StretchValue) → Join p s xs → Fits p s → EqualMarksMeet s xs
equal_marks_meet p s xs h f i j k a b l e =
    let up = marks_rise p s xs i j h f a in
    let on = marks_rise p s xs j k h f b in
    let same = ap (rank p) e in
    rank_once p (led_to s (take j xs)) (led_to s (take k xs)) (part_fits p s xs j h f) (part_fits p s xs k h f) (omega arith)

-- and so do those of a tile
pub tile_marks_meet : (p : ProblemValue) (t : TileValue) → IsTile p t → EqualMarksMeet t.first t.stretches
tile_marks_meet p t i =
    equal_marks_meet p t.first t.stretches i.joins (end_fits p (first_of t.branch.lo) t.first i.begins)

-- ---- the search from the last mark on

-- what is known where the marks after a place were looked at: none is the state, or the one right after the place is
abbrev pub IsSought : StateValue → StateValue → List StretchValue → ℕ → Option ℕ → Type 0
IsSought s m xs place None = (k : ℕ) → place < k → k ≤ length xs → same_state s (led_to m (take k xs)) ≡ false
IsSought s m xs place (Some n) = (n ≡ place + 1) × (n ≤ length xs) × (same_state s (led_to m (take n xs)) ≡ true)

-- none was looked at yet
pub sought_none : (s m : StateValue) (xs : List StretchValue) → IsSought s m xs (length xs) None
sought_none s m xs k l b = absurd (omega arith)

-- where the stretch at a place leads to the state or doesn't, the mark right after the place is it or isn't
pub mark_test : (test : Bool) (s m : StateValue) (xs : List StretchValue) (place : ℕ) (x : StretchValue) → slice_get xs place ≡ Some x
    → same_state s x.to ≡ test → same_state s (led_to m (take (place + 1) xs)) ≡ test
mark_test test s m xs place x e h =
    let p = at_place xs place x e in
    ap (same_state s) (led_more m xs place x p.0 p.1) ∙ h

-- where it is, it is found
pub sought_here : (s m : StateValue) (xs : List StretchValue) (place : ℕ) → place < length xs
    → same_state s (led_to m (take (place + 1) xs)) ≡ true → IsSought s m xs place (Some (place + 1))
sought_here s m xs place l here = (refl, omega arith, here)

-- where it isn't, nor any later one, the search goes on
pub sought_on : (s m : StateValue) (xs : List StretchValue) (place after : ℕ) (found : Option ℕ) → place + 1 ≡ after
    → same_state s (led_to m (take (place + 1) xs)) ≡ false → is_some found ≡ false → IsSought s m xs after found
    → IsSought s m xs place found
sought_on s m xs place after (Some n) next other e h = absurd (false≢true (sym e))
sought_on s m xs place after None next other e h = λ k l b. each k l b (cases_lt (place + 1) k)
  where
    each : (k : ℕ) → place < k → k ≤ length xs → (place + 1 < k) ⊎ (k ≤ place + 1) → same_state s (led_to m (take k xs)) ≡ false
    each k l b (inl more) = h k (omega (arith, next)) b
    each k l b (inr less) = let is : k ≡ place + 1 = omega arith in rw is other

-- where the mark right after a place is the state, and the one at the place isn't: no mark before is
first_of_equal : (s m : StateValue) (xs : List StretchValue) (place n : ℕ) → EqualMarksMeet m xs
    → same_state s (led_to m (take place xs)) ≡ false → IsSought s m xs place (Some n) → stretches_to s m xs ≡ Some (take n xs)
first_of_equal s m xs place n meet other h = mark_found s m xs n h.1 before h.2
  where
    here : (k : ℕ) → k ≤ place → same_state s (led_to m (take k xs)) ≡ true → same_state s (led_to m (take place xs)) ≡ true
    here k l e =
        let last = same_state_is s (led_to m (take n xs)) h.2 in
        let on : place ≤ n = (let a = h.0 in omega arith) in
        let back = meet k place n l on h.1 (sym (same_state_is s (led_to m (take k xs)) e) ∙ last) in
        is_same_state s (led_to m (take place xs)) (last ∙ sym back)

    before : (k : ℕ) → k < n → same_state s (led_to m (take k xs)) ≡ false
    before k l =
        let b : k ≤ place = (let a = h.0 in omega arith) in
        false_from_ne_true (same_state s (led_to m (take k xs))) (λ e. false≢true (sym other ∙ here k b e))

-- so what was found is the answer
pub sought_then : (s m : StateValue) (xs : List StretchValue) (place after : ℕ) (found : Option ℕ) → EqualMarksMeet m xs → place + 1 ≡ after
    → same_state s (led_to m (take (place + 1) xs)) ≡ false → is_some found ≡ true → IsSought s m xs after found
    → option_map (λ n. take n xs) found ≡ stretches_to s m xs
sought_then s m xs place after None meet next other e h = absurd (false≢true e)
sought_then s m xs place after (Some n) meet next other e h =
    sym (first_of_equal s m xs after n meet (rw next at other) h)

-- and so it is where all marks but the first were looked at, and that one isn't the state
pub sought_all : (s m : StateValue) (xs : List StretchValue) (place : ℕ) (found : Option ℕ) → place ≡ 0 → same_state s m ≡ false
    → IsSought s m xs place found → option_map (λ n. take n xs) found ≡ stretches_to s m xs
sought_all s m xs place None last other h = sym (mark_missed s m xs each)
  where
    each : (k : ℕ) → k ≤ length xs → same_state s (led_to m (take k xs)) ≡ false
    each zero b = other
    each (suc k) b = h (suc k) (omega (arith, last)) b
sought_all s m xs place (Some n) last other h = sym (mark_found s m xs n h.1 before h.2)
  where
    before : (k : ℕ) → k < n → same_state s (led_to m (take k xs)) ≡ false
    before k l = let e : k ≡ 0 = omega (arith, h.0, last) in rw e other

-- it counts stretches that there are
pub sought_within : (s m : StateValue) (xs : List StretchValue) (place : ℕ) (found : Option ℕ) → IsSought s m xs place found
    → IfSome found (λ n. n ≤ length xs)
sought_within s m xs place None h = tt
sought_within s m xs place (Some n) h = h.1
