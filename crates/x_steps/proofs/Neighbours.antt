-- A step forwards and a step backwards undo each other, and keep a state fitting.
use Rattle.std.proofs.Common.{◌≡◌, ℕ, suc, ◌<◌, ◌⊎◌, true, false, Option, Some, List, [], ◌∷◌, ◌++◌, length, take, drop, get_or, refl, sym, ap, ◌∙◌, inl, inr, arith}
use Rattle.std.proofs.Math.Seq.{drop-cons}
use Rattle.std.proofs.lemmas.List.{take-append-drop}
use Rattle.std.specs.Prelude as prelude
use Rattle.std.proofs.lemmas.Bool.{cases_Bool, ltb-true, ltb-false, lt-ltb}
use Rattle.shared_words.specs.Lists.{RisesFrom, above, below, last_of}
use Rattle.cover_problem.specs.Problem.{ProblemValue}
use Rattle.cover_problem.specs.Covering.{active}
use Rattle.cover_problem.specs.Path.{covered_by}
use Rattle.cover_problem.proofs.NumberLemmas.{rises_member}
use Rattle.cover_problem.proofs.RisingLemmas.{above_is, above_from, below_is, below_none, below_none_from, below_above, above_below, last_is, last_none, above_last, last_above, last_first}
use Rattle.cover_problem.proofs.RemainingLemmas.{remaining_rises}
use Rattle.cover_problem.proofs.PathLemmas.{valid_start, valid_push, valid_pop}
use Rattle.x_steps.specs.declared.state.Label.{Label}
use Rattle.x_steps.specs.declared.state.Label.TheVariants.{X1, X2, X3, X4, X5, X6, X7, X8, Done}
use Rattle.x_steps.specs.declared.state.Cursor.{Cursor}
use Rattle.x_steps.specs.declared.state.Cursor.TheVariants as cursor
use Rattle.x_steps.specs.declared.state.Cursor.TheVariants.{At, Past}
use Rattle.x_steps.specs.StateValue.{StateValue, at}
use Rattle.x_steps.specs.Steps.{is_open, IsOpen, item_after, remaining_after, with_first, split_last, next_cursor, FitsAt, Fits, taken_back, next_at, next}
use Rattle.x_steps.specs.Before.{entered_from, came_from, prev_at, prev}

pub split_last_push : (path : List ℕ) (o : ℕ) → split_last (path ++ o ∷ []) ≡ Some (path, o)
split_last_push [] o = refl
split_last_push (x ∷ path) o = ap (λ (s : Option (List ℕ × ℕ)). Some (with_first x s)) (split_last_push path o)

-- a list is empty, or has a last member
pub split_last_cases : (path : List ℕ) → (path ≡ []) ⊎ ((q : List ℕ) × (o : ℕ) × (path ≡ q ++ o ∷ []))
split_last_cases [] = inl refl
split_last_cases (x ∷ path) = step (split_last_cases path)
  where
    step : (path ≡ []) ⊎ ((q : List ℕ) × (o : ℕ) × (path ≡ q ++ o ∷ [])) → (x ∷ path ≡ []) ⊎ ((q : List ℕ) × (o : ℕ) × (x ∷ path ≡ q ++ o ∷ []))
    step (inl e) = inr ([], x, ap (λ ys. x ∷ ys) e)
    step (inr s) = inr (x ∷ s.0, s.1, ap (λ ys. x ∷ ys) s.2)

-- a list at one of its places: what stands before it, there, and after it
pub parted : (xs : List ℕ) (k : ℕ) → k < length xs → xs ≡ take k xs ++ get_or xs k 0 ∷ drop (suc k) xs
parted xs k l = sym (take-append-drop k xs) ∙ ap (λ rest. take k xs ++ rest) (drop-cons xs k 0 l)

-- whether an item is active
pub open_cases : (p : ProblemValue) (path : List ℕ) → ((is_open p path ≡ true) × IsOpen p path) ⊎ ((is_open p path ≡ false) × (length (active p (covered_by p path)) ≡ 0))
open_cases p path = step (cases_Bool (is_open p path))
  where
    step : (is_open p path ≡ true) ⊎ (is_open p path ≡ false) → ((is_open p path ≡ true) × IsOpen p path) ⊎ ((is_open p path ≡ false) × (length (active p (covered_by p path)) ≡ 0))
    step (inl e) = inl (e, ltb-true 0 (length (active p (covered_by p path))) e)
    step (inr e) = let l = ltb-false 0 (length (active p (covered_by p path))) e in inr (e, omega arith)

pub open_is : (p : ProblemValue) (path : List ℕ) → IsOpen p path → is_open p path ≡ true
open_is p path h = lt-ltb 0 (length (active p (covered_by p path))) h

pub left_rises : (p : ProblemValue) (path : List ℕ) → RisesFrom 1 (remaining_after p path)
left_rises p path = remaining_rises p (covered_by p path) (item_after p path)

-- ---- forwards

pub fits_next_at : (p : ProblemValue) (l : Label) (path : List ℕ) (k : Cursor) → FitsAt p l path k → Fits p (next_at p l path k)
fits_next_at p X1 path cursor.None f = rw f (valid_start p)
fits_next_at p X2 path cursor.None f = step (open_cases p path)
  where
    step : ((is_open p path ≡ true) × IsOpen p path) ⊎ ((is_open p path ≡ false) × (length (active p (covered_by p path)) ≡ 0)) → Fits p (next_at p X2 path cursor.None)
    step (inl e) = rw e.0 (f, e.1)
    step (inr e) = rw e.0 f
fits_next_at p X3 path cursor.None f = f
fits_next_at p X4 path cursor.None f = look (above 0 (remaining_after p path)) refl
  where
    look : (a : Option ℕ) → above 0 (remaining_after p path) ≡ a → Fits p (at X5 path (next_cursor a))
    look prelude.None e = f
    look (Some o) e = (f.0, record { active = f.1; left = (above_is 0 1 (remaining_after p path) o (left_rises p path) e).member })
fits_next_at p X5 path (At o) f = valid_push p path o f.0 f.1
fits_next_at p X5 path Past f = f
fits_next_at p X6 path (At o) f = look (above o (remaining_after p path)) refl
  where
    look : (a : Option ℕ) → above o (remaining_after p path) ≡ a → Fits p (at X5 path (next_cursor a))
    look prelude.None e = (f.0, f.1.active)
    look (Some k) e = (f.0, record { active = f.1.active; left = (above_is o 1 (remaining_after p path) k (left_rises p path) e).member })
fits_next_at p X7 path cursor.None f = f.0
fits_next_at p X8 path cursor.None f = step (split_last_cases path)
  where
    step : (path ≡ []) ⊎ ((q : List ℕ) × (o : ℕ) × (path ≡ q ++ o ∷ [])) → Fits p (taken_back (split_last path))
    step (inl e) = rw e refl
    step (inr s) = rw (s.2, split_last_push s.0 s.1) (valid_pop p s.0 s.1 (rw s.2 at f))
fits_next_at p Done path cursor.None f = f
fits_next_at p _ path _ f = absurd f

pub fits_next : (p : ProblemValue) (s : StateValue) → Fits p s → Fits p (next p s)
unfolding next
fits_next p s f = fits_next_at p s.label s.path s.cursor f

-- ---- backwards

pub fits_prev_at : (p : ProblemValue) (l : Label) (path : List ℕ) (k : Cursor) → FitsAt p l path k → Fits p (prev_at p l path k)
fits_prev_at p X1 path cursor.None f = f
fits_prev_at p X2 path cursor.None f = step (split_last_cases path)
  where
    step : (path ≡ []) ⊎ ((q : List ℕ) × (o : ℕ) × (path ≡ q ++ o ∷ [])) → Fits p (entered_from (split_last path))
    step (inl e) = rw e refl
    step (inr s) = rw (s.2, split_last_push s.0 s.1) (valid_pop p s.0 s.1 (rw s.2 at f))
fits_prev_at p X3 path cursor.None f = f.0
fits_prev_at p X4 path cursor.None f = f
fits_prev_at p X5 path (At o) f = look (below o (remaining_after p path)) refl
  where
    look : (a : Option ℕ) → below o (remaining_after p path) ≡ a → Fits p (came_from path a)
    look prelude.None e = (f.0, f.1.active)
    look (Some j) e = (f.0, record { active = f.1.active; left = (below_is o 1 (remaining_after p path) j (left_rises p path) e).member })
fits_prev_at p X5 path Past f = look (last_of (remaining_after p path)) refl
  where
    look : (a : Option ℕ) → last_of (remaining_after p path) ≡ a → Fits p (came_from path a)
    look prelude.None e = f
    look (Some j) e = (f.0, record { active = f.1; left = (last_is 1 (remaining_after p path) j (left_rises p path) e).0 })
fits_prev_at p X6 path (At o) f = valid_push p path o f.0 f.1
fits_prev_at p X7 path cursor.None f = f
fits_prev_at p X8 path cursor.None f = step (open_cases p path)
  where
    step : ((is_open p path ≡ true) × IsOpen p path) ⊎ ((is_open p path ≡ false) × (length (active p (covered_by p path)) ≡ 0)) → Fits p (prev_at p X8 path cursor.None)
    step (inl e) = rw e.0 (f, e.1)
    step (inr e) = rw e.0 f
fits_prev_at p Done path cursor.None f = valid_start p
fits_prev_at p _ path _ f = absurd f

pub fits_prev : (p : ProblemValue) (s : StateValue) → Fits p s → Fits p (prev p s)
unfolding prev
fits_prev p s f = fits_prev_at p s.label s.path s.cursor f

-- ---- each undoes the other

prev_next_at : (p : ProblemValue) (l : Label) (path : List ℕ) (k : Cursor) → FitsAt p l path k → (l ≡ Done → ⊥) → prev p (next_at p l path k) ≡ at l path k
unfolding prev
prev_next_at p X1 path cursor.None f g = rw f refl
prev_next_at p X2 path cursor.None f g = step (open_cases p path)
  where
    step : ((is_open p path ≡ true) × IsOpen p path) ⊎ ((is_open p path ≡ false) × (length (active p (covered_by p path)) ≡ 0)) → prev p (next_at p X2 path cursor.None) ≡ at X2 path cursor.None
    step (inl e) = rw e.0 refl
    step (inr e) = rw (e.0, e.0) refl
prev_next_at p X3 path cursor.None f g = refl
prev_next_at p X4 path cursor.None f g = look (above 0 (remaining_after p path)) refl
  where
    look : (a : Option ℕ) → above 0 (remaining_after p path) ≡ a → prev p (at X5 path (next_cursor a)) ≡ at X4 path cursor.None
    look prelude.None e = rw (last_first 0 (remaining_after p path) (left_rises p path) e) refl
    look (Some k) e = let a = above_is 0 1 (remaining_after p path) k (left_rises p path) e in
        rw (below_none_from k 1 (remaining_after p path) (left_rises p path) (λ j i. a.least j i (rises_member 1 j (remaining_after p path) (left_rises p path) i))) refl
prev_next_at p X5 path (At o) f g = rw (split_last_push path o) refl
prev_next_at p X5 path Past f g = refl
prev_next_at p X6 path (At o) f g = look (above o (remaining_after p path)) refl
  where
    look : (a : Option ℕ) → above o (remaining_after p path) ≡ a → prev p (at X5 path (next_cursor a)) ≡ at X6 path (At o)
    look prelude.None e = rw (last_above o 1 (remaining_after p path) (left_rises p path) f.1.left e) refl
    look (Some k) e = rw (below_above o 1 k (remaining_after p path) (left_rises p path) f.1.left e) refl
prev_next_at p X7 path cursor.None f g = rw (open_is p path f.1) refl
prev_next_at p X8 path cursor.None f g = step (split_last_cases path)
  where
    step : (path ≡ []) ⊎ ((q : List ℕ) × (o : ℕ) × (path ≡ q ++ o ∷ [])) → prev p (taken_back (split_last path)) ≡ at X8 path cursor.None
    step (inl e) = rw e refl
    step (inr s) = rw (s.2, split_last_push s.0 s.1) refl
prev_next_at p Done path cursor.None f g = absurd (g refl)
prev_next_at p _ path _ f g = absurd f

pub prev_next : (p : ProblemValue) (s : StateValue) → Fits p s → (s.label ≡ Done → ⊥) → prev p (next p s) ≡ s
unfolding next
prev_next p s f g = prev_next_at p s.label s.path s.cursor f g

next_prev_at : (p : ProblemValue) (l : Label) (path : List ℕ) (k : Cursor) → FitsAt p l path k → (l ≡ X1 → ⊥) → next p (prev_at p l path k) ≡ at l path k
unfolding next
next_prev_at p X1 path cursor.None f g = absurd (g refl)
next_prev_at p X2 path cursor.None f g = step (split_last_cases path)
  where
    step : (path ≡ []) ⊎ ((q : List ℕ) × (o : ℕ) × (path ≡ q ++ o ∷ [])) → next p (entered_from (split_last path)) ≡ at X2 path cursor.None
    step (inl e) = rw e refl
    step (inr s) = rw (s.2, split_last_push s.0 s.1) refl
next_prev_at p X3 path cursor.None f g = rw (open_is p path f.1) refl
next_prev_at p X4 path cursor.None f g = refl
next_prev_at p X5 path (At o) f g = look (below o (remaining_after p path)) refl
  where
    look : (a : Option ℕ) → below o (remaining_after p path) ≡ a → next p (came_from path a) ≡ at X5 path (At o)
    look prelude.None e = rw (above_from 0 1 (remaining_after p path) o (left_rises p path) (record { member = f.1.left; more = rises_member 1 o (remaining_after p path) (left_rises p path) f.1.left; least = λ j i l. below_none o 1 (remaining_after p path) (left_rises p path) e j i })) refl
    look (Some j) e = rw (above_below j 1 o (remaining_after p path) (left_rises p path) f.1.left e) refl
next_prev_at p X5 path Past f g = look (last_of (remaining_after p path)) refl
  where
    look : (a : Option ℕ) → last_of (remaining_after p path) ≡ a → next p (came_from path a) ≡ at X5 path Past
    look prelude.None e = rw (last_none (remaining_after p path) e) refl
    look (Some j) e = rw (above_last j 1 (remaining_after p path) (left_rises p path) e) refl
next_prev_at p X6 path (At o) f g = rw (split_last_push path o) refl
next_prev_at p X7 path cursor.None f g = refl
next_prev_at p X8 path cursor.None f g = step (open_cases p path)
  where
    step : ((is_open p path ≡ true) × IsOpen p path) ⊎ ((is_open p path ≡ false) × (length (active p (covered_by p path)) ≡ 0)) → next p (prev_at p X8 path cursor.None) ≡ at X8 path cursor.None
    step (inl e) = rw e.0 refl
    step (inr e) = rw (e.0, e.0) refl
next_prev_at p Done path cursor.None f g = rw f refl
next_prev_at p _ path _ f g = absurd f

pub next_prev : (p : ProblemValue) (s : StateValue) → Fits p s → (s.label ≡ X1 → ⊥) → next p (prev p s) ≡ s
unfolding prev
next_prev p s f g = next_prev_at p s.label s.path s.cursor f g
